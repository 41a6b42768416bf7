-- Peeks that two replicas answer, packets that come late or twice, and feeds that end before the time of a peek.
use Rattle.std.specs.Prelude.{◌≡◌, [], ◌∷◌, ◌++◌, None, Some, codes}
use Rattle.mz_statement.specs.declared.statement.Statement.TheVariants.{ShowFrontiers}
use Rattle.mz_script.specs.declared.script_line.ScriptLine.TheVariants.{AddReplica, CommitRound, MakeFeed, TakeFeed, AbsorbPacket}
use Rattle.mz_laws.specs.examples.Logs.{create_ix, drop_ix, select_kv}
use Rattle.mz_laws.specs.examples.Scripts.{absorbed_one, answered, feed_r1, s1, s2, texts}

-- the first answer finishes the peek
abbrev pub TwoAnswer : Type 0
TwoAnswer =
    answered (AddReplica (codes "r2") (codes "main") ∷ s1 select_kv ∷ feed_r1 ∷ MakeFeed (codes "r2") None
    ∷ TakeFeed 1 ∷ TakeFeed 2 ∷ AbsorbPacket 1 ∷ AbsorbPacket 2 ∷ [])
    ≡ texts (codes "r2 joined as 1"
    ∷ codes "s1#1 reading at 0, peek 1"
    ∷ codes "feed 1: r1/1 turn 0, 2 commands, to 0"
    ∷ codes "  create 2 as of 0"
    ∷ codes "  peek 1 on 2 at 0"
    ∷ codes "feed 2: r2/1 turn 0, 2 commands, to 0"
    ∷ codes "  create 2 as of 0"
    ∷ codes "  peek 1 on 2 at 0"
    ∷ codes "packet 1: r1/1 turn 0, ready 1, 1 answers"
    ∷ codes "packet 2: r2/1 turn 0, ready 1, 1 answers"
    ∷ [])
    ++ (absorbed_one 1 (codes "s1") 1 0
    ++ texts (codes "packet 2 absorbed" ∷ codes "  peek 1 not pending" ∷ []))

-- an older packet that comes after a newer one changes nothing, nor does one that comes again
abbrev pub Late : Type 0
Late =
    answered (s1 create_ix ∷ CommitRound ∷ feed_r1 ∷ TakeFeed 1 ∷ CommitRound ∷ feed_r1 ∷ TakeFeed 2 ∷ AbsorbPacket 2
    ∷ AbsorbPacket 1 ∷ AbsorbPacket 2 ∷ s1 ShowFrontiers ∷ [])
    ≡ texts (codes "s1#1 queued"
    ∷ codes "round 1 at 1: 1 commands"
    ∷ codes "round 1 done"
    ∷ codes "s1#1 at 1: created"
    ∷ codes "feed 1: r1/1 turn 0, 1 commands, to 1"
    ∷ codes "  create 2 as of 1"
    ∷ codes "packet 1: r1/1 turn 0, ready 2, 0 answers"
    ∷ codes "round 2 at 2: 0 commands"
    ∷ codes "round 2 done"
    ∷ codes "feed 2: r1/1 turn 1, 0 commands, to 2"
    ∷ codes "packet 2: r1/1 turn 1, ready 3, 0 answers"
    ∷ codes "packet 2 absorbed"
    ∷ codes "packet 1 absorbed"
    ∷ codes "packet 2 absorbed"
    ∷ codes "s1#2 frontiers at 2: 2"
    ∷ codes "  1 kv: since 2, upper 3, holds 0"
    ∷ codes "  2 ix: since 2, upper 3, holds 0"
    ∷ [])

-- a feed may end before the time of a peek. The sinces go on, and the next feed allows it
abbrev pub Short : Type 0
Short =
    answered (s1 create_ix ∷ CommitRound ∷ CommitRound ∷ CommitRound ∷ s2 select_kv ∷ MakeFeed (codes "r1") (Some 2) ∷ TakeFeed 1
    ∷ AbsorbPacket 1 ∷ s1 ShowFrontiers ∷ feed_r1 ∷ TakeFeed 2 ∷ AbsorbPacket 2 ∷ [])
    ≡ texts (codes "s1#1 queued"
    ∷ codes "round 1 at 1: 1 commands"
    ∷ codes "round 1 done"
    ∷ codes "s1#1 at 1: created"
    ∷ codes "round 2 at 2: 0 commands"
    ∷ codes "round 2 done"
    ∷ codes "round 3 at 3: 0 commands"
    ∷ codes "round 3 done"
    ∷ codes "s2#1 reading at 3, peek 1"
    ∷ codes "feed 1: r1/1 turn 0, 2 commands, to 2"
    ∷ codes "  create 2 as of 1"
    ∷ codes "  peek 1 on 2 at 3"
    ∷ codes "packet 1: r1/1 turn 0, ready 3, 0 answers"
    ∷ codes "packet 1 absorbed"
    ∷ codes "s1#2 frontiers at 3: 2"
    ∷ codes "  1 kv: since 2, upper 4, holds 0"
    ∷ codes "  2 ix: since 2, upper 3, holds 0"
    ∷ codes "feed 2: r1/1 turn 1, 1 commands, to 3"
    ∷ codes "  allow 2 to 2"
    ∷ codes "packet 2: r1/1 turn 1, ready 4, 1 answers"
    ∷ [])
    ++ (absorbed_one 2 (codes "s2") 1 3 ++ [])

-- an index that is dropped under a pending peek is held by it, and holds the table; once the peek is answered, it goes
abbrev pub Dropped : Type 0
Dropped =
    answered (s1 create_ix ∷ CommitRound ∷ s2 select_kv ∷ s1 drop_ix ∷ CommitRound ∷ s1 ShowFrontiers ∷ feed_r1 ∷ TakeFeed 1
    ∷ AbsorbPacket 1 ∷ feed_r1 ∷ s1 ShowFrontiers ∷ [])
    ≡ texts (codes "s1#1 queued"
    ∷ codes "round 1 at 1: 1 commands"
    ∷ codes "round 1 done"
    ∷ codes "s1#1 at 1: created"
    ∷ codes "s2#1 reading at 1, peek 1"
    ∷ codes "s1#2 queued"
    ∷ codes "round 2 at 2: 1 commands"
    ∷ codes "round 2 done"
    ∷ codes "s1#2 at 2: dropped"
    ∷ codes "s1#3 frontiers at 2: 2"
    ∷ codes "  1 kv: since 1, upper 3, holds 0"
    ∷ codes "  2 ix: since 1, upper 1, holds 0"
    ∷ codes "feed 1: r1/1 turn 0, 2 commands, to 2"
    ∷ codes "  create 2 as of 1"
    ∷ codes "  peek 1 on 2 at 1"
    ∷ codes "packet 1: r1/1 turn 0, ready 3, 1 answers"
    ∷ [])
    ++ (absorbed_one 1 (codes "s2") 1 1
    ++ texts (codes "feed 2: r1/1 turn 1, 2 commands, to 2"
    ∷ codes "  retire 1"
    ∷ codes "  drop 2"
    ∷ codes "s1#4 frontiers at 2: 1"
    ∷ codes "  1 kv: since 2, upper 3, holds 0"
    ∷ []))
