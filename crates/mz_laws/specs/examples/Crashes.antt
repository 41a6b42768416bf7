-- Replicas that are lost, and join again.
use Rattle.std.specs.Prelude.{◌≡◌, ℕ, [], ◌∷◌, ◌++◌, None, Err, codes}
use Rattle.mz_plan.specs.declared.command.Place.{Place}
use Rattle.mz_books.specs.Streams.{live_stream}
use Rattle.mz_script.specs.EventTexts.{finished_text}
use Rattle.mz_books.specs.GivenReplicas.{OldIncarnation, Ahead, feed_given}
use Rattle.mz_script.specs.declared.script_line.ScriptLine.TheVariants.{CrashReplica, CommitRound, RejoinReplica, Settle}
use Rattle.mz_laws.specs.examples.Logs.{select_kv}
use Rattle.mz_laws.specs.examples.Scripts.{answered, feed_r1, no_rows, s1, texts}

-- a read waits while no replica is there; one that joins again is told of it at once
abbrev pub Rejoined : Type 0
Rejoined =
    answered (CommitRound ∷ CrashReplica (codes "r1") ∷ s1 select_kv ∷ Settle ∷ CommitRound ∷ RejoinReplica (codes "r1")
    ∷ feed_r1 ∷ Settle ∷ [])
    ≡ texts (codes "round 1 at 1: 0 commands"
    ∷ codes "round 1 done"
    ∷ codes "r1 crashed"
    ∷ codes "s1#1 reading at 1, peek 1"
    ∷ codes "round 2 at 2: 0 commands"
    ∷ codes "round 2 done"
    ∷ codes "r1 joined as 2"
    ∷ codes "feed 1: r1/2 turn 0, 2 commands, to 2"
    ∷ codes "  create 2 as of 1"
    ∷ codes "  peek 1 on 2 at 1"
    ∷ [])
    ++ ((((finished_text (codes "s1") 1 1 no_rows ++ []) ++ []) ++ []) ++ [])

-- a standing of the first replica
abbrev pub standing : ℕ → ℕ → Place
standing incarnation taken = record { incarnation = incarnation; turn = 0; taken = taken; ready = 0 }

-- a feed is refused for a standing of another incarnation
abbrev pub OtherIncarnation : Type 0
OtherIncarnation = (feed_given [] (live_stream [] (codes "r1")) (standing 2 0) None).answer ≡ Err (OldIncarnation 1 2)

-- and for one that has taken more than there is
abbrev pub TooFar : Type 0
TooFar = (feed_given [] (live_stream [] (codes "r1")) (standing 1 5) None).answer ≡ Err (Ahead 0 0 (standing 1 5))
