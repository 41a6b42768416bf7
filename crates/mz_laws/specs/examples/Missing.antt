-- Lines that name what there isn't.
use Rattle.std.specs.Prelude.{◌≡◌, [], ◌∷◌, Some, codes}
use Rattle.mz_script.specs.declared.script_line.ScriptLine.TheVariants.{Unreadable, FinishRound, TakeFeed, AbsorbPacket, MakeFeed, RejoinReplica, AddReplica, GiveBack, CancelCall, Tick, BeginRound, CommitRound}
use Rattle.mz_laws.specs.examples.Scripts.{answered, texts}

-- lines that nothing can be made of are counted
abbrev pub NoneThere : Type 0
NoneThere =
    answered (Unreadable ∷ Unreadable ∷ FinishRound ∷ TakeFeed 7 ∷ AbsorbPacket 7 ∷ MakeFeed (codes "r1") (Some 9)
    ∷ RejoinReplica (codes "r1") ∷ RejoinReplica (codes "r5") ∷ AddReplica (codes "r1") (codes "main")
    ∷ AddReplica (codes "r2") (codes "side") ∷ GiveBack 1 ∷ CancelCall (codes "s9") ∷ [])
    ≡ texts (codes "line 1 is unreadable"
    ∷ codes "line 2 is unreadable"
    ∷ codes "no round"
    ∷ codes "no feed 7"
    ∷ codes "no packet 7"
    ∷ codes "asked 9, read 0"
    ∷ codes "r1 is live"
    ∷ codes "no replica r5"
    ∷ codes "r1 is taken"
    ∷ codes "no cluster side"
    ∷ codes "no hold 1"
    ∷ codes "no session s9"
    ∷ [])

-- the clock gives the time of a round, but each round is later than the one before
abbrev pub Ticks : Type 0
Ticks =
    answered (Tick 1000 ∷ CommitRound ∷ Tick 5 ∷ BeginRound ∷ BeginRound ∷ CommitRound ∷ FinishRound ∷ [])
    ≡ texts (codes "round 1 at 1000: 0 commands"
    ∷ codes "round 1 done"
    ∷ codes "round 2 at 1001: 0 commands"
    ∷ codes "round 2 is open"
    ∷ codes "round 2 is open"
    ∷ codes "round 2 done"
    ∷ [])
