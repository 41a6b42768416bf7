-- What lines say.
use Rattle.std.specs.Prelude.{◌≡◌, [], ◌∷◌, ◌++◌, None, Some, codes, map}
use Rattle.mz_sql.specs.Asked.{asked}
use Rattle.mz_script.specs.declared.script_line.ScriptLine.TheVariants.{Skipped, Unreadable, Says, Tick, BeginRound, FinishRound, CommitRound, Settle, AddReplica, CrashReplica, RejoinReplica, MakeFeed, TakeFeed, AbsorbPacket, TakeHold, MoveHold, GiveBack, CancelCall, CloseSession}
use Rattle.mz_script.specs.Lines.{line_says}

-- the text of a session begins behind the spaces after the colon, and goes on to the end of the line
abbrev pub SessionLines : Type 0
SessionLines =
    map line_says (codes "s1: COMMIT" ∷ codes "s_2:COMMIT" ∷ codes "commit:   a b  " ∷ codes "s1:" ∷ codes "s1 : COMMIT" ∷ codes "S1: COMMIT"
    ∷ codes "_s: COMMIT" ∷ codes " s1: COMMIT" ∷ codes ": COMMIT" ∷ [])
    ≡ Says (codes "s1") (codes "COMMIT") (asked (codes "COMMIT"))
    ∷ Says (codes "s_2") (codes "COMMIT") (asked (codes "COMMIT"))
    ∷ Says (codes "commit") (codes "a b  ") (asked (codes "a b  "))
    ∷ Says (codes "s1") [] (asked [])
    ∷ Unreadable
    ∷ Unreadable
    ∷ Unreadable
    ∷ Unreadable
    ∷ Unreadable
    ∷ []

-- words are separated by one or more spaces, and none stands at an end
abbrev pub WordLines : Type 0
WordLines =
    map line_says (codes "begin" ∷ codes "finish" ∷ codes "commit" ∷ codes "settle" ∷ codes "tick 5" ∷ codes "tick   5" ∷ codes "tick 5 "
    ∷ codes " tick 5" ∷ codes "tick" ∷ codes "tick 5 6" ∷ codes "ticks 5" ∷ codes "tick a" ∷ codes "commit 1" ∷ codes "take 1" ∷ codes "absorb 2"
    ∷ codes "release 3" ∷ codes "cancel s1" ∷ codes "close s1" ∷ codes "hold kv 4" ∷ codes "hold 4 kv" ∷ codes "downgrade 1 2" ∷ codes "downgrade kv 2" ∷ [])
    ≡ BeginRound
    ∷ FinishRound
    ∷ CommitRound
    ∷ Settle
    ∷ Tick 5
    ∷ Tick 5
    ∷ Unreadable
    ∷ Unreadable
    ∷ Unreadable
    ∷ Unreadable
    ∷ Unreadable
    ∷ Unreadable
    ∷ Unreadable
    ∷ TakeFeed 1
    ∷ AbsorbPacket 2
    ∷ GiveBack 3
    ∷ CancelCall (codes "s1")
    ∷ CloseSession (codes "s1")
    ∷ TakeHold (codes "kv") 4
    ∷ Unreadable
    ∷ MoveHold 1 2
    ∷ Unreadable
    ∷ []

-- no line names a cluster yet
abbrev pub ReplicaLines : Type 0
ReplicaLines =
    map line_says (codes "replica r2" ∷ codes "crash r2" ∷ codes "rejoin r2" ∷ codes "feed r2" ∷ codes "feed r2 7" ∷ codes "replica r2 main"
    ∷ codes "cluster side" ∷ codes "replica 2" ∷ [])
    ≡ AddReplica (codes "r2") (codes "main")
    ∷ CrashReplica (codes "r2")
    ∷ RejoinReplica (codes "r2")
    ∷ MakeFeed (codes "r2") None
    ∷ MakeFeed (codes "r2") (Some 7)
    ∷ Unreadable
    ∷ Unreadable
    ∷ Unreadable
    ∷ []

-- a number has no sign, no zero before other digits, and a bound
abbrev pub Numbers : Type 0
Numbers =
    map line_says (codes "tick 0" ∷ codes "tick 00" ∷ codes "tick 05" ∷ codes "tick +5" ∷ codes "tick -5" ∷ codes "tick 9223372036854775807"
    ∷ codes "tick 9223372036854775808" ∷ codes "tick 00000000000000000000" ∷ [])
    ≡ Tick 0 ∷ Unreadable ∷ Unreadable ∷ Unreadable ∷ Unreadable ∷ Tick 9223372036854775807 ∷ Unreadable ∷ Unreadable ∷ []

-- a CR before the end is dropped, once. A remark is skipped, unless it isn't UTF-8
abbrev pub Ends : Type 0
Ends =
    map line_says ([] ∷ (13 ∷ []) ∷ (codes "begin" ++ (13 ∷ [])) ∷ (codes "begin" ++ (13 ∷ 13 ∷ [])) ∷ codes "--" ∷ codes "-- begin" ∷ codes "- begin" ∷ codes " "
    ∷ codes " --" ∷ (codes "--" ++ (255 ∷ [])) ∷ (codes "begin" ++ (255 ∷ [])) ∷ [])
    ≡ Skipped
    ∷ Skipped
    ∷ BeginRound
    ∷ Unreadable
    ∷ Skipped
    ∷ Skipped
    ∷ Unreadable
    ∷ Unreadable
    ∷ Unreadable
    ∷ Unreadable
    ∷ Unreadable
    ∷ []
