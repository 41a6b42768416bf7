-- Calls that are cancelled, sessions that are closed, and time that is spent.
use Rattle.std.specs.Prelude.{◌≡◌, [], ◌∷◌, codes}
use Rattle.mz_script.specs.declared.script_line.ScriptLine.TheVariants.{CrashReplica, CancelCall, CloseSession, BeginRound, FinishRound, CommitRound, Tick}
use Rattle.mz_laws.specs.examples.Logs.{create_ix, drop_ix, select_kv}
use Rattle.mz_laws.specs.examples.Scripts.{answered, s1, texts}

-- a read may be cancelled, and a command that waits, but not one of the open round
abbrev pub Cancelled : Type 0
Cancelled =
    answered (CrashReplica (codes "r1") ∷ s1 select_kv ∷ CancelCall (codes "s1") ∷ CancelCall (codes "s1")
    ∷ s1 create_ix ∷ BeginRound ∷ CancelCall (codes "s1") ∷ CloseSession (codes "s1") ∷ FinishRound ∷ CloseSession (codes "s1")
    ∷ s1 select_kv ∷ [])
    ≡ texts (codes "r1 crashed"
    ∷ codes "s1#1 reading at 0, peek 1"
    ∷ codes "s1#1 cancelled at 0"
    ∷ codes "s1 has no call"
    ∷ codes "s1#2 queued"
    ∷ codes "round 1 at 1: 1 commands"
    ∷ codes "round 1 is open"
    ∷ codes "s1 refused 10: call 2"
    ∷ codes "round 1 done"
    ∷ codes "s1#2 at 1: created"
    ∷ codes "s1 closed"
    ∷ codes "s1 refused 19: closed"
    ∷ [])

-- where no time is left, each command that waits is refused
abbrev pub Spent : Type 0
Spent =
    answered (Tick 9223372036854775806 ∷ s1 create_ix ∷ CommitRound ∷ s1 drop_ix ∷ CommitRound ∷ [])
    ≡ texts (codes "s1#1 queued"
    ∷ codes "round 1 at 9223372036854775806: 1 commands"
    ∷ codes "round 1 done"
    ∷ codes "s1#1 at 9223372036854775806: created"
    ∷ codes "s1#2 queued"
    ∷ codes "time spent: last 9223372036854775806, clock 9223372036854775806"
    ∷ codes "s1#2 refused 18: last 9223372036854775806"
    ∷ [])
