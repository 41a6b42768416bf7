-- Reads at a time that is named, holds, and refusals.
use Rattle.std.specs.Prelude.{◌≡◌, [], ◌∷◌, None, codes}
use Rattle.mz_statement.specs.declared.column.ColumnType.TheVariants.{Int}
use Rattle.mz_statement.specs.declared.statement.Keep.TheVariants.{Lag}
use Rattle.mz_statement.specs.declared.statement.Statement.{Statement}
use Rattle.mz_statement.specs.declared.statement.Statement.TheVariants.{Query, CreateTable, CreateView, DropTable, Retain, ShowFrontiers, Start, Commit}
use Rattle.mz_grammar.specs.declared.asked.Asked.TheVariants as asks
use Rattle.mz_script.specs.declared.script_line.ScriptLine.{ScriptLine}
use Rattle.mz_script.specs.declared.script_line.ScriptLine.TheVariants.{Says, CommitRound, TakeHold, MoveHold, GiveBack}
use Rattle.mz_laws.specs.examples.Logs.{all_of, create_ix, select_kv_at}
use Rattle.mz_laws.specs.examples.Scripts.{answered, s1, s2, texts}

-- RETAIN kv LAG 3
abbrev retain_three : Statement
retain_three = Retain (codes "kv") (Lag 3)

-- a time may be named from the since on, up to the read time, and from what the session has seen on
abbrev pub AsOf : Type 0
AsOf =
    answered (s1 retain_three ∷ CommitRound ∷ CommitRound ∷ CommitRound ∷ CommitRound ∷ s1 ShowFrontiers
    ∷ s2 (select_kv_at 1) ∷ s2 (select_kv_at 9) ∷ s1 (select_kv_at 3) ∷ s2 (select_kv_at 2) ∷ [])
    ≡ texts (codes "s1#1 retained at 0"
    ∷ codes "round 1 at 1: 0 commands"
    ∷ codes "round 1 done"
    ∷ codes "round 2 at 2: 0 commands"
    ∷ codes "round 2 done"
    ∷ codes "round 3 at 3: 0 commands"
    ∷ codes "round 3 done"
    ∷ codes "round 4 at 4: 0 commands"
    ∷ codes "round 4 done"
    ∷ codes "s1#2 frontiers at 4: 1"
    ∷ codes "  1 kv: since 2, upper 5, holds 0"
    ∷ codes "s2#1 refused 12: asked 1, since 2"
    ∷ codes "s2#2 refused 13: asked 9, read 4"
    ∷ codes "s1#3 refused 11: asked 3, seen 4"
    ∷ codes "s2#3 reading at 2, peek 1"
    ∷ [])

-- a hold is taken from the since up to the read time, and moves on alone
abbrev pub Holds : Type 0
Holds =
    answered (CommitRound ∷ TakeHold (codes "kv") 1 ∷ CommitRound ∷ MoveHold 1 0 ∷ MoveHold 1 9 ∷ MoveHold 1 2 ∷ GiveBack 1
    ∷ GiveBack 1 ∷ TakeHold (codes "kv") 0 ∷ TakeHold (codes "nope") 1 ∷ [])
    ≡ texts (codes "round 1 at 1: 0 commands"
    ∷ codes "round 1 done"
    ∷ codes "hold 1: kv at 1"
    ∷ codes "round 2 at 2: 0 commands"
    ∷ codes "round 2 done"
    ∷ codes "refused 20: at 1, asked 0"
    ∷ codes "refused 13: asked 9, read 2"
    ∷ codes "hold 1: kv at 2"
    ∷ codes "hold 1 released"
    ∷ codes "no hold 1"
    ∷ codes "refused 12: asked 0, since 2"
    ∷ codes "refused 2: nope"
    ∷ [])

-- CREATE TABLE kv (a INT)
abbrev create_kv : Statement
create_kv = CreateTable (codes "kv") (record { name = codes "a"; kind = Int } ∷ [])

-- CREATE VIEW v AS SELECT * FROM kv
abbrev create_v : Statement
create_v = CreateView (codes "v") (all_of (codes "kv") ∷ [])

-- a session that says a text which spells nothing
abbrev misspells : ScriptLine
misspells = Says (codes "s1") (codes "SELEC") (asks.Syntax 0)

-- a text that spells nothing is a call that is refused. Names are looked up as a query is submitted, and for commands in their round
abbrev pub Refusals : Type 0
Refusals =
    answered (misspells ∷ Says (codes "s1") [] (asks.LiteralRange 26) ∷ s1 (Query (all_of (codes "nope") ∷ []) None)
    ∷ s1 Commit ∷ s1 Start ∷ s1 create_ix ∷ s1 Commit ∷ s1 (Retain (codes "v") (Lag 1)) ∷ s1 create_kv ∷ s2 create_v
    ∷ Says (codes "s3") [] (asks.Statement (DropTable (codes "kv"))) ∷ CommitRound ∷ s1 (Retain (codes "v") (Lag 1)) ∷ [])
    ≡ texts (codes "s1#1 refused 1: at 0"
    ∷ codes "s1#2 refused 6: at 26"
    ∷ codes "s1#3 refused 2: nope"
    ∷ codes "s1#4 refused 16: no transaction"
    ∷ codes "s1#5 began at 0"
    ∷ codes "s1#6 refused 15: in transaction"
    ∷ codes "s1#7 committed at 0"
    ∷ codes "s1#8 refused 2: v"
    ∷ codes "s1#9 queued"
    ∷ codes "s2#1 queued"
    ∷ codes "s3#1 queued"
    ∷ codes "round 1 at 1: 3 commands"
    ∷ codes "round 1 done"
    ∷ codes "s1#9 at 1: refused 4: kv"
    ∷ codes "s2#1 at 1: created"
    ∷ codes "s3#1 at 1: refused 8: v"
    ∷ codes "s1#10 refused 5: v"
    ∷ [])
