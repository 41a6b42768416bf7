-- Statements and logs for examples.
use Rattle.std.specs.Prelude.{ℕ, pos, List, [], ◌∷◌, None, Some, codes, false}
use Rattle.mz_value.specs.declared.datum.Datum.{Datum}
use Rattle.mz_value.specs.declared.datum.Datum.TheVariants.{Int}
use Rattle.mz_statement.specs.declared.query.Select.{Select}
use Rattle.mz_statement.specs.declared.statement.Statement.{Statement}
use Rattle.mz_statement.specs.declared.statement.Statement.TheVariants.{Query, CreateIndex, DropIndex, Insert}
use Rattle.mz_log.specs.declared.entry.Replied.{Replied}
use Rattle.mz_log.specs.declared.reply.SeqReply.{SeqReply}

-- ---- statements

-- a row of two INTs
abbrev pub row : ℕ → ℕ → List Datum
row k v = Int (pos k) ∷ Int (pos v) ∷ []

-- INSERT INTO kv VALUES (k, v)
abbrev pub insert : ℕ → ℕ → Statement
insert k v = Insert (codes "kv") (row k v ∷ [])

-- SELECT * FROM a relation
abbrev pub all_of : List ℕ → Select
all_of name = record {
  distinct = false;
  items = None;
  first = record { name = name; alias = None };
  joins = [];
  test = None;
  group = [];
}

-- SELECT * FROM kv
abbrev pub select_kv : Statement
select_kv = Query (all_of (codes "kv") ∷ []) None

-- SELECT * FROM kv AS OF a time
abbrev pub select_kv_at : ℕ → Statement
select_kv_at time = Query (all_of (codes "kv") ∷ []) (Some time)

-- CREATE INDEX ix ON kv
abbrev pub create_ix : Statement
create_ix = CreateIndex (codes "ix") (codes "kv")

-- DROP INDEX ix
abbrev pub drop_ix : Statement
drop_ix = DropIndex (codes "ix")

-- the reply of a round to a call
abbrev pub replied : ℕ → ℕ → Statement → SeqReply → Replied
replied session call statement reply = record { session = session; call = call; statement = statement; reply = reply }
