-- The sequential object on worked rows: what the definitions compute to.
use Rattle.std.proofs.Common.{◌≡◌, ℤ, pos, List, [], ◌∷◌, ◌++◌, None, Some, codes, refl, ap, ◌∙◌}
use Rattle.std.specs.FinMap.{empty, entries}
use Rattle.mz_value.specs.declared.datum.Datum.{Datum}
use Rattle.mz_value.specs.declared.datum.Datum.TheVariants.{Int}
use Rattle.mz_bag.specs.Bag.{Counts, count_in}
use Rattle.mz_bag.specs.Weighted.{Weighted, each_once, negated}
use Rattle.mz_bag.specs.Mass.{mass}
use Rattle.mz_bag.proofs.BagLaws.{count_in-bag_of, entries-empty}
use Rattle.mz_statement.specs.declared.condition.Op.TheVariants.{Eq}
use Rattle.mz_statement.specs.declared.statement.Statement.TheVariants as statement
use Rattle.mz_plan.specs.declared.condition.Cond.{Cond}
use Rattle.mz_plan.specs.declared.condition.Cond.TheVariants.{Compare}
use Rattle.mz_plan.specs.declared.condition.Operand.TheVariants.{Literal}
use Rattle.mz_plan.specs.declared.plan.Plan.TheVariants as plan
use Rattle.mz_plan.specs.declared.resolved.Resolved.{Resolved}
use Rattle.mz_plan.specs.declared.resolved.Resolved.TheVariants.{CreateTable, CreateIndex, Drop, Insert, Delete}
use Rattle.mz_refusal.specs.declared.refusal.Refusal.TheVariants.{NameTaken, HasDependents, TableFull, UnknownName}
use Rattle.mz_log.specs.declared.reply.SeqReply.TheVariants as told
use Rattle.mz_log.specs.Sequential.{Sequential, Moved, kv, opening, int_column, bag_at, difference, changes_between}
use Rattle.mz_log.specs.CarriedOut.{Response, Command, Effect, changing, carried_out, outcome, overfull, rows_of, seq}

-- a row of two INTs
abbrev row : ℤ → ℤ → List Datum
row k v = Int k ∷ Int v ∷ []

-- the state after a command or a query
abbrev after : Sequential → Resolved → Sequential
after state asked = (carried_out state asked).state

-- what it is told
abbrev response : Sequential → Resolved → Response
response state asked = (carried_out state asked).response

-- the count of a row of `kv`
abbrev kv_count : Sequential → List Datum → ℤ
kv_count state of = count_in (bag_at state.database.bags 1) of

-- `kv` with these rows
abbrev holding : Counts → Sequential
holding bag = record {
  database = record { items = kv ∷ []; next = 2; bags = (1, bag) ∷ [] };
  plans = [];
}

-- three rows, of which two are one
abbrev three : List (List Datum)
three = row (pos 1) (pos 2) ∷ row (pos 0) (pos 5) ∷ row (pos 1) (pos 2) ∷ []

-- their counts, in order of values
abbrev three_counts : Weighted
three_counts = (row (pos 0) (pos 5), pos 1) ∷ (row (pos 1) (pos 2), pos 2) ∷ []

-- the first column is 1
abbrev is_one : Cond
is_one = Compare 0 Eq (Literal (Int (pos 1)))

-- ---- INSERT, DELETE and queries

-- an INSERT of the three rows into a table with these
abbrev inserting : Weighted → Effect
inserting es = changing (overfull (mass es) 3) (told.Inserted 3) (Moved 1 (each_once three))

-- a row that is named twice counts twice
twice_named : (bag : Counts) → entries bag ≡ [] → kv_count (after (holding bag) (Insert 1 three)) (row (pos 1) (pos 2)) ≡ pos 2
twice_named bag is =
    ap (λ es. kv_count (outcome (holding bag) (inserting es)).state (row (pos 1) (pos 2))) is
    ∙ rw is (count_in-bag_of (each_once three) (row (pos 1) (pos 2)))

-- and the reply counts it so
counted_twice : (bag : Counts) → entries bag ≡ [] → response (holding bag) (Insert 1 three) ≡ Command (told.Inserted 3)
counted_twice bag is = ap (λ es. (inserting es).response) is

-- a DELETE takes the rows that meet its condition, each as often as it is there
met_counted : (bag : Counts) → entries bag ≡ three_counts → response (holding bag) (Delete 1 (Some is_one)) ≡ Command (told.Deleted 2)
met_counted bag is = rw is refl

-- they are gone then
met_go : (bag : Counts) → entries bag ≡ three_counts → kv_count (after (holding bag) (Delete 1 (Some is_one))) (row (pos 1) (pos 2)) ≡ pos 0
met_go bag is = rw is (count_in-bag_of (three_counts ++ negated ((row (pos 1) (pos 2), pos 2) ∷ [])) (row (pos 1) (pos 2)))

-- and the others stay
others_stay : (bag : Counts) → entries bag ≡ three_counts → kv_count (after (holding bag) (Delete 1 (Some is_one))) (row (pos 0) (pos 5)) ≡ pos 1
others_stay bag is = rw is (count_in-bag_of (three_counts ++ negated ((row (pos 1) (pos 2), pos 2) ∷ [])) (row (pos 0) (pos 5)))

-- without a condition all go
all_go : (bag : Counts) → entries bag ≡ three_counts → response (holding bag) (Delete 1 None) ≡ Command (told.Deleted 3)
all_go bag is = rw is refl

-- a query sees the rows of a table
table_read : (bag : Counts) → entries bag ≡ three_counts → rows_of (holding bag) (plan.Table 1) ≡ three_counts
table_read bag is = rw is refl

-- a table is full with 65,536 rows
last_fits : overfull 65535 1 ≡ None
last_fits = refl

-- and one more is refused
one_more_refused : overfull 65536 1 ≡ Some (TableFull 65536 1)
one_more_refused = refl

-- ---- CREATE and DROP

-- a column that is named twice is refused before the name that is taken
twin_refused : response opening (CreateTable (codes "kv") (int_column (codes "a") ∷ int_column (codes "b") ∷ int_column (codes "a") ∷ []))
    ≡ Command (told.Refused (NameTaken (codes "a")))
twin_refused = refl

-- a name that is taken is refused
taken_refused : response opening (CreateTable (codes "kv") (int_column (codes "a") ∷ [])) ≡ Command (told.Refused (NameTaken (codes "kv")))
taken_refused = refl

-- a table `t` is made
abbrev with_table : Sequential
with_table = after opening (CreateTable (codes "t") (int_column (codes "a") ∷ []))

-- items are numbered on
numbered_on : response opening (CreateTable (codes "t") (int_column (codes "a") ∷ [])) ≡ Command (told.Created 2)
numbered_on = refl

-- a new table has no row
made_without_rows : with_table.database.bags ≡ (1, empty) ∷ (2, empty) ∷ []
made_without_rows = refl

-- and is among the changes
made_is_listed : changes_between opening.database.bags with_table.database.bags ≡ (1, difference empty empty) ∷ (2, difference empty empty) ∷ []
made_is_listed = refl

-- an index over `kv`
abbrev indexed : Sequential
indexed = after opening (CreateIndex (codes "i") 1 (plan.Table 1) 0)

-- what has an index isn't dropped
dependents_keep : response indexed (Drop 1) ≡ Command (told.Refused (HasDependents (codes "i")))
dependents_keep = refl

-- the plan of an index stays when it is dropped, and no number is used again
plans_stay : (after (after indexed (Drop 2)) (CreateIndex (codes "j") 1 (plan.Table 1) 0)).plans ≡ (3, plan.Table 1) ∷ (2, plan.Table 1) ∷ []
plans_stay = refl

-- a table that is dropped takes its rows with it
rows_go : (bag : Counts) → (after (holding bag) (Drop 1)).database ≡ record { items = []; next = 2; bags = [] }
rows_go bag = refl

-- ---- statements

-- a name is looked up among the items that there are then
found_by_name : (seq opening 0 (statement.Insert (codes "kv") (row (pos 7) (pos 7) ∷ []))).response ≡ Command (told.Inserted 1)
unfolding seq
found_by_name = rw entries-empty refl

-- what isn't found is refused
unknown_name : (seq opening 0 (statement.DropTable (codes "t"))).response ≡ Command (told.Refused (UnknownName (codes "t")))
unfolding seq
unknown_name = refl

-- a statement that is refused leaves the state
refused_stays : (seq opening 0 (statement.DropTable (codes "t"))).state ≡ opening
unfolding seq
refused_stays = refl
