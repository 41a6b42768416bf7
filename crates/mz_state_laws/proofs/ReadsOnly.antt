-- What a plan gives hangs on the tables alone that it reads, also through indexes.
use Rattle.std.proofs.Common.{◌≡◌, ◌==◌, ℕ, Bool, true, false, cond, List, [], ◌∷◌, ◌++◌, refl, sym, ap, ◌∙◌, true≢false}
use Rattle.std.proofs.lemmas.Bool.{eqb-true}
use Rattle.std.specs.FinMap.{entries}
use Rattle.std.specs.List.{AllByRecursion as Each}
use Rattle.mz_plan.specs.Bound.{either_of}
use Rattle.mz_plan.specs.Leaves.{AllLeaves}
use Rattle.mz_plan.specs.Meaning.{Leaves, index_rows, meaning, table_rows}
use Rattle.mz_plan.specs.declared.item.Item.{Item}
use Rattle.mz_plan.specs.declared.plan.Plan.{Plan}
use Rattle.mz_plan_laws.proofs.LeafLaws.{named_same}
use Rattle.mz_resolve_laws.proofs.ScopeStatements.{leaves_weaker}
use Rattle.mz_log.specs.CarriedOut.{rows_of}
use Rattle.mz_log.specs.Sequential.{Bags, Sequential}
use Rattle.mz_state_laws.specs.Reads.{IndexReadsOnly, Passes, ReadsOnly, is_there}

-- ---- less is wanted

-- of the tables of an index
pub index_weaker : (P Q : ℕ → Type 0) → ((n : ℕ) → P n → Q n) → (plans : List (ℕ × Plan)) (item : ℕ) → IndexReadsOnly P plans item
    → IndexReadsOnly Q plans item
index_weaker P Q f [] item h = tt
index_weaker P Q f (newest ∷ older) item h =
    by (newest.0 == item) (leaves_weaker P (IndexReadsOnly P older) Q (IndexReadsOnly Q older) f (index_weaker P Q f older) newest.1)
    (index_weaker P Q f older item) h
  where
    by : (c : Bool) → (AllLeaves P (IndexReadsOnly P older) newest.1 → AllLeaves Q (IndexReadsOnly Q older) newest.1)
        → (IndexReadsOnly P older item → IndexReadsOnly Q older item)
        → either_of c (AllLeaves P (IndexReadsOnly P older) newest.1) (IndexReadsOnly P older item)
        → either_of c (AllLeaves Q (IndexReadsOnly Q older) newest.1) (IndexReadsOnly Q older item)
    by true first rest k = first k
    by false first rest k = rest k

-- and of a plan
pub reads_weaker : (P Q : ℕ → Type 0) → ((n : ℕ) → P n → Q n) → (plans : List (ℕ × Plan)) (plan : Plan) → ReadsOnly P plans plan
    → ReadsOnly Q plans plan
reads_weaker P Q f plans plan h = leaves_weaker P (IndexReadsOnly P plans) Q (IndexReadsOnly Q plans) f (index_weaker P Q f plans) plan h

-- ---- the same rows

-- an index gives the same over the same rows of the tables that it reads
index_same : (rows others : Leaves) (plans : List (ℕ × Plan)) (item : ℕ) → IndexReadsOnly (λ n. rows n ≡ others n) plans item
    → index_rows rows plans item ≡ index_rows others plans item
index_same rows others [] item h = refl
index_same rows others (newest ∷ older) item h =
    by (newest.0 == item)
    (λ k. named_same rows others (index_rows rows older) (index_rows others older) newest.1
    (leaves_weaker (λ n. rows n ≡ others n) (IndexReadsOnly (λ n. rows n ≡ others n) older) (λ n. rows n ≡ others n)
    (λ n. index_rows rows older n ≡ index_rows others older n) (λ n same. same) (index_same rows others older) newest.1 k))
    (index_same rows others older item) h
  where
    by : (c : Bool)
        → (AllLeaves (λ n. rows n ≡ others n) (IndexReadsOnly (λ n. rows n ≡ others n) older) newest.1
        → meaning rows (index_rows rows older) newest.1 ≡ meaning others (index_rows others older) newest.1)
        → (IndexReadsOnly (λ n. rows n ≡ others n) older item → index_rows rows older item ≡ index_rows others older item)
        → either_of c (AllLeaves (λ n. rows n ≡ others n) (IndexReadsOnly (λ n. rows n ≡ others n) older) newest.1)
        (IndexReadsOnly (λ n. rows n ≡ others n) older item)
        → cond c (meaning rows (index_rows rows older) newest.1) (index_rows rows older item)
        ≡ cond c (meaning others (index_rows others older) newest.1) (index_rows others older item)
    by true first rest k = first k
    by false first rest k = rest k

-- and so does a plan
reads_same : (rows others : Leaves) (plans : List (ℕ × Plan)) (plan : Plan) → ReadsOnly (λ n. rows n ≡ others n) plans plan
    → meaning rows (index_rows rows plans) plan ≡ meaning others (index_rows others plans) plan
reads_same rows others plans plan h =
    named_same rows others (index_rows rows plans) (index_rows others plans) plan
    (leaves_weaker (λ n. rows n ≡ others n) (IndexReadsOnly (λ n. rows n ≡ others n) plans) (λ n. rows n ≡ others n)
    (λ n. index_rows rows plans n ≡ index_rows others plans n) (λ n same. same) (index_same rows others plans) plan h)

-- a plan that reads only tables that are there gives the same over any rows that are those of a state where there is an item
pub there_same : (state : Sequential) (rows : Leaves)
    → ((number : ℕ) → Passes (is_there state.database.items) number → rows number ≡ table_rows state.database.bags number)
    → (plan : Plan) → ReadsOnly (Passes (is_there state.database.items)) state.plans plan
    → meaning rows (index_rows rows state.plans) plan ≡ rows_of state plan
there_same state rows same plan h =
    reads_same rows (table_rows state.database.bags) state.plans plan
    (reads_weaker (Passes (is_there state.database.items)) (λ n. rows n ≡ table_rows state.database.bags n) same state.plans plan h)

-- ---- bags of what is gone

-- bags of other numbers have no row under this one
gone_none : (items : List Item) (number : ℕ) → Passes (is_there items) number → (more : Bags)
    → Each (λ bag. is_there items bag.0 ≡ false) more → table_rows more number ≡ []
gone_none items number there [] h = refl
gone_none items number there (bag ∷ more) h = by (bag.0 == number) refl (gone_none items number there more h.1)
  where
    by : (c : Bool) → (bag.0 == number) ≡ c → table_rows more number ≡ [] → cond c (entries bag.1) (table_rows more number) ≡ []
    by true is rest = absurd (true≢false (sym there ∙ ap (is_there items) (sym (eqb-true bag.0 number is)) ∙ h.0))
    by false is rest = rest

-- so with them behind others each number of an item has the rows that it has among those
gone_same : (items : List Item) (number : ℕ) → Passes (is_there items) number → (bags more : Bags)
    → Each (λ bag. is_there items bag.0 ≡ false) more → table_rows (bags ++ more) number ≡ table_rows bags number
gone_same items number there [] more h = gone_none items number there more h
gone_same items number there (bag ∷ bags) more h = ap (cond (bag.0 == number) (entries bag.1)) (gone_same items number there bags more h)

-- and a plan that reads only tables that are there the rows that it has
pub without_gone : (state : Sequential) (more : Bags) → Each (λ bag. is_there state.database.items bag.0 ≡ false) more
    → (plan : Plan) → ReadsOnly (Passes (is_there state.database.items)) state.plans plan
    → meaning (table_rows (state.database.bags ++ more)) (index_rows (table_rows (state.database.bags ++ more)) state.plans) plan
    ≡ rows_of state plan
without_gone state more h plan reads =
    there_same state (table_rows (state.database.bags ++ more))
    (λ number there. gone_same state.database.items number there state.database.bags more h) plan reads
