-- A query reads no more than what the names in it stand for.
use Rattle.std.proofs.Common.{◌≡◌, ◌+◌, ℕ, Bool, true, false, cond, List, [], ◌∷◌, map, Ok, Err, bytes_eq, refl, sym, ap, subst}
use Rattle.std.proofs.lemmas.Bool.{or_left, or_right}
use Rattle.std.proofs.lemmas.Slice.Eq.{bytes_eq-Decides}
use Rattle.std.specs.Prelude.{IfOk}
use Rattle.std.specs.List.{AllZip, list_any}
use Rattle.mz_statement.specs.declared.query.Select.{Select}
use Rattle.mz_statement.specs.declared.reference.Join.{Join}
use Rattle.mz_plan.specs.Items.{names}
use Rattle.mz_plan.specs.Leaves.{AllLeaves}
use Rattle.mz_plan.specs.declared.plan.Plan.{Union}
use Rattle.mz_refusal.specs.declared.refusal.Refusal.TheVariants.{UnknownName}
use Rattle.mz_resolution.specs.Queries.{Names, queried, select_of}
use Rattle.mz_resolution.specs.Steps.{Step}
use Rattle.mz_resolution.specs.declared.relation.Referred.{Referred}
use Rattle.mz_resolution.specs.declared.relation.Relation.{Relation}
use Rattle.mz_resolve_laws.proofs.Follows.{AreCalledAlike, Follows, IsCarried, JoinsRead, Reads, queried_follows}
use Rattle.mz_resolve_laws.proofs.QueryLeaves.{queried_fits}

-- ---- the names in a query

-- a name is itself
itself : (name : List ℕ) → bytes_eq name name ≡ true
itself name = (bytes_eq-Decides name name).1 refl

-- joins read the names of their references
joins_read : (P : List ℕ → Type 0) (joins : List Join)
    → ((word : List ℕ) → list_any (λ reference. bytes_eq reference.name word) (map (λ join. join.reference) joins) ≡ true → P word)
    → JoinsRead P joins
joins_read P [] h = tt
joins_read P (join ∷ joins) h = (
  h join.reference.name (or_left _ _ (itself join.reference.name)),
  joins_read P joins (λ word e. h word (or_right _ _ e)),
)

-- a query reads the names that it names
pub names_read : (P : List ℕ → Type 0) (selects : List Select) → ((word : List ℕ) → names selects word ≡ true → P word) → Reads P selects
names_read P [] h = tt
names_read P (select ∷ selects) h = (
  (
    h select.first.name (or_left _ _ (or_left _ _ (itself select.first.name))),
    joins_read P select.joins (λ word e. h word (or_left _ _ (or_right _ _ e))),
  ),
  names_read P selects (λ word e. h word (or_right _ _ e)),
)

-- ---- the same names

-- references that are called alike, of one relation, are one
same_referred : (one other : Referred) → AreCalledAlike (λ r s. r ≡ s) one other → one ≡ other
same_referred one other h i = record { called = h.called i; relation = h.relations i }

-- so are lists of them
same_all : (ones others : List Referred) → AllZip (AreCalledAlike (λ r s. r ≡ s)) ones others → ones ≡ others
same_all [] [] h = refl
same_all [] (other ∷ others) h = absurd h
same_all (one ∷ ones) [] h = absurd h
same_all (one ∷ ones) (other ∷ others) h = λ i. same_referred one other h.0 i ∷ same_all ones others h.1 i

-- that relations are one is carried on by queries
same_carried : IsCarried (λ one other. one ≡ other)
same_carried = record {
  columns = λ one other h. ap (λ r. r.columns) h;
  tables = λ one other h. ap (λ r. r.tables) h;
  selects = λ first other rest others h k select pairs cond keys found i.
      select_of (same_referred first other h i) (same_all rest others k i) select pairs cond keys found;
  unions = λ whole other next more h k i. record {
    columns = (h i).columns;
    plan = Union (h i).plan (k i).plan;
    tables = (h i).tables + (k i).tables;
  };
}

-- a step follows itself
step_itself : (step : Step Relation) → Follows true (λ one other. one ≡ other) step step
step_itself (Ok relation) = refl
step_itself (Err refusal) = refl

-- what holds of what a step gives holds of what one gives that it follows
of_follower : (step other : Step Relation) (P : Relation → Type 0) → Follows true (λ one two. one ≡ two) step other → IfOk other P → IfOk step P
of_follower (Ok one) (Ok two) P same h = subst P (sym same) h
of_follower (Ok one) (Err refusal) P same h = absurd same
of_follower (Err refusal) other P same h = tt

-- the names in a query alone stand for something
abbrev only_named : Names → List Select → Names
only_named words query word = cond (names query word) (words word) (Err (UnknownName word))

-- so what a query gives has the leaves of what its own names stand for
pub named_fits_alone : (t i : ℕ → Type 0) (words : Names) (query : List Select)
    → ((word : List ℕ) → names query word ≡ true → IfOk (words word) (λ relation. AllLeaves t i relation.plan))
    → IfOk (queried words query) (λ relation. AllLeaves t i relation.plan)
named_fits_alone t i words query h =
    of_follower (queried words query) (queried (only_named words query) query) (λ relation. AllLeaves t i relation.plan)
    (queried_follows true (λ one other. one ≡ other) same_carried (λ word. names query word ≡ true) words (only_named words query)
    (λ word named. subst (λ c. Follows true (λ one other. one ≡ other) (words word) (cond c (words word) (Err (UnknownName word)))) (sym named)
    (step_itself (words word)))
    query (names_read (λ word. names query word ≡ true) query (λ word named. named)))
    (queried_fits t i (only_named words query) (λ word. by word (names query word) refl) query)
  where
    by : (word : List ℕ) (c : Bool) → names query word ≡ c
        → IfOk (cond c (words word) (Err (UnknownName word))) (λ relation. AllLeaves t i relation.plan)
    by word true named = h word named
    by word false named = tt
