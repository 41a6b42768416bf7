-- What queries give is related where what their names stand for is.
use Rattle.std.proofs.Common.{◌≡◌, ◌∙◌, ◌+◌, refl, subst, ap, ℕ, Bool, true, false, cond, List, [], ◌∷◌, ◌++◌, map, length, Result, Ok, Err, Option, nat_le, codes}
use Rattle.std.specs.Prelude.{⊤}
use Rattle.std.specs.List.{AllByRecursion as Each, AllZip}
use Rattle.mz_plan.specs.Small.{most_tables}
use Rattle.mz_statement.specs.declared.query.Select.{Select}
use Rattle.mz_statement.specs.declared.reference.Join.{Join}
use Rattle.mz_statement.specs.declared.reference.Reference.{Reference}
use Rattle.mz_plan.specs.declared.condition.Cond.{Cond}
use Rattle.mz_plan.specs.declared.plan.Plan.{Union}
use Rattle.mz_refusal.specs.declared.refusal.Limited.TheVariants.{Columns}
use Rattle.mz_refusal.specs.declared.refusal.Refusal.{Refusal}
use Rattle.mz_refusal.specs.declared.refusal.Refusal.TheVariants.{TooMany, TooManyLeaves, WrongType}
use Rattle.mz_resolution.specs.declared.relation.Listing.{Listing}
use Rattle.mz_resolution.specs.declared.relation.Referred.{Referred}
use Rattle.mz_resolution.specs.declared.relation.Relation.{Relation}
use Rattle.mz_resolution.specs.Columns.{Sight, columns_from, columns_of, sight_of}
use Rattle.mz_resolution.specs.Conditions.{condition, equalities}
use Rattle.mz_resolution.specs.Listings.{keys_of, listing}
use Rattle.mz_resolution.specs.Queries.{Names, place_meant, queried, referred, same_types, select_of, select_over, selected, united, most_columns}
use Rattle.mz_resolution.specs.Steps.{Step, ◌>>=◌, each}

-- ---- steps

-- where the first step is refused, so is the second if this is strict; else the second may do anything
abbrev pub Refuses : {A : Type 0} → Bool → Refusal → Step A → Type 0
Refuses true refusal (Err other) = refusal ≡ other
Refuses true refusal (Ok x) = ⊥
Refuses false refusal step = ⊤

-- what the first step gives is related to what the second one does
abbrev pub Follows : {A : Type 0} → Bool → (A → A → Type 0) → Step A → Step A → Type 0
Follows strict related (Ok one) (Ok other) = related one other
Follows strict related (Ok one) (Err refusal) = ⊥
Follows strict related (Err refusal) step = Refuses strict refusal step

-- the same refusal
pub refuses_same : (A : Type 0) (strict : Bool) (refusal other : Refusal) → refusal ≡ other → Refuses {A = A} strict refusal (Err other)
refuses_same A true refusal other e = e
refuses_same A false refusal other e = tt

-- a refusal stays
refuses_then : {A B : Type 0} (strict : Bool) (refusal : Refusal) (s : Result A Refusal) (g : A → Step B) → Refuses strict refusal s
    → Refuses strict refusal (s >>= g)
refuses_then true refusal (Ok x) g h = elim h [ ]
refuses_then true refusal (Err other) g h = h
refuses_then false refusal s g h = tt

-- two steps, each with one behind it
pub follows_then : {A B : Type 0} (strict : Bool) (r s : Result A Refusal) (f g : A → Step B) (P : A → A → Type 0) (Q : B → B → Type 0)
    → Follows strict P r s → ((x y : A) → P x y → Follows strict Q (f x) (g y)) → Follows strict Q (r >>= f) (s >>= g)
follows_then strict (Ok x) (Ok y) f g P Q h k = k x y h
follows_then strict (Ok x) (Err refusal) f g P Q h k = elim h [ ]
follows_then strict (Err refusal) s f g P Q h k = refuses_then strict refusal s g h

-- one step, with two behind it
same_then : {A B : Type 0} (strict : Bool) (r : Result A Refusal) (f g : A → Step B) (Q : B → B → Type 0)
    → ((x : A) → Follows strict Q (f x) (g x)) → Follows strict Q (r >>= f) (r >>= g)
same_then strict (Ok x) f g Q k = k x
same_then strict (Err refusal) f g Q k = refuses_same _ strict refusal refusal refl

-- two choices by one test
pub follows_choice : {A : Type 0} (strict c d : Bool) → c ≡ d → (r s t u : Result A Refusal) (P : A → A → Type 0)
    → Follows strict P r s → Follows strict P t u → Follows strict P (cond c r t) (cond d s u)
follows_choice strict true true e r s t u P h k = h
follows_choice strict true false e r s t u P h k = absurd cc
follows_choice strict false true e r s t u P h k = absurd cc
follows_choice strict false false e r s t u P h k = k

-- the same step for each member of which something holds
follows_each : {A B : Type 0} (strict : Bool) (M : A → Type 0) (f g : A → Step B) (P : B → B → Type 0)
    → ((x : A) → M x → Follows strict P (f x) (g x)) → (xs : List A) → Each M xs
    → Follows strict (AllZip P) (each f xs) (each g xs)
follows_each strict M f g P h [] k = tt
follows_each strict M f g P h (x ∷ xs) k =
    follows_then strict (f x) (g x) _ _ P (AllZip P) (h x k.0) (λ first one here.
    follows_then strict (each f xs) (each g xs) _ _ (AllZip P) (AllZip P) (follows_each strict M f g P h xs k.1)
    (λ others more there. (here, there)))

-- ---- references

-- references that are called alike, of related relations
pub record AreCalledAlike (R : Relation → Relation → Type 0) (one other : Referred) : Type 0 where
  pub called : one.called ≡ other.called
  pub relations : R one.relation other.relation

-- a relation of relations that queries carry on
pub record IsCarried (R : Relation → Relation → Type 0) : Type 0 where
  pub columns : (one other : Relation) → R one other → one.columns ≡ other.columns
  pub tables : (one other : Relation) → R one other → one.tables ≡ other.tables
  pub selects : (first other : Referred) (rest others : List Referred) → AreCalledAlike R first other
      → AllZip (AreCalledAlike R) rest others
      → (select : Select) (pairs : List (List (ℕ × ℕ))) (cond : Option Cond) (keys : Option (List ℕ)) (found : Listing)
      → R (select_of first rest select pairs cond keys found) (select_of other others select pairs cond keys found)
  pub unions : (whole other next more : Relation) → R whole other → R next more
      → R (record { columns = whole.columns; plan = Union whole.plan next.plan; tables = whole.tables + next.tables })
      (record { columns = other.columns; plan = Union other.plan more.plan; tables = other.tables + more.tables })

-- what is called
called_alike : (R : Relation → Relation → Type 0) (ones others : List Referred) → AllZip (AreCalledAlike R) ones others
    → map (λ r. r.called) ones ≡ map (λ r. r.called) others
called_alike R [] [] h = refl
called_alike R [] (other ∷ others) h = elim h [ ]
called_alike R (one ∷ ones) [] h = elim h [ ]
called_alike R (one ∷ ones) (other ∷ others) h = λ i. h.0.called i ∷ called_alike R ones others h.1 i

-- the columns that are seen
columns_alike : (R : Relation → Relation → Type 0) → IsCarried R → (start owner : ℕ) (ones others : List Referred)
    → AllZip (AreCalledAlike R) ones others
    → columns_from start owner ones ≡ columns_from start owner others
columns_alike R carried start owner [] [] h = refl
columns_alike R carried start owner [] (other ∷ others) h = elim h [ ]
columns_alike R carried start owner (one ∷ ones) [] h = elim h [ ]
columns_alike R carried start owner (one ∷ ones) (other ∷ others) h =
    let same : one.relation.columns ≡ other.relation.columns = carried.columns one.relation other.relation h.0.relations in
    (λ i. columns_of start owner (h.0.called i) 0 (same i) ++ columns_from (start + length (same i)) (owner + 1) ones)
    ∙ ap (λ more. columns_of start owner other.called 0 other.relation.columns ++ more)
    (columns_alike R carried (start + length other.relation.columns) (owner + 1) ones others h.1)

-- what a select sees
view_alike : (R : Relation → Relation → Type 0) → IsCarried R → (ones others : List Referred) → AllZip (AreCalledAlike R) ones others
    → sight_of ones ≡ sight_of others
view_alike R carried ones others h i =
    record { called = called_alike R ones others h i; columns = columns_alike R carried 0 0 ones others h i }

-- ---- queries

-- a query reads names of which something holds
abbrev pub JoinsRead : (List ℕ → Type 0) → List Join → Type 0
JoinsRead P joins = Each (λ join. P join.reference.name) joins

-- the same of its selects
abbrev pub Reads : (List ℕ → Type 0) → List Select → Type 0
Reads P selects = Each (λ select. P select.first.name × JoinsRead P select.joins) selects

-- such names stand for related relations
abbrev pub NamesFollow : Bool → (Relation → Relation → Type 0) → (List ℕ → Type 0) → Names → Names → Type 0
NamesFollow strict R P names others = (word : List ℕ) → P word → Follows strict R (names word) (others word)

-- a reference
referred_follows : (strict : Bool) (R : Relation → Relation → Type 0) (P : List ℕ → Type 0) (names others : Names)
    → NamesFollow strict R P names others → (reference : Reference) → P reference.name
    → Follows strict (AreCalledAlike R) (referred names reference) (referred others reference)
referred_follows strict R P names others h reference k =
    follows_then strict (names reference.name) (others reference.name) _ _ R (AreCalledAlike R) (h reference.name k)
    (λ one other alike. record { called = refl; relations = alike })

-- a select that sees the same
over_follows : (strict : Bool) (R : Relation → Relation → Type 0) → IsCarried R
    → (sight : Sight) (first other : Referred) (rest others : List Referred) → AreCalledAlike R first other
    → AllZip (AreCalledAlike R) rest others → (select : Select)
    → Follows strict R (select_over sight first rest select) (select_over sight other others select)
over_follows strict R carried sight first other rest others h k select =
    same_then strict (equalities sight 1 select.joins) _ _ R (λ pairs. same_then strict (condition sight select.test) _ _ R (λ cond.
    same_then strict (each (place_meant sight) select.group) _ _ R
    (λ places. same_then strict (listing sight (keys_of select places) select.items) _ _ R (λ found.
    follows_choice strict (nat_le (length found.columns) most_columns) (nat_le (length found.columns) most_columns) refl
    (Ok (select_of first rest select pairs cond (keys_of select places) found))
    (Ok (select_of other others select pairs cond (keys_of select places) found))
    (Err (TooMany Columns most_columns)) (Err (TooMany Columns most_columns)) R
    (carried.selects first other rest others h k select pairs cond (keys_of select places) found)
    (refuses_same Relation strict (TooMany Columns most_columns) (TooMany Columns most_columns) refl)))))

-- a select
selected_follows : (strict : Bool) (R : Relation → Relation → Type 0) → IsCarried R → (P : List ℕ → Type 0) (names others : Names)
    → NamesFollow strict R P names others
    → (select : Select) → P select.first.name × JoinsRead P select.joins → Follows strict R (selected names select) (selected others select)
selected_follows strict R carried P names others h select reads =
    follows_then strict (referred names select.first) (referred others select.first) _ _ (AreCalledAlike R) R
    (referred_follows strict R P names others h select.first reads.0) (λ first other here.
    follows_then strict (each (λ join. referred names join.reference) select.joins)
    (each (λ join. referred others join.reference) select.joins) _ _ (AllZip (AreCalledAlike R)) R
    (follows_each strict (λ join. P join.reference.name) (λ join. referred names join.reference) (λ join. referred others join.reference)
    (AreCalledAlike R)
    (λ join. referred_follows strict R P names others h join.reference) select.joins reads.1)
    (λ rest more there. subst (λ sight. Follows strict R (select_over (sight_of (first ∷ rest)) first rest select)
    (select_over sight other more select))
    (view_alike R carried (first ∷ rest) (other ∷ more) (here, there))
    (over_follows strict R carried (sight_of (first ∷ rest)) first other rest more here there select)))

-- UNION ALL
united_follows : (strict : Bool) (R : Relation → Relation → Type 0) → IsCarried R → (whole other : Relation) (rest others : List Relation)
    → R whole other → AllZip R rest others
    → Follows strict R (united whole rest) (united other others)
united_follows strict R carried whole other [] [] h k = h
united_follows strict R carried whole other [] (more ∷ others) h k = elim k [ ]
united_follows strict R carried whole other (next ∷ rest) [] h k = elim k [ ]
united_follows strict R carried whole other (next ∷ rest) (more ∷ others) h k =
    follows_choice strict (same_types whole.columns next.columns) (same_types other.columns more.columns)
    (λ i. same_types (carried.columns whole other h i) (carried.columns next more k.0 i))
    (united (record { columns = whole.columns; plan = Union whole.plan next.plan; tables = whole.tables + next.tables }) rest)
    (united (record { columns = other.columns; plan = Union other.plan more.plan; tables = other.tables + more.tables }) others)
    (Err (WrongType (codes "union"))) (Err (WrongType (codes "union"))) R
    (united_follows strict R carried
    (record { columns = whole.columns; plan = Union whole.plan next.plan; tables = whole.tables + next.tables })
    (record { columns = other.columns; plan = Union other.plan more.plan; tables = other.tables + more.tables }) rest others
    (carried.unions whole other next more h k.0) k.1) (refuses_same Relation strict (WrongType (codes "union"))
    (WrongType (codes "union")) refl)

-- a query
pub queried_follows : (strict : Bool) (R : Relation → Relation → Type 0) → IsCarried R → (P : List ℕ → Type 0) (names others : Names)
    → NamesFollow strict R P names others
    → (selects : List Select) → Reads P selects → Follows strict R (queried names selects) (queried others selects)
queried_follows strict R carried P names others h [] reads = refuses_same Relation strict (TooManyLeaves 0) (TooManyLeaves 0) refl
queried_follows strict R carried P names others h (select ∷ selects) reads =
    follows_then strict (selected names select) (selected others select) _ _ R R
    (selected_follows strict R carried P names others h select reads.0) (λ first other here.
    follows_then strict (each (selected names) selects) (each (selected others) selects) _ _ (AllZip R) R
    (follows_each strict (λ one. P one.first.name × JoinsRead P one.joins) (selected names) (selected others) R
    (selected_follows strict R carried P names others h) selects reads.1) (λ rest more there.
    follows_then strict (united first rest) (united other more) _ _ R R (united_follows strict R carried first other rest more here there)
    (λ whole one alike.
    follows_choice strict (nat_le whole.tables most_tables) (nat_le one.tables most_tables) (ap (λ n. nat_le n most_tables) (carried.tables whole one alike)) (Ok whole)
    (Ok one)
    (Err (TooManyLeaves whole.tables)) (Err (TooManyLeaves one.tables)) R
    alike (refuses_same Relation strict (TooManyLeaves whole.tables) (TooManyLeaves one.tables)
    (ap TooManyLeaves (carried.tables whole one alike))))))
