-- A step for each member, as a loop takes them; and selects and queries, as their references and selects are taken.
use Rattle.std.proofs.Common.{◌≡◌, List, [], ◌∷◌, ◌++◌, Result, Ok, Err, refl, sym, ap, subst, ◌∙◌}
use Rattle.std.proofs.lemmas.List.{append-nil, append_assoc}
use Rattle.mz_refusal.specs.declared.fault.CallFault.{CallFault}
use Rattle.mz_refusal.specs.declared.fault.CallFault.TheVariants.{Memory, Refused}
use Rattle.mz_statement.specs.declared.query.Select.{Select}
use Rattle.mz_statement.specs.declared.reference.Join.{Join}
use Rattle.mz_resolution.specs.declared.relation.Referred.{Referred}
use Rattle.mz_resolution.specs.declared.relation.Relation.{Relation}
use Rattle.mz_resolution.specs.Columns.{sight_of}
use Rattle.mz_resolution.specs.Queries.{Names, small, queried, referred, select_over, selected, united}
use Rattle.mz_resolution.specs.Steps.{Step, ◌>>=◌, each}
use Rattle.mz_select.specs.Gives.{Fails, Is}

-- what the members so far gave, with what those that are left give, is what all give
abbrev pub SoFar : {A B : Type 0} → (A → Step B) → List B → List A → List A → Type 0
SoFar step done left all = (each step left >>= λ others. Ok (done ++ others)) ≡ each step all

-- nothing is before a list
before_list : {B : Type 0} (found : Step (List B)) → (found >>= λ others. Ok ([] ++ others)) ≡ found
before_list (Ok others) = refl
before_list (Err refusal) = refl

-- no member so far
pub so_far_none : {A B : Type 0} (step : A → Step B) (all : List A) → SoFar step [] all all
so_far_none step all = before_list (each step all)

-- one more behind those before
one_more : {B : Type 0} (done : List B) (y : B) (found : Step (List B))
    → (found >>= λ others. Ok ((done ++ y ∷ []) ++ others)) ≡ ((found >>= λ others. Ok (y ∷ others)) >>= λ others. Ok (done ++ others))
one_more done y (Ok others) = ap Ok (append_assoc done (y ∷ []) others)
one_more done y (Err refusal) = refl

-- one member more
pub so_far_more : {A B : Type 0} (step : A → Step B) (done : List B) (x : A) (y : B) (left all : List A) → step x ≡ Ok y
    → SoFar step done (x ∷ left) all → SoFar step (done ++ y ∷ []) left all
so_far_more step done x y left all gives before =
    one_more done y (each step left)
    ∙ sym (ap (λ found. (found >>= λ first. each step left >>= λ others. Ok (first ∷ others)) >>= λ others. Ok (done ++ others)) gives)
    ∙ before

-- a member that fails fails for all
pub so_far_fails : {A B : Type 0} (step : A → Step B) (done : List B) (x : A) (left all : List A) (fault : CallFault)
    → Fails fault (step x) → SoFar step done (x ∷ left) all → Fails fault (each step all)
so_far_fails step done x left all Memory fails before = tt
so_far_fails step done x left all (Refused refusal) fails before =
    sym before ∙ ap (λ found. (found >>= λ first. each step left >>= λ others. Ok (first ∷ others)) >>= λ others. Ok (done ++ others)) fails

-- all members are done
pub so_far_all : {A B : Type 0} (step : A → Step B) (done : List B) (all : List A) → SoFar step done [] all → each step all ≡ Ok done
so_far_all step done all before = sym before ∙ ap Ok (append-nil done)

-- ---- selects

-- the references of JOINs
abbrev pub joined : Names → List Join → Step (List Referred)
joined names joins = each (λ join. referred names join.reference) joins

-- a select whose JOINs fail
pub selected_fails : (names : Names) (select : Select) (joins : List Join) (first : Referred) (fault : CallFault)
    → referred names select.first ≡ Ok first → joins ≡ select.joins → Fails fault (joined names joins) → Fails fault (selected names select)
selected_fails names select joins first Memory is same fails = tt
selected_fails names select joins first (Refused refusal) is same fails =
    let all : joined names select.joins ≡ Err refusal = ap (joined names) (sym same) ∙ fails in
    rw (is, all) refl

-- a select whose references are found
pub selected_is : (names : Names) (select : Select) (joins : List Join) (first : Referred) (others : List Referred)
    → (result : Result Relation CallFault)
    → referred names select.first ≡ Ok first → joins ≡ select.joins → joined names joins ≡ Ok others
    → Is result (select_over (sight_of (first ∷ others)) first others select) → Is result (selected names select)
selected_is names select joins first others result is same gives over =
    let all : joined names select.joins ≡ Ok others = ap (joined names) (sym same) ∙ gives in
    let whole : selected names select ≡ select_over (sight_of (first ∷ others)) first others select = rw (is, all) refl in
    subst (Is result) (sym whole) over

-- ---- queries

-- a query whose first select fails
pub queried_first_fails : (names : Names) (selects : List Select) (select : Select) (rest : List Select) (fault : CallFault)
    → selects ≡ select ∷ rest → Fails fault (selected names select) → Fails fault (queried names selects)
queried_first_fails names selects select rest Memory parts fails = tt
queried_first_fails names selects select rest (Refused refusal) parts fails = ap (queried names) parts ∙ rw fails refl

-- a query of which another select fails
pub queried_fails : (names : Names) (selects : List Select) (select : Select) (rest : List Select) (first : Relation) (fault : CallFault)
    → selects ≡ select ∷ rest → selected names select ≡ Ok first → Fails fault (each (selected names) rest)
    → Fails fault (queried names selects)
queried_fails names selects select rest first Memory parts is fails = tt
queried_fails names selects select rest first (Refused refusal) parts is fails = ap (queried names) parts ∙ rw (is, fails) refl

-- a query whose selects are found
pub queried_is : (names : Names) (selects : List Select) (select : Select) (rest : List Select) (first : Relation) (others : List Relation)
    → (result : Result Relation CallFault) → selects ≡ select ∷ rest → selected names select ≡ Ok first
    → each (selected names) rest ≡ Ok others
    → Is result (united first others >>= small) → Is result (queried names selects)
queried_is names selects select rest first others result parts is gives whole =
    let all : queried names (select ∷ rest) ≡ (united first others >>= small) = rw (is, gives) refl in
    subst (Is result) (sym (ap (queried names) parts ∙ all)) whole
