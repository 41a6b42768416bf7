-- A select is its parts, and then its relation.
use Rattle.std.proofs.Common.{◌≡◌, List, ◌∷◌, Ok, Err, refl, sym, ap, ◌∙◌}
use Rattle.mz_statement.specs.declared.query.Select.{Select}
use Rattle.mz_resolution.specs.declared.relation.Referred.{Referred}
use Rattle.mz_resolution.specs.declared.relation.Relation.{Relation}
use Rattle.mz_resolution.specs.Columns.{Sight, sight_of}
use Rattle.mz_resolution.specs.Conditions.{condition, equalities}
use Rattle.mz_resolution.specs.Listings.{keys_of, listing}
use Rattle.mz_resolution.specs.Queries.{narrow, place_meant, select_of, select_over}
use Rattle.mz_resolution.specs.Steps.{Step, ◌>>=◌, each}
use Rattle.mz_resolve.specs.Parts.{Parts, parts_of}

-- a step that was done
abbrev done : {A : Type 0} → A → Step A
done x = Ok x

-- a select once its parts are found
abbrev whole_of : Referred → List Referred → Select → Parts → Relation
whole_of first others select parts = select_of first others select parts.pairs parts.cond parts.keys parts.found

-- the relation of a select whose parts are these
abbrev by_parts : Referred → List Referred → Select → Parts → Step Relation
by_parts first others select parts = narrow (whole_of first others select parts)

-- steps in a row are one step
pub steps_assoc : {A B C : Type 0} (step : Step A) (next : A → Step B) (last : B → Step C)
    → ((step >>= next) >>= last) ≡ (step >>= λ x. next x >>= last)
steps_assoc (Ok x) next last = refl
steps_assoc (Err refusal) next last = refl

-- steps that go on alike are alike
alike : {A B : Type 0} (step : Step A) (next other : A → Step B)
    → ((x : A) → next x ≡ other x) → (step >>= next) ≡ (step >>= other)
alike (Ok x) next other is = is x
alike (Err refusal) next other is = refl

-- a select is its parts, and then its relation
select_by_parts : (sight : Sight) (first : Referred) (others : List Referred) (select : Select)
    → select_over sight first others select ≡ (parts_of sight select >>= by_parts first others select)
select_by_parts sight first others select =
    let last = by_parts first others select in
    let pairs = equalities sight 1 select.joins in
    let cond = condition sight select.test in
    let places = each (place_meant sight) select.group in
    sym (steps_assoc pairs _ last ∙ alike pairs _ _ (λ p.
    steps_assoc cond _ last ∙ alike cond _ _ (λ c.
    steps_assoc places _ last ∙ alike places _ _ (λ keys.
    steps_assoc (listing sight (keys_of select keys) select.items) _ last))))

-- a select whose parts are found, its references taken together and apart again
pub select_found : (first other : Referred) (others more : List Referred) (select : Select) (parts : Parts) (found : Relation)
    → first ∷ others ≡ other ∷ more
    → parts_of (sight_of (first ∷ others)) select ≡ done parts
    → done (select_of other more select parts.pairs parts.cond parts.keys parts.found) ≡ done found
    → select_over (sight_of (first ∷ others)) first others select ≡ narrow found
select_found first other others more select parts found same given is =
    let one : first ≡ other = cc in
    let all : others ≡ more = cc in
    select_by_parts (sight_of (first ∷ others)) first others select
    ∙ ap (λ step. step >>= by_parts first others select) given
    ∙ ap (λ f. by_parts f others select parts) one
    ∙ ap (λ o. by_parts other o select parts) all
    ∙ ap (λ step. step >>= narrow) is
