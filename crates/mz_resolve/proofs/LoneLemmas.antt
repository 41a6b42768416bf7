-- A view that reads one item alone stands for its select over what the item stands for.
use Rattle.std.proofs.Common.{◌≡◌, ℕ, List, [], ◌∷◌, Some, Ok, Err, refl, sym, ap, ◌∙◌}
use Rattle.std.specs.Option.{option_map}
use Rattle.mz_statement.specs.declared.column.Column.{Column}
use Rattle.mz_statement.specs.declared.query.Select.{Select}
use Rattle.mz_plan.specs.Items.{query_of}
use Rattle.mz_plan.specs.declared.item.Item.{Item}
use Rattle.mz_catalog.specs.CatalogState.{CatalogState, IsCatalog}
use Rattle.mz_resolution.specs.Columns.{sight_of}
use Rattle.mz_resolution.specs.Queries.{Names, queried, referred, select_over, selected, small}
use Rattle.mz_resolution.specs.Resolution.{item_relation, relation_of, without_number}
use Rattle.mz_resolution.specs.Steps.{Step, ◌>>=◌, each}
use Rattle.mz_resolution.specs.declared.relation.NamedRelation.{NamedRelation}
use Rattle.mz_resolution.specs.declared.relation.Relation.{Relation}
use Rattle.mz_resolve.specs.InCatalog.{names_below, scope_in}
use Rattle.mz_resolve.specs.Known.{stands_at, stands_for}
use Rattle.mz_resolve.specs.Lone.{Finds, IsLone, queried_over, referred_over, view_over}
use Rattle.mz_resolve.proofs.NameLemmas.{named_found}
use Rattle.mz_resolve.proofs.PartsOfSelect.{steps_assoc}

-- a select without JOINs whose relation is found
selected_alone : (names : Names) (select : Select) (found : Relation) → select.joins ≡ [] → names select.first.name ≡ Ok found
    → selected names select
    ≡ select_over (sight_of (referred_over select found ∷ [])) (referred_over select found) [] select
selected_alone names select found alone is =
    let first : referred names select.first ≡ Ok (referred_over select found) =
    ap (λ step. step >>= λ relation. Ok (referred_over select relation)) is in
    let others : each (λ join. referred names join.reference) select.joins ≡ Ok [] =
    ap (each (λ join. referred names join.reference)) alone in
    rw (first, others) refl

-- a query of one select without JOINs, by what its only name stands for
queried_alone : (names : Names) (select : Select) (kept : Step NamedRelation) → select.joins ≡ []
    → names select.first.name ≡ without_number kept
    → queried names (select ∷ []) ≡ (kept >>= λ found. queried_over select found.relation)
queried_alone names select (Ok found) alone is = ap (λ step. step >>= small) (selected_alone names select found.relation alone is)
queried_alone names select (Err refusal) alone is = rw is refl

-- a name stands for what the item does that it finds
stands_is : (catalog : CatalogState) (cluster below : ℕ) (name : List ℕ) (id : ℕ) (kept : Step NamedRelation) → IsCatalog catalog
    → Finds catalog below name id → stands_at catalog cluster id ≡ Some kept
    → names_below catalog cluster below name ≡ without_number kept
stands_is catalog cluster below name id kept is finds stands =
    let both : Some (stands_for catalog cluster finds.item) ≡ Some kept =
    ap (option_map (stands_for catalog cluster)) (sym finds.there) ∙ stands in
    let same : stands_for catalog cluster finds.item ≡ kept = cc in
    ap without_number (named_found catalog cluster below name finds.item is finds.found ∙ same)

-- what a view stands for that reads one item alone
pub lone_stands : (catalog : CatalogState) (cluster : ℕ) (view : Item) (columns : List Column) (select : Select) (id : ℕ)
    → (kept : Step NamedRelation) → IsCatalog catalog → IsLone catalog view columns select id → stands_at catalog cluster id ≡ Some kept
    → stands_for catalog cluster view ≡ view_over (scope_in catalog cluster) view.id columns select kept
lone_stands catalog cluster view columns select id kept is lone stands =
    let scope = scope_in catalog cluster in
    let names = names_below catalog cluster view.id in
    let last : Relation → Step NamedRelation = λ below. Ok (relation_of scope view.id columns below.plan below.tables) in
    let by_kind : stands_for catalog cluster view ≡ (queried names (query_of lone.query) >>= last) =
    ap (item_relation scope names view) lone.kind_is in
    by_kind
    ∙ ap (λ selects. queried names selects >>= last) lone.only.one
    ∙ ap (λ step. step >>= last) (queried_alone names select kept lone.only.alone
    (stands_is catalog cluster view.id select.first.name id kept is lone.finds stands))
    ∙ steps_assoc kept (λ found. queried_over select found.relation) last
