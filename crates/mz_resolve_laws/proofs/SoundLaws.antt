-- A sound scope stays sound.
use Rattle.std.proofs.Common.{◌≡◌, ◌∙◌, ◌<◌, refl, sym, subst, ap, ℕ, List, [], ◌∷◌, Result, Ok, Err, arith}
use Rattle.std.specs.Prelude.{IfOk, IsOkAnd}
use Rattle.std.proofs.lemmas.List.{reverse-append}
use Rattle.std.proofs.lemmas.List.Quantifiers.{all_pairs_push}
use Rattle.mz_statement.specs.declared.column.Column.{Column}
use Rattle.mz_statement.specs.declared.query.Select.{Select}
use Rattle.mz_statement.specs.declared.statement.Statement.TheVariants as statement
use Rattle.mz_plan.specs.declared.item.Item.{Item}
use Rattle.mz_refusal.specs.declared.refusal.Refusal.{Refusal}
use Rattle.mz_plan.specs.declared.scope.Scope.{Scope}
use Rattle.mz_resolution.specs.declared.relation.Relation.{Relation}
use Rattle.mz_resolution.specs.Queries.{queried}
use Rattle.mz_resolution.specs.Resolution.{named, newest_first, query_in, resolution}
use Rattle.mz_resolve_laws.specs.Alike.{AreAlike, GivesAlike}
use Rattle.mz_resolve_laws.specs.Growth.{IsMadeBy, IsNewIn, in_cluster, with_item}
use Rattle.mz_resolve_laws.specs.Sound.{IsSound, ViewFits, ViewsFit, names_among}
use Rattle.mz_plan.specs.Types.{types_of}
use Rattle.mz_resolve_laws.proofs.NamesFollow.{query_alike, views_stay_all}
use Rattle.mz_resolve_laws.proofs.StepTools.{any_then_ok, guard_ok}

-- what is given with some types is given alike with them
alike_typed : (r s : Result Relation Refusal) (columns : List Column) → GivesAlike AreAlike r s
    → IsOkAnd r (λ relation. types_of relation.columns ≡ types_of columns)
    → IsOkAnd s (λ relation. types_of relation.columns ≡ types_of columns)
alike_typed (Ok one) (Ok other) columns alike h = ap types_of (sym alike.columns) ∙ h
alike_typed (Ok one) (Err refusal) columns alike h = elim alike [ ]
alike_typed (Err refusal) s columns alike h = elim h [ ]

-- a sound scope is so in each cluster
pub sound_in_cluster : (scope : Scope) (cluster : ℕ) → IsSound scope → IsSound (in_cluster cluster scope)
sound_in_cluster scope cluster h =
    record { numbers = h.numbers; views = views_stay_all scope (in_cluster cluster scope) (newest_first scope) h.views }

-- a scope with no items is sound
pub sound_empty : (cluster : ℕ) → IsSound (record { items = []; cluster = cluster })
sound_empty cluster = record { numbers = λ i j d before within. absurd (omega arith); views = tt }

-- an item more, which fits
sound_with : (scope : Scope) (item : Item) → IsSound scope → IsNewIn scope item
    → ViewFits (with_item scope item) (newest_first scope) item.kind → IsSound (with_item scope item)
sound_with scope item h new fits = record {
  numbers = all_pairs_push (λ earlier later. earlier.id < later.id) scope.items item h.numbers (λ k d within. new k d within);
  views = subst (ViewsFit (with_item scope item)) (sym (reverse-append scope.items (item ∷ [])))
      (fits, views_stay_all scope (with_item scope item) (newest_first scope) h.views);
}

-- a CREATE TABLE
pub table_keeps : (scope : Scope) → IsSound scope → (item : Item) → IsNewIn scope item → (name : List ℕ) (columns : List Column)
    → IfOk (resolution scope (statement.CreateTable name columns)) (λ done. IsMadeBy done item → IsSound (with_item scope item))
table_keeps scope h item new name columns =
    guard_ok _ _ _ (λ done. IsMadeBy done item → IsSound (with_item scope item))
    (λ _ e. sound_with scope item h new (subst (ViewFits (with_item scope item) (newest_first scope)) (sym e) tt))

-- a CREATE INDEX
pub index_keeps : (scope : Scope) → IsSound scope → (item : Item) → IsNewIn scope item → (name on : List ℕ)
    → IfOk (resolution scope (statement.CreateIndex name on)) (λ done. IsMadeBy done item → IsSound (with_item scope item))
index_keeps scope h item new name on =
    any_then_ok (named scope (newest_first scope) on) _ (λ done. IsMadeBy done item → IsSound (with_item scope item))
    (λ found _ e. sound_with scope item h new (subst (ViewFits (with_item scope item) (newest_first scope)) (sym e) tt))

-- what a step gives has its own types
own_types : (r : Result Relation Refusal) (relation : Relation) → r ≡ Ok relation
    → IsOkAnd r (λ other. types_of other.columns ≡ types_of relation.columns)
own_types r relation e = subst (λ s. IsOkAnd s (λ other. types_of other.columns ≡ types_of relation.columns)) (sym e) refl

-- a CREATE VIEW
pub view_keeps : (scope : Scope) → IsSound scope → (item : Item) → IsNewIn scope item → (name : List ℕ) (query : List Select)
    → IfOk (resolution scope (statement.CreateView name query)) (λ done. IsMadeBy done item → IsSound (with_item scope item))
view_keeps scope h item new name query =
    any_then_ok (query_in scope query) _ (λ done. IsMadeBy done item → IsSound (with_item scope item)) (λ relation given e.
    sound_with scope item h new (subst (ViewFits (with_item scope item) (newest_first scope)) (sym e)
    (alike_typed (query_in scope query) (queried (names_among (with_item scope item) (newest_first scope)) query) relation.columns
    (query_alike scope (with_item scope item) (newest_first scope) query)
    (own_types (query_in scope query) relation given))))
