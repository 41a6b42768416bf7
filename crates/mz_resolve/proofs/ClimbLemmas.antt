-- Items that are resolved with the one that waits last, one above the other.
use Rattle.std.proofs.Common.{◌≡◌, ℕ, false, List, [], ◌∷◌, ◌++◌, Some, ap, subst, ◌∙◌}
use Rattle.std.specs.Prelude.{IsSome}
use Rattle.std.proofs.lemmas.List.{append_assoc}
use Rattle.mz_plan.specs.Items.{numbered}
use Rattle.mz_plan.specs.declared.item.Item.{Item}
use Rattle.mz_catalog.specs.CatalogState.{CatalogState}
use Rattle.mz_resolution.specs.Steps.{Step}
use Rattle.mz_resolution.specs.declared.relation.NamedRelation.{NamedRelation}
use Rattle.mz_resolve.specs.Known.{Known, is_known, stands_at}
use Rattle.mz_resolve.specs.Waiting.{AreThere, Climbs, IsPath}
use Rattle.mz_resolve.proofs.PathLemmas.{each_front, last_waits}

-- one item more
pub climbs_more : (catalog : CatalogState) (cluster : ℕ) (first : List ℕ) (id : ℕ) (waiting rest : List ℕ) (top view : ℕ)
    → (kept next : Step NamedRelation) → waiting ≡ rest ++ view ∷ [] → Climbs catalog cluster first id waiting top kept
    → stands_at catalog cluster view ≡ Some next → Climbs catalog cluster first id rest view next
climbs_more catalog cluster first id waiting rest top view kept next is climbs stands = record {
  skipped = top ∷ climbs.skipped;
  waiting_is = climbs.waiting_is ∙ ap (λ w. w ++ top ∷ climbs.skipped) is ∙ append_assoc rest (view ∷ []) (top ∷ climbs.skipped);
  stands = stands;
}

-- the topmost waited too
pub climbs_unknown : (known : Known) (catalog : CatalogState) (cluster : ℕ) (waiting : List ℕ) (id : ℕ) (waiting' : List ℕ) (top : ℕ)
    → (kept : Step NamedRelation) → IsPath known catalog.items (waiting ++ id ∷ []) → Climbs catalog cluster waiting id waiting' top kept
    → is_known known top ≡ false
climbs_unknown known catalog cluster waiting id waiting' top kept path climbs =
    (last_waits known catalog.items waiting' top climbs.skipped (subst (IsPath known catalog.items) climbs.waiting_is path)).unknown

-- what waits is there
pub path_there : (known : Known) (items : List Item) (waiting later : List ℕ) → IsPath known items (waiting ++ later) → AreThere items waiting
path_there known items [] later path = tt
path_there known items (first ∷ waiting) later path = (path.0.there, path_there known items waiting later path.2)

-- and so are those in front of the last one
pub there_front : (items : List Item) (waiting rest : List ℕ) (id : ℕ) → waiting ≡ rest ++ id ∷ [] → AreThere items waiting
    → AreThere items rest
there_front items waiting rest id is there =
    each_front (λ other. IsSome (numbered other items)) rest (id ∷ []) (subst (AreThere items) is there)
