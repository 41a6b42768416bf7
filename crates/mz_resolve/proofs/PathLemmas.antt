-- Items that wait, one for the other, and how much is left to be done for them.
use Rattle.std.proofs.Common.{◌≡◌, ℕ, ◌+◌, ◌*◌, ◌<◌, ◌≤◌, ◌==◌, Bool, true, false, ◌||◌, cond, List, [], ◌∷◌, ◌++◌, inl, inr, Option, None, Some, nat_eq, refl, sym, ap, subst, ◌∙◌, true≢false, arith}
use Rattle.std.specs.Prelude.{IsSome}
use Rattle.std.specs.List.{AllByRecursion as Each}
use Rattle.std.specs.Option.{IfSome}
use Rattle.std.proofs.Math.Nat.{add-mul}
use Rattle.std.proofs.lemmas.Nat.{mul-le}
use Rattle.std.proofs.lemmas.Bool.{eqb-true, ne_eqb}
use Rattle.mz_plan.specs.Items.{numbered}
use Rattle.mz_plan.specs.declared.item.Item.{Item}
use Rattle.mz_catalog.specs.CatalogState.{CatalogState, IsCatalog}
use Rattle.mz_catalog.proofs.ItemLemmas.{id-numbered}
use Rattle.mz_resolution.specs.Steps.{Step}
use Rattle.mz_resolution.specs.declared.relation.NamedRelation.{NamedRelation}
use Rattle.mz_resolve.specs.Known.{IsTrueOf, Keeps, Known, is_known}
use Rattle.mz_resolve.specs.Waiting.{IsPath, IsWaiting, Steps}
use Rattle.mz_resolve.proofs.KnownLemmas.{keeps_both, keeps_push, keeps_same, known_here, known_push, true_push}
use Rattle.mz_resolve.proofs.NameLemmas.{each_of, found_each}

-- ---- what waits

-- the item is known, or it waits before all others
abbrev pub Leads : ℕ → Known → List ℕ → Type 0
Leads item known [] = is_known known item ≡ true
Leads item known (first ∷ later) = first ≡ item

-- each one of them waits
pub last_waits : (known : Known) (items : List Item) (waiting : List ℕ) (id : ℕ) (later : List ℕ) → IsPath known items (waiting ++ id ∷ later)
    → IsWaiting known items id
last_waits known items [] id later path = path.0
last_waits known items (first ∷ waiting) id later path = last_waits known items waiting id later path.2

-- one more is below what the last one is below
each_waits : (first : ℕ) (waiting : List ℕ) (id older : ℕ) → older < id → Each (λ n. n < first) (waiting ++ id ∷ [])
    → Each (λ n. n < first) (waiting ++ id ∷ older ∷ [])
each_waits first [] id older below each = (each.0, (omega (arith, each.0, below), tt))
each_waits first (next ∷ later) id older below each = (each.0, each_waits first later id older below each.1)

path_waits : (known : Known) (items : List Item) (waiting : List ℕ) (id older : ℕ) → older < id → IsWaiting known items older
    → IsPath known items (waiting ++ id ∷ []) → IsPath known items (waiting ++ id ∷ older ∷ [])
path_waits known items [] id older below waits path = (path.0, (below, tt), (waits, tt, tt))
path_waits known items (first ∷ later) id older below waits path =
    (path.0, each_waits first later id older below path.1, path_waits known items later id older below waits path.2)

-- what holds of all numbers holds of the first ones, and of the one behind these
pub each_front : (P : ℕ → Type 0) (front later : List ℕ) → Each P (front ++ later) → Each P front
each_front P [] later each = tt
each_front P (next ∷ front) later each = (each.0, each_front P front later each.1)

pub each_last : (P : ℕ → Type 0) (front : List ℕ) (id : ℕ) (later : List ℕ) → Each P (front ++ id ∷ later) → P id
each_last P [] id later each = each.0
each_last P (next ∷ front) id later each = each_last P front id later each.1

-- an item above one that is known now waits on
still_waits : (known : Known) (items : List Item) (id : ℕ) (kept : Step NamedRelation) (first : ℕ) → id < first
    → IsWaiting known items first → IsWaiting (known ++ (id, kept) ∷ []) items first
still_waits known items id kept first above waits = record {
  there = waits.there;
  unknown = known_push known id kept first ∙ ap (λ b. b || nat_eq first id) waits.unknown ∙ ne_eqb first id (λ same. omega (arith, above, same));
}

path_learns : (known : Known) (items : List Item) (waiting : List ℕ) (id : ℕ) (later : List ℕ) (kept : Step NamedRelation)
    → IsPath known items (waiting ++ id ∷ later) → IsPath (known ++ (id, kept) ∷ []) items waiting
path_learns known items [] id later kept path = tt
path_learns known items (first ∷ waiting) id later kept path = (
  still_waits known items id kept first (each_last (λ older. older < first) waiting id later path.1) path.0,
  each_front (λ older. older < first) waiting (id ∷ later) path.1,
  path_learns known items waiting id later kept path.2,
)

leads_waits : (item : ℕ) (known : Known) (waiting : List ℕ) (id older : ℕ) → Leads item known (waiting ++ id ∷ [])
    → Leads item known (waiting ++ id ∷ older ∷ [])
leads_waits item known [] id older leads = leads
leads_waits item known (first ∷ later) id older leads = leads

leads_learns : (item : ℕ) (known known' : Known) (waiting : List ℕ) (id : ℕ) (later : List ℕ) → is_known known' id ≡ true
    → Leads item known (waiting ++ id ∷ later) → Leads item known' waiting
leads_learns item known known' [] id later is leads = subst (λ n. is_known known' n ≡ true) leads is
leads_learns item known known' (first ∷ waiting) id later is leads = leads

-- ---- what is left

-- 0 for an item that is known, else 1
abbrev one_unless : Bool → ℕ
one_unless true = 0
one_unless false = 1

-- how many items aren't known
abbrev pub unknowns : Known → List Item → ℕ
unknowns known [] = 0
unknowns known (item ∷ items) = one_unless (is_known known item.id) + unknowns known items

-- the last one that waits, or else this one
abbrev pub last_of : ℕ → List ℕ → ℕ
last_of id [] = id
last_of id (first ∷ later) = last_of first later

-- the items that aren't known, and then the number of the last one that waits
abbrev pub left : CatalogState → Known → List ℕ → ℕ
left catalog known waiting = unknowns known catalog.items * catalog.next + last_of 0 waiting

last_one : (other : ℕ) (waiting : List ℕ) (id : ℕ) → last_of other (waiting ++ id ∷ []) ≡ id
last_one other [] id = refl
last_one other (first ∷ later) id = last_one first later id

last_two : (other : ℕ) (waiting : List ℕ) (id older : ℕ) → last_of other (waiting ++ id ∷ older ∷ []) ≡ older
last_two other [] id older = refl
last_two other (first ∷ later) id older = last_two first later id older

fewer_or_same : (b c : Bool) → one_unless (b || c) ≤ one_unless b
fewer_or_same true c = omega arith
fewer_or_same false true = omega arith
fewer_or_same false false = omega arith

fewer_unknown : (known : Known) (id : ℕ) (kept : Step NamedRelation) (item : Item)
    → one_unless (is_known (known ++ (id, kept) ∷ []) item.id) ≤ one_unless (is_known known item.id)
fewer_unknown known id kept item =
    subst (λ b. one_unless b ≤ one_unless (is_known known item.id)) (sym (known_push known id kept item.id))
    (fewer_or_same (is_known known item.id) (nat_eq item.id id))

no_more_unknown : (known : Known) (id : ℕ) (kept : Step NamedRelation) (items : List Item)
    → unknowns (known ++ (id, kept) ∷ []) items ≤ unknowns known items
no_more_unknown known id kept [] = omega arith
no_more_unknown known id kept (item ∷ items) =
    omega (arith, fewer_unknown known id kept item, no_more_unknown known id kept items)

-- one item fewer is unknown
one_fewer : (known : Known) (id : ℕ) (kept : Step NamedRelation) (items : List Item) → IsSome (numbered id items)
    → is_known known id ≡ false → unknowns (known ++ (id, kept) ∷ []) items + 1 ≤ unknowns known items
one_fewer known id kept [] there unknown = absurd (true≢false (sym there))
one_fewer known id kept (item ∷ items) there unknown = by (item.id == id) refl there (one_fewer known id kept items)
  where
    by : (b : Bool) → item.id == id ≡ b → IsSome (cond b (Some item) (numbered id items))
        → (IsSome (numbered id items) → is_known known id ≡ false → unknowns (known ++ (id, kept) ∷ []) items + 1 ≤ unknowns known items)
        → unknowns (known ++ (id, kept) ∷ []) (item ∷ items) + 1 ≤ unknowns known (item ∷ items)
    by true is there rest =
        let same : item.id ≡ id = eqb-true item.id id is in
        let before : one_unless (is_known known item.id) ≡ 1 =
        ap one_unless (subst (λ n. is_known known n ≡ false) (sym same) unknown) in
        let after : one_unless (is_known (known ++ (id, kept) ∷ []) item.id) ≡ 0 =
        ap one_unless (subst (λ n. is_known (known ++ (id, kept) ∷ []) n ≡ true) (sym same) (known_here known id kept)) in
        omega (arith, before, after, no_more_unknown known id kept items)
    by false is there rest = omega (arith, fewer_unknown known id kept item, rest there unknown)

-- an item of the catalog is below the next one
under_next : (catalog : CatalogState) (id : ℕ) → IsCatalog catalog → IsSome (numbered id catalog.items) → id < catalog.next
under_next catalog id is there =
    by (numbered id catalog.items) refl there
    (found_each (λ item. item.id < catalog.next) (λ item. item.id == id) catalog.items
    (each_of (λ item. item.id < catalog.next) catalog.items is.below))
  where
    by : (found : Option Item) → numbered id catalog.items ≡ found → IsSome found → IfSome found (λ item. item.id < catalog.next)
        → id < catalog.next
    by None at there under = absurd (true≢false (sym there))
    by (Some item) at there under = omega (arith, under, id-numbered id catalog.items item at)

last_under : (catalog : CatalogState) (known : Known) (waiting : List ℕ) (other : ℕ) → IsCatalog catalog → other < catalog.next
    → IsPath known catalog.items waiting → last_of other waiting < catalog.next
last_under catalog known [] other is under path = under
last_under catalog known (first ∷ later) other is under path =
    last_under catalog known later first is (under_next catalog first is path.0.there) path.2

less_by_last : (done later before : ℕ) → later < before → done + later < done + before
less_by_last done later before less = omega (arith, less)

less_by_items : (after before next later last : ℕ) → after + 1 ≤ before → later < next
    → after * next + later < before * next + last
less_by_items after before next later last fewer under =
    omega (arith, mul-le (after + 1) next before next fewer (omega arith), add-mul after 1 next, under)

-- ---- steps

-- what holds between two steps of an item that wasn't known at first
pub record IsUnderWay (catalog : CatalogState) (cluster item : ℕ) (first known : Known) (waiting : List ℕ) : Type 0 where
  pub holds : IsTrueOf catalog cluster known
  pub keeps : Keeps first known
  pub path : IsPath known catalog.items waiting
  pub leads : Leads item known waiting

-- nothing was done yet
pub under_way : (catalog : CatalogState) (cluster item : ℕ) (known : Known) → IsTrueOf catalog cluster known
    → IsWaiting known catalog.items item → IsUnderWay catalog cluster item known known (item ∷ [])
under_way catalog cluster item known holds waits =
    record { holds = holds; keeps = keeps_same known; path = (waits, tt, tt); leads = refl }

-- one step more
pub under_way_next : (catalog : CatalogState) (cluster item : ℕ) (first known known' : Known) (waiting waiting' : List ℕ) (id : ℕ)
    → IsUnderWay catalog cluster item first known (waiting ++ id ∷ []) → Steps catalog cluster known waiting id known' waiting'
    → IsUnderWay catalog cluster item first known' waiting'
under_way_next catalog cluster item first known known' waiting waiting' id before (inl step) =
    subst (λ k. IsUnderWay catalog cluster item first k waiting') (sym step.known_is)
    (subst (IsUnderWay catalog cluster item first known) (sym step.waiting_is) (record {
      holds = before.holds;
      keeps = before.keeps;
      path = path_waits known catalog.items waiting id step.older step.below step.waits before.path;
      leads = leads_waits item known waiting id step.older before.leads;
    }))
under_way_next catalog cluster item first known known' waiting waiting' id before (inr step) =
    let top = step.top in
    let kept = step.kept in
    let skipped = step.climbs.skipped in
    let here : IsUnderWay catalog cluster item first known (waiting' ++ top ∷ skipped) =
    subst (IsUnderWay catalog cluster item first known) step.climbs.waiting_is before in
    subst (λ k. IsUnderWay catalog cluster item first k waiting') (sym step.known_is) (record {
      holds = true_push catalog cluster known top kept here.holds step.climbs.stands;
      keeps = keeps_both first known (known ++ (top, kept) ∷ []) here.keeps (keeps_push known top kept);
      path = path_learns known catalog.items waiting' top skipped kept here.path;
      leads = leads_learns item known (known ++ (top, kept) ∷ []) waiting' top skipped (known_here known top kept) here.leads;
    })

-- each step leaves less to be done
pub left_falls : (catalog : CatalogState) (cluster : ℕ) (known known' : Known) (waiting waiting' : List ℕ) (id : ℕ) → IsCatalog catalog
    → IsPath known catalog.items (waiting ++ id ∷ []) → Steps catalog cluster known waiting id known' waiting'
    → left catalog known' waiting' < left catalog known (waiting ++ id ∷ [])
left_falls catalog cluster known known' waiting waiting' id is path (inl step) =
    subst (λ k. left catalog k waiting' < left catalog known (waiting ++ id ∷ [])) (sym step.known_is)
    (subst (λ w. left catalog known w < left catalog known (waiting ++ id ∷ [])) (sym step.waiting_is)
    (less_by_last (unknowns known catalog.items * catalog.next)
    (last_of 0 (waiting ++ id ∷ step.older ∷ [])) (last_of 0 (waiting ++ id ∷ []))
    (omega (arith, last_one 0 waiting id, last_two 0 waiting id step.older, step.below))))
left_falls catalog cluster known known' waiting waiting' id is path (inr step) =
    let top = step.top in
    let kept = step.kept in
    let skipped = step.climbs.skipped in
    let here : IsPath known catalog.items (waiting' ++ top ∷ skipped) = subst (IsPath known catalog.items) step.climbs.waiting_is path in
    let waits = last_waits known catalog.items waiting' top skipped here in
    let under = under_next catalog top is waits.there in
    subst (λ k. left catalog k waiting' < left catalog known (waiting ++ id ∷ [])) (sym step.known_is)
    (less_by_items (unknowns (known ++ (top, kept) ∷ []) catalog.items) (unknowns known catalog.items) catalog.next
    (last_of 0 waiting') (last_of 0 (waiting ++ id ∷ []))
    (one_fewer known top kept catalog.items waits.there waits.unknown)
    (last_under catalog (known ++ (top, kept) ∷ []) waiting' 0 is (omega (arith, under))
    (path_learns known catalog.items waiting' top skipped kept here)))
