-- A dataflow stands for all that it was offered, step by step.
use Rattle.std.proofs.Common.{◌≡◌, ◌==◌, Result, Ok, Err, is_ok, OnOk, OnErr, ℕ, ◌+◌, ◌<◌, ◌≤◌, Bool, true, false, cond, List, [], ◌∷◌, ◌++◌, length, refl, sym, ap, subst, ◌∙◌, le_trans, append_assoc, arith}
use Rattle.std.specs.List.{AllByRecursion as Each}
use Rattle.std.proofs.lemmas.List.{append-nil}
use Rattle.mz_arrange.specs.Arranged.{Arranged}
use Rattle.mz_bag.specs.Mass.{mass}
use Rattle.mz_bag.proofs.MassLaws.{light_fits, mass_append}
use Rattle.mz_plan.specs.Leaves.{leaves_of}
use Rattle.mz_plan.specs.Small.{most_rows, most_tables}
use Rattle.mz_plan.specs.declared.plan.Plan.{Plan}
use Rattle.mz_updates.specs.declared.update.Update.{Update}
use Rattle.mz_updates.specs.Contents.{contents, weights, FitsAt, IsBefore, IsFrom}
use Rattle.mz_updates.proofs.ContentsLaws.{weights-append}
use Rattle.mz_updates.proofs.LightLists.{light_contents}
use Rattle.mz_dataflow.specs.Flow.{longer, LeafUpdates}
use Rattle.mz_dataflow.specs.Queues.{updates_of}
use Rattle.mz_dataflow.specs.Stands.{offers_of, with_offer, CanRunTo, IsNew, Stands}
use Rattle.mz_dataflow.specs.declared.dataflow.Dataflow.{Dataflow}
use Rattle.mz_dataflow_tests.specs.Told.{all_of, total, AreBefore, Given, IsTold}

-- what a call ensures that went well, and what one that failed
pub when_ok : {T E P : Type 0} (r : Result T E) → is_ok r ≡ true → OnOk r P → P
when_ok (Ok x) good h = h
when_ok (Err e) good h = absurd cc

pub when_err : {T E P : Type 0} (r : Result T E) → is_ok r ≡ false → OnErr r P → P
when_err (Ok x) bad h = absurd cc
when_err (Err e) bad h = h

-- nothing was offered
none_offered : (flow : Dataflow) → flow.offered.items ≡ [] → (item : ℕ) → offers_of flow item ≡ []
none_offered flow none item = ap (λ qs. updates_of qs item) none

-- a dataflow that was built
pub told_begun : (plan : Plan) (flow : Dataflow) (as_of : ℕ) (given : Given) → given ≡ [] → Stands plan flow (λ item. []) → IsNew as_of flow → IsTold plan flow given
told_begun plan flow as_of given same stands new = subst (IsTold plan flow) (sym same) (record {
  us = λ item. [];
  stands = stands;
  all = none_offered flow new.offers;
  from = λ item. subst (IsFrom flow.output.upper) (sym (none_offered flow new.offers item)) (record { each = tt });
})

-- offers with one more
all_of-push : (gs : Given) (leaf : ℕ) (us : List Update) (item : ℕ) → all_of (gs ++ (leaf, us) ∷ []) item ≡ with_offer leaf us (all_of gs) item
all_of-push [] leaf us item = by (leaf == item)
  where
    by : (b : Bool) → cond b (us ++ []) [] ≡ cond b us []
    by true = append-nil us
    by false = refl
all_of-push (g ∷ gs) leaf us item = by (g.0 == item) (leaf == item) (all_of-push gs leaf us item)
  where
    by : (b c : Bool) → all_of (gs ++ (leaf, us) ∷ []) item ≡ cond c (all_of gs item ++ us) (all_of gs item)
        → cond b (g.1 ++ all_of (gs ++ (leaf, us) ∷ []) item) (all_of (gs ++ (leaf, us) ∷ []) item)
        ≡ cond c (cond b (g.1 ++ all_of gs item) (all_of gs item) ++ us) (cond b (g.1 ++ all_of gs item) (all_of gs item))
    by true true h = ap (λ vs. g.1 ++ vs) h ∙ sym (append_assoc g.1 (all_of gs item) us)
    by true false h = ap (λ vs. g.1 ++ vs) h
    by false true h = h
    by false false h = h

-- an offer that is made once more over offers that stayed is the first one
pub offered_twice : (leaf : ℕ) (us vs : List Update) (before given : LeafUpdates) (item : ℕ) → vs ≡ us → given item ≡ before item
    → with_offer leaf vs given item ≡ with_offer leaf us before item
offered_twice leaf us vs before given item same stay = λ i. cond (leaf == item) (stay i ++ same i) (stay i)

-- a list behind others, where it is offered
behind : (leaf : ℕ) (us : List Update) (front given all : LeafUpdates) (item : ℕ) → front item ++ given item ≡ all item
    → front item ++ with_offer leaf us given item ≡ with_offer leaf us all item
behind leaf us front given all item h = by (leaf == item)
  where
    by : (b : Bool) → front item ++ cond b (given item ++ us) (given item) ≡ cond b (all item ++ us) (all item)
    by true = sym (append_assoc (front item) (given item) us) ∙ ap (λ vs. vs ++ us) h
    by false = h

-- updates from a time on, with others
from_both : (lower : ℕ) (us vs : List Update) → Each (λ u. lower ≤ u.time) us → Each (λ u. lower ≤ u.time) vs → Each (λ u. lower ≤ u.time) (us ++ vs)
from_both lower [] vs h k = k
from_both lower (u ∷ us) vs h k = (h.0, from_both lower us vs h.1 k)

from_offer : (lower leaf : ℕ) (us : List Update) (given : LeafUpdates) (item : ℕ) → IsFrom lower us → IsFrom lower (given item)
    → IsFrom lower (with_offer leaf us given item)
from_offer lower leaf us given item h k = by (leaf == item)
  where
    by : (b : Bool) → IsFrom lower (cond b (given item ++ us) (given item))
    by true = record { each = from_both lower (given item) us k.each h.each }
    by false = k

-- one that was offered more
pub told_more : (plan : Plan) (old new : Dataflow) (given more : Given) (leaf : ℕ) (us : List Update) → IsTold plan old given
    → ((item : ℕ) → offers_of new item ≡ with_offer leaf us (offers_of old) item) → new.output ≡ old.output
    → ((p : Plan) (vs : LeafUpdates) → Stands p old vs → Stands p new vs) → IsFrom old.output.upper us → more ≡ given ++ (leaf, us) ∷ []
    → IsTold plan new more
told_more plan old new given more leaf us told offers same stays from is = subst (IsTold plan new) (sym is) (record {
  us = told.us;
  stands = stays plan told.us told.stands;
  all = λ item.
      ap (λ vs. told.us item ++ vs) (offers item) ∙ behind leaf us told.us (offers_of old) (all_of given) item (told.all item)
      ∙ sym (all_of-push given leaf us item);
  from = λ item. subst (λ (p : Arranged × List Update). IsFrom p.0.upper p.1) (λ i. (sym same i, sym (offers item) i))
      (from_offer old.output.upper leaf us (offers_of old) item from (told.from item));
})

-- one that ran
pub told_ran : (plan : Plan) (old new : Dataflow) (given : Given) → IsTold plan old given
    → ((p : Plan) (vs : LeafUpdates) → Stands p old vs → Stands p new (longer vs (offers_of old))) → new.offered.items ≡ []
    → IsTold plan new given
told_ran plan old new given told ran none = record {
  us = longer told.us (offers_of old);
  stands = ran plan told.us told.stands;
  all = λ item. ap (λ vs. (told.us item ++ offers_of old item) ++ vs) (none_offered new none item) ∙ append-nil (told.us item ++ offers_of old item) ∙ told.all item;
  from = λ item. subst (IsFrom new.output.upper) (sym (none_offered new none item)) (record { each = tt });
}

-- one whose past goes
pub told_allowed : (plan : Plan) (old new : Dataflow) (given : Given) → IsTold plan old given
    → ((p : Plan) (vs : LeafUpdates) → Stands p old vs → Stands p new vs) → new.offered ≡ old.offered → new.output.upper ≡ old.output.upper
    → IsTold plan new given
told_allowed plan old new given told stays same upper =
    let offers : (item : ℕ) → offers_of new item ≡ offers_of old item = λ item. ap (λ v. updates_of v.items item) same in record {
      us = told.us;
      stands = stays plan told.us told.stands;
      all = λ item. ap (λ vs. told.us item ++ vs) (offers item) ∙ told.all item;
      from = λ item. subst (λ (p : ℕ × List Update). IsFrom p.0 p.1) (λ i. (sym upper i, sym (offers item) i)) (told.from item);
    }

-- ---- the bound

-- a leaf's offers weigh no more than all
all_mass : (gs : Given) (item : ℕ) → mass (weights (all_of gs item)) ≤ total gs
all_mass [] item = omega arith
all_mass (g ∷ gs) item = by (g.0 == item) (all_mass gs item)
  where
    by : (b : Bool) → mass (weights (all_of gs item)) ≤ total gs
        → mass (weights (cond b (g.1 ++ all_of gs item) (all_of gs item))) ≤ mass (weights g.1) + total gs
    by true h = omega (arith, h, ap mass (weights-append g.1 (all_of gs item)), mass_append (weights g.1) (weights (all_of gs item)))
    by false h = omega (arith, h)

-- each is before a time where all are
before_both : (upper : ℕ) (us vs : List Update) → Each (λ u. u.time < upper) us → Each (λ u. u.time < upper) vs → Each (λ u. u.time < upper) (us ++ vs)
before_both upper [] vs h k = k
before_both upper (u ∷ us) vs h k = (h.0, before_both upper us vs h.1 k)

all_before : (upper : ℕ) (gs : Given) (item : ℕ) → AreBefore upper gs → Each (λ u. u.time < upper) (all_of gs item)
all_before upper [] item h = tt
all_before upper (g ∷ gs) item h = by (g.0 == item) (all_before upper gs item h.1)
  where
    by : (b : Bool) → Each (λ u. u.time < upper) (all_of gs item) → Each (λ u. u.time < upper) (cond b (g.1 ++ all_of gs item) (all_of gs item))
    by true k = before_both upper g.1 (all_of gs item) h.0.each k
    by false k = k

before_back : (upper : ℕ) (us vs : List Update) → Each (λ u. u.time < upper) (us ++ vs) → Each (λ u. u.time < upper) vs
before_back upper [] vs h = h
before_back upper (u ∷ us) vs h = before_back upper us vs h.1

-- what is said of runs of few updates
abbrev pub FewUpdates : Type 0
FewUpdates = (plan : Plan) (flow : Dataflow) (us : LeafUpdates) (next : ℕ)
    → Stands plan flow us → flow.output.upper ≤ next
    → ((item : ℕ) → IsFrom flow.output.upper (offers_of flow item))
    → ((item : ℕ) → IsBefore next (offers_of flow item))
    → length (leaves_of plan) ≤ most_tables
    → ((item : ℕ) → mass (weights (us item ++ offers_of flow item)) ≤ most_rows)
    → CanRunTo flow next

-- so a run is within the bound
pub can_run : FewUpdates → (plan : Plan) (flow : Dataflow) (given : Given) (next : ℕ) → IsTold plan flow given → flow.output.upper ≤ next
    → length (leaves_of plan) ≤ most_tables → AreBefore next given → total given ≤ most_rows → CanRunTo flow next
can_run law plan flow given next told later few before small =
    law plan flow told.us next told.stands later told.from
    (λ item. record {
      each = before_back next (told.us item) (offers_of flow item)
          (subst (Each (λ u. u.time < next)) (sym (told.all item)) (all_before next given item before));
    })
    few
    (λ item. subst (λ us. mass (weights us) ≤ most_rows) (sym (told.all item)) (le_trans (all_mass given item) small))

-- and what small updates contain fits
pub small_fits : (t : ℕ) (us : List Update) → mass (weights us) ≤ most_rows → FitsAt t us
small_fits t us small = record {
  fits = λ row. light_fits (contents t us) row ((light_contents 0 us (record { within = le_trans small (omega arith) })).light t (omega arith));
}
