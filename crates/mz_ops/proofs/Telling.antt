-- A step tells the changes of one time after another: how far it has come.
use Rattle.std.proofs.Common.{◌≡◌, ℕ, zero, suc, ◌+◌, ◌-◌, ◌<◌, ◌≤◌, ◌^◌, nat_le, nat_lt, Bool, true, false, pos, ◌+ℤ◌, List, [], ◌++◌, FitsSigned, refl, sym, ap, subst, ◌∙◌, le_trans, rules, arith}
use Rattle.std.proofs.lemmas.Bool.Decides.{nat_tests}
use Rattle.std.proofs.lemmas.Int.{ints}
use Rattle.std.proofs.lemmas.List.{append-nil}
use Rattle.std.specs.Int.{w128}
use Rattle.mz_value.specs.declared.datum.Datum.{Datum}
use Rattle.mz_bag.specs.Mass.{mass, IsLight}
use Rattle.mz_bag.specs.Weighted.{Weighted, count}
use Rattle.mz_bag.proofs.BagLaws.{count-append}
use Rattle.mz_bag.proofs.MassLaws.{light_fits}
use Rattle.mz_plan_laws.specs.Alike.{Alike}
use Rattle.mz_plan_laws.proofs.PlanMasses.{least_plain}
use Rattle.mz_updates.specs.declared.update.Update.{Update}
use Rattle.mz_updates.specs.Contents.{changes, stamped, HasSums, IsBefore, IsFrom, SameContents}
use Rattle.mz_updates.proofs.ContentsLaws.{changes-from}
use Rattle.mz_updates.proofs.RowBags.{fits_signed}
use Rattle.mz_ops.specs.Change.{IsBearable, IsLoad, ReadsCounts}
use Rattle.mz_ops.specs.Moments.{begins_at, IsRun}
use Rattle.mz_ops.specs.Step.{IsBearableStep, IsStep, Side, StandsBefore}
use Rattle.mz_ops.specs.Stepping.{HasStepped, IsReady, IsTold, IsToCome}
use Rattle.mz_ops.proofs.Runs.{come_on, first_within, no_changes, run_changes, run_once, HasCome, IsFirst}
use Rattle.mz_ops.proofs.StepLaws.{step_at, step_later, step_none, step_then}
use Rattle.mz_ops.proofs.TimeLaws.{IsBefore-append, IsBefore-later, IsBefore-stamped, IsFrom-append, IsFrom-stamped, changes-before, same_change, sums_more}

-- ---- one side

-- while nothing changes its rows stay
side_stays : (us : List Update) (side : Side us) (at n : ℕ) → ((t : ℕ) → at ≤ t → t < at + n → changes t us ≡ [])
    → Alike (side.rows at) (side.rows (at + n))
side_stays us side at zero none q = let same : at ≡ at + 0 = omega arith in ap (λ t. count q (side.rows t)) same
side_stays us side at (suc n) none q =
    let before : count q (side.rows at) ≡ count q (side.rows (at + n)) =
    side_stays us side at n (λ t low high. none t low (omega (arith, high))) q in
    let still : count q (side.change (at + n)) ≡ pos 0 =
    side.changes (at + n) q ∙ ap (count q) (none (at + n) (omega arith) (omega arith)) in
    let next : count q (side.rows (at + n + 1)) ≡ count q (side.rows (at + n)) +ℤ count q (side.change (at + n)) =
    side.next (at + n) q ∙ count-append q (side.rows (at + n)) (side.change (at + n)) in
    let same : at + n + 1 ≡ at + suc n = omega arith in
    subst (λ t. count q (side.rows at) ≡ count q (side.rows t)) same (omega (arith, ints, before, still, next))

-- so where a list has come to a time, up to the first time of what is left
side_at : (all rest : List Update) (side : Side all) (at upper time : ℕ) → HasCome all rest at upper → IsFrom time rest → at ≤ time
    → Alike (side.rows at) (side.rows time)
side_at all rest side at upper time h from later =
    let same : at + (time - at) ≡ time = omega (arith, later) in
    subst (λ t. Alike (side.rows at) (side.rows t)) same
    (side_stays all side at (time - at) (λ t low high. no_changes all rest at upper time t h from low (omega (arith, same, high))))

-- a run at a time counts as the side's change, and weighs no more
side_run : (all rest after : List Update) (rows : Weighted) (side : Side all) (at upper time : ℕ) → HasCome all rest at upper
    → IsRun time rest rows after → IsFrom time rest → at ≤ time → Alike rows (side.change time)
side_run all rest after rows side at upper time h run from later q =
    sym (side.changes time q ∙ ap (count q) (run_changes all rest after rows at upper time h run later from))

side_mass : (all rest after : List Update) (rows : Weighted) (side : Side all) (at upper time : ℕ) → HasCome all rest at upper
    → IsRun time rest rows after → IsFrom time rest → at ≤ time → mass rows ≤ mass (side.change time)
side_mass all rest after rows side at upper time h run from later =
    least_plain rows (side.change time) (run_once all rest after rows at upper time h run) (side_run all rest after rows side at upper time h run from later)

-- after it the side's rows are those that were there and the run's
side_next : (all rest after : List Update) (rows : Weighted) (side : Side all) (at upper time : ℕ) → HasCome all rest at upper
    → IsRun time rest rows after → IsFrom time rest → at ≤ time → Alike (side.rows time ++ rows) (side.rows (time + 1))
side_next all rest after rows side at upper time h run from later q =
    count-append q (side.rows time) rows
    ∙ ap (λ z. count q (side.rows time) +ℤ z) (side_run all rest after rows side at upper time h run from later q)
    ∙ sym (side.next time q ∙ count-append q (side.rows time) (side.change time))

-- ---- both sides

-- what was told up to a time, and what is to come
pub record IsUnderWay (meaning : Weighted → Weighted → Weighted) (load : ℕ → ℕ → ℕ → ℕ → ℕ) (before now : Weighted → Weighted → Type 0)
    (lower upper : ℕ) (left right lefts rights out : List Update) : Type 0 where
  pub bears : IsBearableStep before load lower upper left right
  pub at : ℕ
  pub low : lower ≤ at
  pub high : at ≤ upper
  pub first : HasCome left lefts at upper
  pub second : HasCome right rights at upper
  pub law : IsStep meaning (StandsBefore lower before) (StandsBefore at now) first.done second.done out
  pub stand : now (bears.first.rows at) (bears.second.rows at)
  pub from : IsFrom lower out
  pub until : IsBefore at out
  pub sums : HasSums out

begun_side : (lower upper : ℕ) (us : List Update) → IsToCome lower upper us → HasCome us us lower upper
begun_side lower upper us h = record { done = []; whole = refl; past = record { each = tt }; coming = h.from; until = h.before; order = h.once }

-- it begins with nothing told
pub under_way : (meaning : Weighted → Weighted → Weighted) (load : ℕ → ℕ → ℕ → ℕ → ℕ) (before : Weighted → Weighted → Type 0) (lower upper : ℕ)
    (left right out : List Update) → IsReady before load lower upper left right → out ≡ []
    → IsUnderWay meaning load before before lower upper left right left right out
unfolding begun_side
under_way meaning load before lower upper left right out h none = subst (IsUnderWay meaning load before before lower upper left right left right) (sym none)
    (record {
      bears = h.bears;
      at = lower;
      low = omega arith;
      high = h.later;
      first = begun_side lower upper left h.left;
      second = begun_side lower upper right h.right;
      law = step_none meaning (StandsBefore lower before);
      stand = h.bears.stand;
      from = record { each = tt };
      until = record { each = tt };
      sums = record { fits = λ t row. search (rules, ints) };
    })

-- the next time is from where it has come to on, and below the upper
next_within : (meaning : Weighted → Weighted → Weighted) (load : ℕ → ℕ → ℕ → ℕ → ℕ) (before now : Weighted → Weighted → Type 0)
    (lower upper : ℕ) (left right lefts rights out : List Update) (time : ℕ)
    (h : IsUnderWay meaning load before now lower upper left right lefts rights out) → IsFirst time lefts rights
    → (h.at ≤ time) × (time < upper)
next_within meaning load before now lower upper left right lefts rights out time h first = by (begins_at time lefts) refl
  where
    by : (c : Bool) → begins_at time lefts ≡ c → (h.at ≤ time) × (time < upper)
    by true e = first_within h.at upper time left lefts h.first e
    by false e = first_within h.at upper time right rights h.second (first.begins e)

-- there the operator stands for both sides' rows
run_stands : (meaning : Weighted → Weighted → Weighted) (load : ℕ → ℕ → ℕ → ℕ → ℕ) (before now : Weighted → Weighted → Type 0)
    (lower upper : ℕ) (left right lefts rights out : List Update) (time : ℕ) → ReadsCounts meaning now
    → (h : IsUnderWay meaning load before now lower upper left right lefts rights out) → IsFirst time lefts rights
    → now (h.bears.first.rows time) (h.bears.second.rows time)
run_stands meaning load before now lower upper left right lefts rights out time reads h first =
    let within = next_within meaning load before now lower upper left right lefts rights out time h first in
    reads.keeps _ _ _ _ (side_at left lefts h.bears.first h.at upper time h.first first.left within.0)
    (side_at right rights h.bears.second h.at upper time h.second first.right within.0) h.stand

-- and the runs are within the bound
pub run_bears : (meaning : Weighted → Weighted → Weighted) (load : ℕ → ℕ → ℕ → ℕ → ℕ) (before now : Weighted → Weighted → Type 0)
    (lower upper : ℕ) (left right lefts rights out : List Update) (time : ℕ) (us vs : List Update) (ls rs : Weighted)
    → IsLoad load → ReadsCounts meaning now → IsUnderWay meaning load before now lower upper left right lefts rights out → IsFirst time lefts rights
    → IsRun time lefts ls us → IsRun time rights rs vs → IsBearable now load ls rs
run_bears meaning load before now lower upper left right lefts rights out time us vs ls rs loads reads h first lrun rrun =
    let within = next_within meaning load before now lower upper left right lefts rights out time h first in
    let fewer = side_mass left lefts us ls h.bears.first h.at upper time h.first lrun first.left within.0 in
    let less = side_mass right rights vs rs h.bears.second h.at upper time h.second rrun first.right within.0 in
    record {
      first = h.bears.first.rows time;
      second = h.bears.second.rows time;
      stand = run_stands meaning load before now lower upper left right lefts rights out time reads h first;
      within = le_trans (loads.grows _ _ _ _ _ _ _ _ (omega arith) (omega arith) fewer less) (h.bears.within time (le_trans h.low within.0) within.1);
    }

-- told the changes of the next time, it has come past it
pub told_next : (meaning : Weighted → Weighted → Weighted) (load : ℕ → ℕ → ℕ → ℕ → ℕ) (before now after : Weighted → Weighted → Type 0)
    (lower upper : ℕ) (left right lefts rights us vs out new : List Update) (time : ℕ)
    → IsLoad load → ReadsCounts meaning now → ReadsCounts meaning after → IsUnderWay meaning load before now lower upper left right lefts rights out
    → IsFirst time lefts rights → IsTold meaning load now after time lefts rights us vs out new
    → IsUnderWay meaning load before after lower upper left right us vs new
unfolding come_on
told_next meaning load before now after lower upper left right lefts rights us vs out new time loads reads reads_after h first told =
    let within = next_within meaning load before now lower upper left right lefts rights out time h first in
    let bears : IsBearable now load told.left told.right =
    run_bears meaning load before now lower upper left right lefts rights out time us vs told.left told.right loads reads h first told.left_run told.right_run in
    subst (IsUnderWay meaning load before after lower upper left right us vs) (sym told.output)
    (record {
      bears = h.bears;
      at = time + 1;
      low = omega (arith, h.low, within.0);
      high = omega (arith, within.1);
      first = come_on left lefts us told.left h.at upper time h.first told.left_run within.0 first.left;
      second = come_on right rights vs told.right h.at upper time h.second told.right_run within.0 first.right;
      law = step_then meaning (StandsBefore lower before) (StandsBefore h.at now) (StandsBefore (time + 1) after) h.first.done h.second.done out
          (stamped time told.left) (stamped time told.right) (stamped time told.made) h.law
          (step_at meaning now after told.left told.right told.made h.at time told.change within.0);
      stand = reads_after.keeps _ _ _ _
          (side_next left lefts us told.left h.bears.first h.at upper time h.first told.left_run first.left within.0)
          (side_next right rights vs told.right h.bears.second h.at upper time h.second told.right_run first.right within.0)
          (told.change.stands (h.bears.first.rows time) (h.bears.second.rows time)
          (run_stands meaning load before now lower upper left right lefts rights out time reads h first));
      from = IsFrom-append lower out (stamped time told.made) h.from (IsFrom-stamped time lower told.made (le_trans h.low within.0));
      until = IsBefore-append (time + 1) out (stamped time told.made) (IsBefore-later h.at (time + 1) out (omega (arith, within.0)) h.until)
          (IsBefore-stamped time (time + 1) told.made (omega arith));
      sums = sums_more time out told.made (IsBefore-later h.at time out within.0 h.until) h.sums
          (record { within = le_trans (told.within.most bears.first bears.second bears.stand) bears.within });
    })

-- and with nothing to come the step is made
pub told_all : (meaning : Weighted → Weighted → Weighted) (load : ℕ → ℕ → ℕ → ℕ → ℕ) (before now : Weighted → Weighted → Type 0)
    (lower upper : ℕ) (left right lefts rights out : List Update) → IsUnderWay meaning load before now lower upper left right lefts rights out
    → (lefts ≡ []) × (rights ≡ []) → HasStepped meaning before now lower upper left right out
told_all meaning load before now lower upper left right lefts rights out h none =
    let whole : h.first.done ≡ left = sym (append-nil h.first.done) ∙ ap (λ us. h.first.done ++ us) (sym none.0) ∙ h.first.whole in
    let whole_too : h.second.done ≡ right = sym (append-nil h.second.done) ∙ ap (λ us. h.second.done ++ us) (sym none.1) ∙ h.second.whole in
    record {
      law = subst (λ (p : List Update × List Update). IsStep meaning (StandsBefore lower before) (StandsBefore upper now) p.0 p.1 out)
          (λ i. (whole i, whole_too i))
          (step_later meaning (StandsBefore lower before) now h.at upper h.first.done h.second.done out h.high h.law);
      from = h.from;
      until = IsBefore-later h.at upper out h.high h.until;
      sums = h.sums;
    }

-- ---- before and after the step

-- a side of updates is one of others that contain the same
unfoldable pub same_side : (us vs : List Update) → SameContents vs us → Side us → Side vs
same_side us vs same side = record {
  rows = side.rows;
  change = side.change;
  changes = λ t q. side.changes t q ∙ sym (same_change vs us same t q);
  next = side.next;
}

-- so a step that is bearable is so with these
pub same_bears : (stands : Weighted → Weighted → Type 0) (load : ℕ → ℕ → ℕ → ℕ → ℕ) (lower upper : ℕ) (left right others more : List Update)
    → SameContents others left → SameContents more right → IsBearableStep stands load lower upper left right
    → IsBearableStep stands load lower upper others more
unfolding same_side
same_bears stands load lower upper left right others more h k bears = record {
  first = same_side left others h bears.first;
  second = same_side right more k bears.second;
  stand = bears.stand;
  within = bears.within;
}

-- and what changes at one time is an i128
side_sums : (us : List Update) (side : Side us) (lower upper : ℕ) → IsFrom lower us → IsBefore upper us
    → ((t : ℕ) → lower ≤ t → t < upper → mass (side.change t) ≤ 2 ^ 100) → HasSums us
side_sums us side lower upper from before light = record { fits = λ t row. by t row (nat_le lower t) (nat_lt t upper) refl refl }
  where
    none : FitsSigned w128 (pos 0)
    none = search (rules, ints)

    by : (t : ℕ) (row : List Datum) (c d : Bool) → nat_le lower t ≡ c → nat_lt t upper ≡ d → FitsSigned w128 (count row (changes t us))
    by t row true true e f =
        let fits : IsLight (side.change t) = record { within = light t (grind (arith, nat_tests)) (grind (arith, nat_tests)) } in
        subst (FitsSigned w128) (side.changes t row) (fits_signed (count row (side.change t)) (light_fits (side.change t) row fits))
    by t row false d e f =
        let early : t < lower = grind (arith, nat_tests) in
        subst (λ ws. FitsSigned w128 (count row ws)) (sym (changes-from t lower us from early)) none
    by t row true false e f =
        let late : upper ≤ t = grind (arith, nat_tests) in
        subst (λ ws. FitsSigned w128 (count row ws)) (sym (changes-before t upper us before late)) none

-- since a load covers the changes
pub bears_sums : (stands : Weighted → Weighted → Type 0) (load : ℕ → ℕ → ℕ → ℕ → ℕ) (lower upper : ℕ) (left right : List Update)
    → IsLoad load → IsBearableStep stands load lower upper left right → IsFrom lower left → IsBefore upper left → IsFrom lower right → IsBefore upper right
    → HasSums left × HasSums right
bears_sums stands load lower upper left right loads bears from before from_too before_too = (
  side_sums left bears.first lower upper from before (λ t low high.
      omega (arith, loads.covers (mass (bears.first.rows t)) (mass (bears.second.rows t)) (mass (bears.first.change t)) (mass (bears.second.change t)), bears.within t low high)),
  side_sums right bears.second lower upper from_too before_too (λ t low high.
      omega (arith, loads.covers (mass (bears.first.rows t)) (mass (bears.second.rows t)) (mass (bears.first.change t)) (mass (bears.second.change t)), bears.within t low high)),
)
