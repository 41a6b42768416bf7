-- Tables that were dropped: no item of the state has their numbers, so no plan that may be read reads them.
use Rattle.std.proofs.Common.{◌≡◌, ◌<◌, ◌==◌, ℕ, Bool, true, false, cond, not, [], ◌∷◌, ◌++◌, nat_le, refl, sym, ap, subst, arith}
use Rattle.std.proofs.lemmas.Bool.{eq-eqb, or_left, or_right}
use Rattle.std.proofs.lemmas.List.Elements.{recursion_from_All}
use Rattle.std.specs.List.{AllByRecursion as Each, list_any}
use Rattle.mz_bag.specs.Weighted.{bag_of}
use Rattle.mz_plan.specs.declared.plan.Plan.{Plan}
use Rattle.mz_plan_laws.proofs.TypedValues.{each_append, each_unmap, each_weaker}
use Rattle.mz_log.specs.declared.entry.Entry.TheVariants.{Apply}
use Rattle.mz_log.specs.Log.{Log}
use Rattle.mz_books.specs.Clusters.{cluster_of}
use Rattle.mz_log.specs.CarriedOut.{rows_of}
use Rattle.mz_log.specs.Sequential.{Bags, Sequential}
use Rattle.mz_books.specs.States.{after_replies, dropped, gone, plan_at, state_at}
use Rattle.mz_books.specs.Legal.{Legal}
use Rattle.mz_state_laws.specs.Growth.{Continues, has_bag}
use Rattle.mz_state_laws.specs.Reads.{ReadsThere, is_there}
use Rattle.mz_state_laws.specs.Well.{IsWell}
use Rattle.mz_state_laws.proofs.NumbersStay.{each_table}
use Rattle.mz_state_laws.proofs.ReadsOnly.{without_gone}
use Rattle.mz_state_laws.proofs.StaysGone.{bag_gone, number_gone}
use Rattle.mz_replay_laws.proofs.Lists.{each_both, each_passed}
use Rattle.mz_replay_laws.proofs.Said.{round_said}
use Rattle.mz_replay_laws.proofs.WellStates.{replies_continue, replies_well, states_well}

-- the number was used, and no item has it any more
pub record IsGone (state : Sequential) (number : ℕ) : Type 0 where
  pub used : number < state.database.next
  pub none_there : is_there state.database.items number ≡ false

-- what isn't so is false
not_so : (b : Bool) → not b ≡ true → b ≡ false
not_so true h = sym h
not_so false h = refl

-- what is gone stays so
gone_later : (before after : Sequential) → Continues before after → (number : ℕ) → IsGone before number → IsGone after number
gone_later before after continues number h =
    let rises = continues.next in
    let used = h.used in
    record { used = omega arith; none_there = number_gone before after continues number h.used h.none_there }

-- the bags have their own numbers
own_bags : (bags : Bags) → Each (λ bag. has_bag bag.0 bags ≡ true) bags
own_bags [] = tt
own_bags (bag ∷ bags) = (
  or_left (bag.0 == bag.0) (has_bag bag.0 bags) (eq-eqb bag.0 bag.0 refl),
  each_weaker (λ other. has_bag other.0 bags ≡ true) (λ other. has_bag other.0 (bag ∷ bags) ≡ true)
      (λ other h. or_right (bag.0 == other.0) (has_bag other.0 bags) h) bags (own_bags bags),
)

-- and these were used
used_bags : (state : Sequential) → IsWell state → Each (λ bag. bag.0 < state.database.next) state.database.bags
used_bags state well =
    each_unmap (λ n. n < state.database.next) (λ bag. bag.0) state.database.bags
    (subst (Each (λ n. n < state.database.next)) (sym well.over.tables)
    (each_table (λ n. n < state.database.next) state.database.items
    (recursion_from_All (λ item. item.id < state.database.next) state.database.items well.over.below)))

-- the bags that a round dropped are gone
round_gone : (before after : Sequential) → IsWell before → IsWell after → Continues before after
    → Each (λ bag. IsGone after bag.0) (gone before.database.bags after.database.bags)
round_gone before after well later continues =
    each_passed (λ bag. IsGone after bag.0) (λ bag. not (list_any (λ other. other.0 == bag.0) after.database.bags)) before.database.bags
    (each_weaker (λ bag. (has_bag bag.0 before.database.bags ≡ true) × (bag.0 < before.database.next))
    (λ bag. not (list_any (λ other. other.0 == bag.0) after.database.bags) ≡ true → IsGone after bag.0)
    (λ bag h test.
    let rises = continues.next in
    let used = h.1 in
    record {
      used = omega arith;
      none_there = bag_gone before after well later continues bag.0 h.0 (not_so (has_bag bag.0 after.database.bags) test);
    })
    before.database.bags
    (each_both (λ bag. has_bag bag.0 before.database.bags ≡ true) (λ bag. bag.0 < before.database.next) before.database.bags
    (own_bags before.database.bags) (used_bags before well)))

-- so it is whether the round is up to the time or not
either_gone : (b : Bool) (before after : Sequential) (old : Bags) → IsWell before → IsWell after → Continues before after
    → Each (λ bag. IsGone before bag.0) old
    → Each (λ bag. IsGone (cond b after before) bag.0) (cond b (old ++ gone before.database.bags after.database.bags) old)
either_gone true before after old well later continues h =
    each_append (λ bag. IsGone after bag.0) old (gone before.database.bags after.database.bags)
    (each_weaker (λ bag. IsGone before bag.0) (λ bag. IsGone after bag.0) (λ bag. gone_later before after continues bag.0) old h)
    (round_gone before after well later continues)
either_gone false before after old well later continues h = h

-- all tables that were dropped up to a time are gone
pub all_gone : (log : Log) → Legal log → (time : ℕ) → Each (λ bag. IsGone (state_at log time) bag.0) (dropped log time)
all_gone [] l t = tt
all_gone (Apply time replies ∷ log) l t =
    let before = state_at log t in
    let well = states_well log l.0 t in
    either_gone (nat_le time t) before (after_replies (cluster_of log) before replies) (dropped log t) well
    (replies_well (cluster_of log) before replies (round_said log time replies l) well) (replies_continue (cluster_of log) before replies)
    (all_gone log l.0 t)
all_gone (entry ∷ log) l t = all_gone log l.0 t

-- so a plan that reads only what is there has at each time the rows of the state at it
pub plan_rows : (log : Log) → Legal log → (time : ℕ) (plan : Plan) → ReadsThere (state_at log time) plan
    → plan_at log plan time ≡ bag_of (rows_of (state_at log time) plan)
plan_rows log l t plan reads =
    ap bag_of (without_gone (state_at log t) (dropped log t)
    (each_weaker (λ bag. IsGone (state_at log t) bag.0) (λ bag. is_there (state_at log t).database.items bag.0 ≡ false) (λ bag h. h.none_there)
    (dropped log t) (all_gone log l t)) plan reads)
