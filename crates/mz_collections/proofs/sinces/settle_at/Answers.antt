use Rattle.std.proofs.Common.{◌≡◌, ◌+◌, ◌-◌, ◌<◌, ◌++◌, length, map, slice_set, ap, subst, sym, ◌∙◌, arith}
use Rattle.std.specs.List.{AllByRecursion as Each}
use Rattle.mz_time.specs.Frontier.{meet}
use Rattle.mz_rules.specs.declared.capability.Settled.{Settled}
use Rattle.mz_rules.specs.Capabilities.{of_hold}
use Rattle.mz_rules.specs.Frontiers.{is_at}
use Rattle.mz_rules.specs.Since.{own}
use Rattle.mz_collections.specs.Kept.{passed_on, passed_to, IsOlder}
use Rattle.mz_collections.specs.Pass.{at_since, since_at}
use Rattle.mz_collections.proofs.Parts.{found_get, got, inputs_below}
use Rattle.mz_collections.proofs.sinces.settle_at.Goals as goal

-- it reads older ones
pub hand_on-requires : goal.hand_on-requires
hand_on-requires c =
    let p = c.args.number - 1 in
    let all = c.args.all.now.items in
    let m = length c.put.new.over.items + 1 in
    let within : p < length all = omega (arith, c.requires.low, c.requires.high) in
    let y = c.index_mut.result.now in
    let x : c.index-2.result.now ≡ at_since y c.meet-since.result = c.index-2.ensures ∙ got p all (at_since y c.meet-since.result) c.index-2.result.now within in
    subst (λ (z : Settled). Each (IsOlder m) z.collection.inputs) (sym x)
    (subst (λ (z : Settled). Each (IsOlder m) z.collection.inputs) (sym c.index_mut.ensures.value)
    (inputs_below c.args.number m all c.args.over.now.items y c.requires (ap (λ n. n + 1) c.put.ensures.len)))

-- its since is the least of what it keeps itself and what was passed on, and is handed on
pub returns : goal.returns
returns c = λ s found.
    let p = c.args.number - 1 in
    let all = c.args.all.now.items in
    let over = c.args.over.now.items in
    let kept = map of_hold c.args.holds.now.present.live ++ map of_hold c.args.peeks.now.present.live in
    let within : p < length all = omega (arith, c.requires.low, c.requires.high) in
    let y = c.index_mut.result.now in
    let y_is : y ≡ s = c.index_mut.ensures.value ∙ found_get p all s y found in
    let x_is : c.index.result.now ≡ s = c.index.ensures ∙ found_get p all s c.index.result.now found in
    let since : c.meet-since.result ≡ since_at kept c.args.number s over
    = c.meet-since.ensures ∙ (λ i. meet ((c.own.ensures ∙ ap (λ z. own kept z.collection) x_is) i) ((c.passed.ensures ∙ ap (passed_to c.args.number) c.deref.ensures.value) i)) in
    let put : at_since y c.meet-since.result ≡ at_since s (since_at kept c.args.number s over) = (λ i. at_since (y_is i) (since i)) in
    let second : c.index-2.result.now ≡ at_since s (since_at kept c.args.number s over)
    = c.index-2.ensures ∙ got p all (at_since y c.meet-since.result) c.index-2.result.now within ∙ put in
    let third : c.index-3.result.now ≡ at_since s (since_at kept c.args.number s over)
    = c.index-3.ensures ∙ got p all (at_since y c.meet-since.result) c.index-3.result.now within ∙ put in
    record {
      test = c.is_time.ensures ∙ ap (λ z. is_at z.since) third;
      put = ap (λ z. slice_set all p z) put;
      on = λ n k. c.hand_on.ensures.passed n k ∙ ap (λ z. passed_on z.since z.collection.inputs n (passed_to n c.put.new.over.items)) second
          ∙ ap (passed_on (since_at kept c.args.number s over) s.collection.inputs n) (c.put.ensures.passed n k);
      as_many = c.hand_on.ensures.len ∙ c.put.ensures.len;
    }
