use Rattle.std.proofs.Common.{◌≡◌, neg_ℤ, length, ap, rules, SFits, ◌∙◌, arith}
use Rattle.std.specs.Int.{w128}
use Rattle.std.proofs.lemmas.Int.{ints, to_z-of_z}
use Rattle.indexmap.specs.Layout.{length-set_value_at}
use Rattle.mz_bag.proofs.NegatedCounts.{negated_to, negated_to-all, turned_more, turned_fits}
use Rattle.mz_bag.proofs.bag.negate_all.Goals as goal

-- a count that was not turned yet is within the bound
pub negative-requires : goal.negative-requires
negative-requires c =
    let ranged : SFits w128 c.index.result.now = search (rules, ints) in
    rw to_z-of_z (turned_fits c.args.counts.now.entries c.places.counts.entries c.places.place c.index.result.now c.len-place-end.ensures.unique c.requires c.places.invariant.turned c.index.ensures)

-- one more count is turned
pub places-preserved : goal.places-preserved
places-preserved c =
    let ranged : SFits w128 c.index.result.now = search (rules, ints) in
    let ranged_too : SFits w128 c.negative.result = search (rules, ints) in
    let negative : c.negative.result ≡ neg_ℤ c.index.result.now = rw to_z-of_z at c.negative.ensures in
    rw to_z-of_z (record {
      turned = turned_more c.args.counts.now.entries c.places.counts.entries c.places.place c.index.result.now c.negative.result c.places.invariant.turned c.index.ensures negative;
      same_length = length-set_value_at c.places.counts.entries c.places.place c.negative.result ∙ c.places.invariant.same_length;
    })

-- at the end all are
pub returns : goal.returns
returns c =
    let all : c.places.place ≡ length c.args.counts.now.entries = omega arith in
    c.places.invariant.turned ∙ ap (λ n. negated_to n c.args.counts.now.entries) all ∙ negated_to-all c.args.counts.now.entries
