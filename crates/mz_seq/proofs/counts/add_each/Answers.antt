use Rattle.std.proofs.Common.{◌≡◌, ◌+ℤ◌, ◌∷◌, rules, SFits, sym, ap, subst, ◌∙◌, refl, arith}
use Rattle.std.specs.Int.{w128}
use Rattle.std.specs.List.{IsDistinct}
use Rattle.std.specs.Map.{keys_of}
use Rattle.std.proofs.lemmas.Int.{ints, to_z-of_z}
use Rattle.std.proofs.lemmas.Map.Keys.{IsDistinct-tail}
use Rattle.mz_value.specs.Row.{row_eq}
use Rattle.mz_bag.specs.Bag.{count_in, map_of, Fits}
use Rattle.mz_bag.specs.Weighted.{Weighted, count}
use Rattle.mz_bag.proofs.BagLaws.{count_in-map_of}
use Rattle.mz_seq.specs.Stored.{count_at}
use Rattle.mz_seq.proofs.StoredLemmas.{comes_first, rest_none}
use Rattle.mz_seq.proofs.counts.add_each.Goals as goal

-- all of the change is still to come
pub rows-init : goal.rows-init
rows-init c =
    let start : c.into_iter-row-iterator.result ≡ c.args.change.now.entries = c.into_iter-row-iterator.ensures.into_iter_gives ∙ c.iter-row-items.ensures.rest in
    let once = c.len-rows.ensures.unique in
    record {
      once = subst (λ (es : Weighted). IsDistinct row_eq (keys_of es)) (sym start) once;
      summed = λ q. ap (λ (z : Weighted). count_at c.args.counts.now.entries q +ℤ count q z) start
          ∙ ap (λ z. count_at c.args.counts.now.entries q +ℤ z) (sym (count_in-map_of q c.args.change.now.entries once));
      covers = λ q none. ap (count q) start ∙ sym (count_in-map_of q c.args.change.now.entries once) ∙ c.requires.there.covers q none;
      places = λ q. refl;
    }

-- a row's count is as it was, and all of its change comes now
pub add_at-requires-clause-fits : goal.add_at-requires-clause-fits
add_at-requires-clause-fits c =
    let ranged : SFits w128 c.in-Some.diff.now = search (rules, ints) in
    let own = comes_first c.in-Some.row.now c.in-Some.diff.now c.next.new.self c.rows.row-iterator c.rows.invariant.once c.in-Some.ensures.steps in
    let all : count_at c.rows.counts.entries c.in-Some.row.now +ℤ c.in-Some.diff.now
    ≡ count_at c.args.counts.now.entries c.in-Some.row.now +ℤ count_in (map_of c.args.change.now.entries) c.in-Some.row.now =
    ap (λ z. count_at c.rows.counts.entries c.in-Some.row.now +ℤ z) (sym own) ∙ c.rows.invariant.summed c.in-Some.row.now in
    rw to_z-of_z (subst Fits (sym all) (c.requires.fits c.in-Some.row.now))

-- nothing comes to a row without a place
pub add_at-requires-clause-there : goal.add_at-requires-clause-there
add_at-requires-clause-there c none =
    let ranged : SFits w128 c.in-Some.diff.now = search (rules, ints) in
    let own = comes_first c.in-Some.row.now c.in-Some.diff.now c.next.new.self c.rows.row-iterator c.rows.invariant.once c.in-Some.ensures.steps in
    rw to_z-of_z (sym own ∙ c.rows.invariant.covers c.in-Some.row.now none)

-- one row's change has come
pub rows-preserved : goal.rows-preserved
rows-preserved c =
    let ranged : SFits w128 c.in-Some.diff.now = search (rules, ints) in
    let rest = c.next.new.self in
    let next : c.rows.row-iterator ≡ (c.in-Some.row.now, c.in-Some.diff.now) ∷ rest = c.in-Some.ensures.steps in
    let once : IsDistinct row_eq (keys_of ((c.in-Some.row.now, c.in-Some.diff.now) ∷ rest)) = subst (λ (es : Weighted). IsDistinct row_eq (keys_of es)) next c.rows.invariant.once in
    let added = rw to_z-of_z at c.add_at.ensures.counts in
    record {
      once = IsDistinct-tail row_eq c.in-Some.row.now (keys_of rest) once;
      summed = λ q.
          let all : count_at c.rows.counts.entries q +ℤ count q ((c.in-Some.row.now, c.in-Some.diff.now) ∷ rest)
          ≡ count_at c.args.counts.now.entries q +ℤ count_in (map_of c.args.change.now.entries) q =
          ap (λ (es : Weighted). count_at c.rows.counts.entries q +ℤ count q es) (sym next) ∙ c.rows.invariant.summed q in
          omega (arith, ints, added q, all);
      covers = λ q none. rest_none c.in-Some.row.now c.in-Some.diff.now rest q once
          (ap (count q) (sym next) ∙ c.rows.invariant.covers q (sym (c.add_at.ensures.places q) ∙ none));
      places = λ q. c.add_at.ensures.places q ∙ c.rows.invariant.places q;
    }
