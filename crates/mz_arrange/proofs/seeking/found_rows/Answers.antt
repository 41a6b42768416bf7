use Rattle.std.proofs.Common.{◌≡◌, ◌++◌, ◌∷◌, true, false, rules, SFits, sym, ap, subst, ◌∙◌}
use Rattle.std.specs.Int.{w128}
use Rattle.std.proofs.lemmas.Int.{ints, to_z-of_z}
use Rattle.mz_bag.specs.Weighted.{Weighted}
use Rattle.mz_updates.specs.Contents.{stamped}
use Rattle.mz_arrange.specs.Arranged.{begins_with, of_key}
use Rattle.mz_arrange.proofs.KeyOrder.{copied_all, copied_next, from_key, none_left, of_key-from, rest_next, rest_whole, IsRest}
use Rattle.mz_arrange.proofs.seeking.found_rows.Goals as goal

-- at first all rows from the key on are to come
pub rows-init : goal.rows-init
rows-init c =
    let all : c.into_iter-row-iterator.result ≡ from_key c.args.key.now c.args.rows.now.entries = c.into_iter-row-iterator.ensures.into_iter_gives ∙ c.range-row-items.ensures.between tt in
    record {
      rest = subst (IsRest c.args.key.now) (sym all) (rest_whole c.args.key.now c.args.rows.now.entries c.range-row-items.ensures.ordered);
      all = ap (λ us. us ++ stamped 0 (of_key c.args.key.now c.into_iter-row-iterator.result)) c.empty-copy.ensures
          ∙ ap (λ (ws : Weighted). stamped 0 (of_key c.args.key.now ws)) all
          ∙ ap (stamped 0) (of_key-from c.args.key.now c.args.rows.now.entries);
    }

-- one more is copied
pub rows-preserved : goal.rows-preserved
rows-preserved c =
    let ranged : SFits w128 c.in-Some.count.now = search (rules, ints) in
    let step : c.rows.row-iterator ≡ (c.in-Some.row.now, c.in-Some.count.now) ∷ c.next.new.self = search rules in
    let is : begins_with c.args.key.now c.in-Some.row.now ≡ true = sym c.begins_with-is_of_key.ensures ∙ c.if-not-is_of_key.false in
    let pushed = rw to_z-of_z at c.in_ok-push_row.ensures in
    record {
      rest = rest_next c.args.key.now c.rows.row-iterator (c.in-Some.row.now, c.in-Some.count.now) c.next.new.self step c.rows.invariant.rest;
      all = copied_next c.args.key.now c.rows.row-iterator (c.in-Some.row.now, c.in-Some.count.now) c.next.new.self c.rows.copy c.push_row.new.updates _ step is pushed c.rows.invariant.all;
    }

-- behind the first that doesn't begin with the key none does
pub returns-then-not-is_of_key : goal.returns-then-not-is_of_key
returns-then-not-is_of_key c =
    let step : c.rows.row-iterator ≡ (c.in-Some.row.now, c.in-Some.count.now) ∷ c.next.new.self = search rules in
    let other : begins_with c.args.key.now c.in-Some.row.now ≡ false = sym c.begins_with-is_of_key.ensures ∙ c.if-not-is_of_key.true in
    copied_all c.args.key.now c.rows.row-iterator c.rows.copy _
    (none_left c.args.key.now c.rows.row-iterator (c.in-Some.row.now, c.in-Some.count.now) c.next.new.self step c.rows.invariant.rest other) c.rows.invariant.all
