use Rattle.std.proofs.Common.{◌≡◌, ◌≢◌, pos, sym, ap, ◌∙◌, of_z, arith}
use Rattle.std.specs.Int.{w128}
use Rattle.std.proofs.lemmas.Int.{ints, to_z-of_z}
use Rattle.mz_bag.specs.Bag.{map_of}
use Rattle.mz_bag.proofs.StoredCounts.{one_given, one_removed, with_count-zero, with_count-other}
use Rattle.mz_bag.proofs.bag.set_count.Goals as goal

-- with the count 0 the row is taken out
pub returns-then-gone-clause-ok : goal.returns-then-gone-clause-ok
returns-then-gone-clause-ok c =
    let zero : c.args.count ≡ pos 0 = omega (arith, ints) in
    one_removed c.args.counts.now.entries c.swap_remove.new.self.entries c.args.row c.swap_remove.ensures.updates.0
    ∙ sym (with_count-zero (map_of c.args.counts.now.entries) c.args.row c.args.count zero)

-- any other count is put in
pub returns-in_ok-insert-clause-ok : goal.returns-in_ok-insert-clause-ok
returns-in_ok-insert-clause-ok c =
    let fits = c.ranges.count in
    let other : c.args.count ≢ pos 0 = λ z. c.if-gone.false (ap (of_z w128) z) in
    one_given c.args.counts.now.entries c.insert.new.self.entries c.args.row c.args.count (rw to_z-of_z at c.in_ok-insert.ensures.updates.0)
    ∙ sym (with_count-other (map_of c.args.counts.now.entries) c.args.row c.args.count other)
