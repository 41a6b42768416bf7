use Rattle.std.proofs.Common.{◌+ℤ◌, sym, subst}
use Rattle.std.proofs.lemmas.Int.{to_z-of_z}
use Rattle.mz_bag.specs.Bag.{Counts, count_in, map_of, Fits}
use Rattle.mz_bag.proofs.StoredCounts.{IsStored-either}
use Rattle.mz_bag.proofs.bag.Bag.add.Goals as goal

-- the new count is within the bound, and where there was no memory nothing has changed
pub invariant_of-self : goal.invariant_of-self
invariant_of-self c =
    let ranged = c.ranges.diff in
    let stored = map_of c.self.inside.counts.entries in
    let fits : Fits (count_in stored c.args.row +ℤ c.args.diff) = subst (λ (b : Counts). Fits (count_in b c.args.row +ℤ c.args.diff)) (sym c.self.view_is) c.requires in
    IsStored-either c.add_to.result c.self.inside.counts.entries c.add_to.new.counts.entries c.args.row (count_in stored c.args.row +ℤ c.args.diff) (rw to_z-of_z at c.add_to.ensures.ok) c.add_to.ensures.err fits c.self.invariant
