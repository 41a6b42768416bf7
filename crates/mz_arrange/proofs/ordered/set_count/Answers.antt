use Rattle.std.proofs.Common.{◌≡◌, pos, refl, sym, arith}
use Rattle.std.proofs.lemmas.Int.{ints, to_z-of_z}
use Rattle.std.specs.BTreeMap.{get}
use Rattle.std.specs.declared.option.Option.TheVariants.{None, Some}
use Rattle.mz_value.specs.Row.{row_cmp}
use Rattle.mz_arrange.proofs.OrderedLaws.{count-given, is_given, some-given}
use Rattle.mz_arrange.proofs.ordered.set_count.Goals as goal

-- the row is there, so no memory is wanted
pub unwrap-requires : goal.unwrap-requires
unwrap-requires c = is_given c.insert-given.result (get row_cmp c.args.rows.now c.args.row) c.insert-given.ensures.absent c.requires

-- with the count 0 the row is taken out
pub returns-then-gone-clause-counts : goal.returns-then-gone-clause-counts
returns-then-gone-clause-counts c q =
    let zero : c.args.number ≡ pos 0 = omega (arith, ints) in
    count-given c.args.rows.now c.remove.new.self c.args.row q None c.args.number c.len-len.ensures.ordered c.remove.ensures.ordered (sym zero) (c.remove.ensures.updates.0 q)

pub returns-then-gone-clause-others : goal.returns-then-gone-clause-others
returns-then-gone-clause-others c q other some = some-given c.args.rows.now c.remove.new.self c.args.row q None (c.remove.ensures.updates.0 q) other some

-- any other count is put in
pub returns-else-gone-clause-counts : goal.returns-else-gone-clause-counts
returns-else-gone-clause-counts c q =
    let fits = c.ranges.number in
    let updated = rw c.unwrap.ensures at c.insert-given.ensures.updates in
    let given = rw to_z-of_z at updated.0 in
    count-given c.args.rows.now c.insert-given.new.self c.args.row q (Some c.args.number) c.args.number c.len-len.ensures.ordered c.insert-given.ensures.ordered refl (given q)

pub returns-else-gone-clause-others : goal.returns-else-gone-clause-others
returns-else-gone-clause-others c q other some =
    let updated = rw c.unwrap.ensures at c.insert-given.ensures.updates in
    some-given c.args.rows.now c.insert-given.new.self c.args.row q _ (updated.0 q) other some
