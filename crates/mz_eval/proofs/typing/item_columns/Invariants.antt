use Rattle.std.proofs.Common.{◌≡◌, drop}
use Rattle.mz_plan.specs.Typed.{item_columns}
use Rattle.mz_eval.proofs.typing.item_columns.Given as goal

-- the items that are left decide
abbrev pub invariant-items : goal.invariant-items
invariant-items l = item_columns l.items (drop l.item-index l.items) l.id ≡ item_columns l.items l.items l.id
