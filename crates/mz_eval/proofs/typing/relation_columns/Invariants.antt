use Rattle.std.proofs.Common.{◌≡◌, drop}
use Rattle.mz_plan.specs.Typed.{relation_columns}
use Rattle.mz_eval.proofs.typing.relation_columns.Given as goal

-- the items that are left decide
abbrev pub invariant-items : goal.invariant-items
invariant-items l = relation_columns (drop l.item-index l.items) l.id ≡ relation_columns l.items l.id
