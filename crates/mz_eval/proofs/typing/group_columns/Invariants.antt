use Rattle.std.proofs.Common.{◌≡◌, ◌++◌, drop, filter_map}
use Rattle.mz_plan.specs.Typed.{aggregate_column, columns_at}
use Rattle.mz_eval.proofs.typing.group_columns.Given as goal

-- the columns so far, with those of the aggregates that are left, are all
abbrev pub invariant-aggregates : goal.invariant-aggregates
invariant-aggregates l =
    l.all.items ++ filter_map (aggregate_column l.columns) (drop l.aggregate-index l.aggregates)
    ≡ columns_at l.places l.columns ++ filter_map (aggregate_column l.columns) l.aggregates
