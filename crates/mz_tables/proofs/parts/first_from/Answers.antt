use Rattle.std.proofs.Common.{◌<◌, ltb, ltb-true, arith, rules}
use Rattle.std.proofs.lemmas.List.Sorted.{IsPartitionPoint-from_clause, IsPartitionedBy-ltb}
use Rattle.mz_updates.specs.declared.update.Update.{Update}
use Rattle.mz_tables.proofs.PartLaws.{non_decreasing, each_taken}
use Rattle.mz_tables.proofs.parts.first_from.Goals as goal

-- times don't fall, so all before the place are before the time
pub returns-clause-before : goal.returns-clause-before
returns-clause-before c =
    let parted = IsPartitionedBy-ltb (λ (u : Update). u.time) _ c.args.ready (non_decreasing c.args.updates.now c.requires) in
    let point = IsPartitionPoint-from_clause (λ (u : Update). ltb u.time c.args.ready) _ _ c.partition_point.ensures.partitioned parted (λ a r q k. search rules) in
    each_taken (λ (u : Update). u.time < c.args.ready) c.partition_point.result c.args.updates.now (λ k d a b. ltb-true _ _ (point.0 k d (omega arith) a))
