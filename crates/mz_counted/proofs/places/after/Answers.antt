use Rattle.std.proofs.Common.{ℕ, ◌<◌, ◌≤◌, ltb, arith, rules}
use Rattle.std.proofs.lemmas.Bool.Decides.{nat_tests}
use Rattle.std.proofs.lemmas.List.Sorted.{IsPartitionPoint-from_clause}
use Rattle.mz_counted.proofs.Each.{each_taken, each_dropped}
use Rattle.mz_counted.proofs.Falling.{parted_after}
use Rattle.mz_counted.proofs.places.after.Goals as goal

-- the times fall, so those that pass the test stand first
pub returns-clause-first : goal.returns-clause-first
returns-clause-first c =
    let point = IsPartitionPoint-from_clause (λ (u : ℕ). ltb c.args.t u) _ _ c.partition_point.ensures.partitioned (parted_after c.args.t c.args.times.now c.requires) (λ a r q k. search rules) in
    each_taken (λ u. c.args.t < u) c.partition_point.result c.args.times.now (λ k d a b. grind (arith, nat_tests, point.0 k d (omega arith) a))

pub returns-clause-rest : goal.returns-clause-rest
returns-clause-rest c =
    let point = IsPartitionPoint-from_clause (λ (u : ℕ). ltb c.args.t u) _ _ c.partition_point.ensures.partitioned (parted_after c.args.t c.args.times.now c.requires) (λ a r q k. search rules) in
    each_dropped (λ u. u ≤ c.args.t) c.partition_point.result c.args.times.now (λ k d a b. grind (arith, nat_tests, point.1 k d a b))
