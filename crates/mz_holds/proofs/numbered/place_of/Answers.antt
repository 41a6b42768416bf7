use Rattle.std.proofs.Common.{◌<◌, ◌≤◌, ltb, is_some, ap, ◌∙◌, arith, rules}
use Rattle.std.proofs.lemmas.Bool.Decides.{nat_tests}
use Rattle.std.proofs.lemmas.List.Sorted.{IsPartitionPoint-from_clause}
use Rattle.mz_counted.proofs.Each.{each_taken, each_dropped}
use Rattle.mz_rules.specs.declared.capability.Hold.{Hold}
use Rattle.mz_holds.proofs.Found.{parted, stands, stands_within}
use Rattle.mz_holds.proofs.numbered.place_of.Goals as goal

-- numbers rise, so the lesser ones stand first
pub returns-clause-before : goal.returns-clause-before
returns-clause-before c =
    let point = IsPartitionPoint-from_clause (λ (x : Hold). ltb x.number c.args.number) _ _ c.partition_point.ensures.partitioned (parted c.args.number c.args.live.now c.requires.rising) (λ a r q k. search rules) in
    each_taken (λ x. x.number < c.args.number) c.partition_point.result c.args.live.now (λ k d a b. grind (arith, nat_tests, point.0 k d (omega arith) a))

-- and behind them the hold itself
pub returns-clause-hold : goal.returns-clause-hold
returns-clause-hold c =
    let point = IsPartitionPoint-from_clause (λ (x : Hold). ltb x.number c.args.number) _ _ c.partition_point.ensures.partitioned (parted c.args.number c.args.live.now c.requires.rising) (λ a r q k. search rules) in
    stands c.args.number c.partition_point.result c.args.live.now c.requires.rising (returns-clause-before c)
    (each_dropped (λ x. c.args.number ≤ x.number) c.partition_point.result c.args.live.now (λ k d a b. grind (arith, nat_tests, point.1 k d a b)))
    c.partition_point.ensures.bound c.requires.live

pub returns-clause-place : goal.returns-clause-place
returns-clause-place c = stands_within c.partition_point.result c.args.live.now (ap is_some (returns-clause-hold c) ∙ c.requires.live)
