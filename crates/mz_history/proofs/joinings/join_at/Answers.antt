use Rattle.std.proofs.Common.{◌+◌, ◌<◌, ◌^◌, ap, subst, ◌∙◌, set}
use Rattle.mz_history.specs.Kept.{presents}
use Rattle.mz_history.proofs.Counts.{more_found, times_found}
use Rattle.mz_history.proofs.Lists.{markeds_set}
use Rattle.mz_history.proofs.joinings.join_at.Goals as goal

pub join-requires : goal.join-requires
join-requires c =
    subst (λ n. n + 1 < 2 ^ 64) (times_found c.args.replica.now c.args.joinings.now.items c.args.place c.index_mut.result.now c.requires.there c.index_mut.ensures.value) c.requires.fits

pub returns-clause-marked : goal.returns-clause-marked
returns-clause-marked c =
    λ m. markeds_set m c.args.place c.args.joinings.now.items c.index_mut.result.now c.join.new.self c.index_mut.ensures.value (ap (λ t. t.marked) c.join.ensures)

pub returns-clause-ok : goal.returns-clause-ok
returns-clause-ok c =
    ap (λ t. presents (set c.args.joinings.now.items c.args.place t)) c.join.ensures
    ∙ more_found c.args.replica.now c.args.joinings.now.items c.args.place c.index_mut.result.now c.requires.there c.index_mut.ensures.value
