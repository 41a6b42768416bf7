use Rattle.std.proofs.Common.{◌<◌, sym, subst}
use Rattle.mz_resolve.specs.Waiting.{IsPath}
use Rattle.mz_resolve.proofs.PathLemmas.{IsUnderWay, left, left_falls, under_way_next}
use Rattle.mz_resolve.proofs.reached.reach.Goals as goal

-- the last one of those that wait
pub step-requires-clause-path : goal.step-requires-clause-path
step-requires-clause-path c = subst (IsPath c.items.known.entries c.args.catalog.now.items) c.in-Some.ensures.items c.items.invariant.path

-- a step leaves less to be done
pub items-smaller : goal.items-smaller
items-smaller c =
    subst (λ waiting. left c.args.catalog.now c.step.new.known.entries c.step.new.waiting.items < left c.args.catalog.now c.items.known.entries waiting)
    (sym c.in-Some.ensures.items)
    (left_falls c.args.catalog.now c.args.cluster c.items.known.entries c.step.new.known.entries c.pop.new.self.items c.step.new.waiting.items
    c.in-Some.last c.in_ok-step.ensures.catalog
    (subst (IsPath c.items.known.entries c.args.catalog.now.items) c.in-Some.ensures.items c.items.invariant.path) c.in_ok-step.ensures.ok)

-- a step was done
pub items-preserved : goal.items-preserved
items-preserved c =
    under_way_next c.args.catalog.now c.args.cluster c.args.item c.args.known.now.entries c.items.known.entries c.step.new.known.entries
    c.pop.new.self.items c.step.new.waiting.items c.in-Some.last
    (subst (IsUnderWay c.args.catalog.now c.args.cluster c.args.item c.args.known.now.entries c.items.known.entries)
    c.in-Some.ensures.items c.items.invariant)
    c.in_ok-step.ensures.ok
