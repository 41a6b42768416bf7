use Rattle.std.proofs.Common.{◌∙◌}
use Rattle.mz_maintained.proofs.Carrying.{can_carry, carried_change, carried_sound}
use Rattle.mz_maintained.proofs.maintained.carry.Goals as goal

-- the run is within the bound
pub run_to-requires : goal.run_to-requires
run_to-requires c = λ whole.
    can_carry c.runs_over_few_tables.ensures c.args.time c.args.next _ c.args.dataflow.now c.tell.new.dataflow c.args.tables.now.entries c.tell.new.tables.entries
    c.requires.sound c.requires.upper c.requires.next c.in_ok-tell.ensures

-- the past before the time is let go
pub returns-clause-sound : goal.returns-clause-sound
returns-clause-sound c =
    carried_sound c.args.time c.args.next _ c.args.dataflow.now c.tell.new.dataflow c.run_to.new.self c.allow.new.self c.args.tables.now.entries c.tell.new.tables.entries
    c.requires.sound c.requires.next c.in_ok-tell.ensures c.in_ok-run_to.ensures.stands c.in_ok-run_to.ensures.output.upper c.in_ok-run_to.ensures.offers
    c.allow.ensures.output c.allow.ensures.offers c.allow.ensures.stands

-- and the plan's rows changed as was put out
pub returns-clause-change : goal.returns-clause-change
returns-clause-change c =
    carried_change c.args.time c.args.next _ c.args.dataflow.now c.tell.new.dataflow c.run_to.new.self c.allow.new.self c.args.tables.now.entries c.tell.new.tables.entries
    c.requires.sound c.requires.upper c.requires.next c.in_ok-tell.ensures c.in_ok-run_to.ensures.stands c.in_ok-run_to.ensures.gives
    c.in_ok-run_to.ensures.once c.in_ok-run_to.ensures.before c.allow.ensures.changes c.allow.ensures.nodes
    (c.allow.ensures.output.upper ∙ c.in_ok-run_to.ensures.output.upper)
