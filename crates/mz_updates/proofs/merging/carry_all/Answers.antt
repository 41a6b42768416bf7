use Rattle.std.proofs.Common.{◌+◌, length, sym, ap, ◌∙◌, arith}
use Rattle.mz_updates.specs.Carrying.{carried_from}
use Rattle.mz_updates.proofs.Carries.{carried_next, carried_end, length-carried_at}
use Rattle.mz_updates.proofs.merging.carry_all.Goals as goal

-- one place more is carried
pub places-preserved : goal.places-preserved
places-preserved c = record {
  carried = ap (carried_from (c.places.place + 1)) c.carry.ensures ∙ carried_next c.places.place c.places.updates.items (omega arith) ∙ c.places.invariant.carried;
  same_length = ap length c.carry.ensures ∙ length-carried_at c.places.place c.places.updates.items ∙ c.places.invariant.same_length;
}

-- from the last place on there is nothing to carry
pub returns : goal.returns
returns c = sym (carried_end c.places.place c.places.updates.items (omega arith)) ∙ c.places.invariant.carried
