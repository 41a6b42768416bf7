use Rattle.mz_plain.specs.Stands.{kept}
use Rattle.mz_plain.proofs.RoundCarried.{made_ordered, round_carried}
use Rattle.mz_plain.proofs.plain.Plain.try_round.Goals as goal

-- the plans are in order with those that were made
pub add_plans-requires : goal.add_plans-requires
add_plans-requires c =
    made_ordered (kept c.args.self.now) _ _ _ _ c.requires
    (round_carried (kept c.args.self.now) _ _ _ _ _ c.in_round.ensures c.new-made.ensures.items c.in_ok-replies.ensures.done)
