use Rattle.std.proofs.Common.{ap, ◌∙◌, ◌++◌, ◌+◌, drop}
use Rattle.mz_kept.specs.Carrying.{state_with, tells}
use Rattle.mz_plain.proofs.CarryingNext.{left_next, told_next}
use Rattle.mz_plain.proofs.carry.carry_out_each.Goals as goal

-- one command more is carried out
pub commands-preserved : goal.commands-preserved
commands-preserved c =
    let own = c.command-item.result in
    let place = c.commands.command-index in
    let before = c.commands.seq.present in
    let after = c.carry_out.new.seq.present in
    let had = c.commands.made.items in
    let has = c.carry_out.new.made.items in
    record {
      told = λ plans.
          ap (λ items. items ++ tells (state_with after has plans) (drop (place + 1) c.args.commands.now)) c.in_ok-push.ensures.items
          ∙ told_next c.args.commands.now place own before after had has c.in_ok-reply.reply _ _ plans c.commands-test.true c.command-item.is
          c.in_ok-reply.ensures.done (c.commands.invariant.told plans);
      left = λ plans.
          left_next c.args.commands.now place own before after had has c.in_ok-reply.reply plans c.commands-test.true c.command-item.is
          c.in_ok-reply.ensures.done ∙ c.commands.invariant.left plans;
      marked = c.carry_out.ensures.marked ∙ c.commands.invariant.marked;
    }
