use Rattle.std.proofs.Common.{◌≡◌, ℕ, List, ◌++◌, drop}
use Rattle.mz_plan.specs.declared.plan.Plan.{Plan}
use Rattle.mz_kept.specs.Carrying.{leaves, state_with, tells}
use Rattle.mz_plain.proofs.carry.carry_out_each.Given as goal

-- what the commands so far were told, with what those to come are told, is what all are told; those to come leave what all leave; and
-- the mark stays
abbrev pub invariant-commands : goal.invariant-commands
invariant-commands l = record {
  told : (plans : List (ℕ × Plan)) → l.replies.items ++ tells (state_with l.seq.present l.made.items plans) (drop l.command-index l.commands)
      ≡ tells (state_with l.initial.seq.present l.initial.made.items plans) l.commands;
  left : (plans : List (ℕ × Plan)) → leaves (state_with l.seq.present l.made.items plans) (drop l.command-index l.commands)
      ≡ leaves (state_with l.initial.seq.present l.initial.made.items plans) l.commands;
  marked : l.seq.marked ≡ l.initial.seq.marked;
}
