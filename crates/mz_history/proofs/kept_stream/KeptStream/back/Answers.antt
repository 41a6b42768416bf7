use Rattle.std.proofs.Common.{ap, ◌∙◌}
use Rattle.mz_history.specs.Kept.{taken_back}
use Rattle.mz_history.proofs.OneStream.{first_marked, kept_first}
use Rattle.mz_history.proofs.kept_stream.KeptStream.back.Goals as goal

pub invariant_of-self : goal.invariant_of-self
invariant_of-self c =
    let s = c.self.inside in
    kept_first s.lines.items c.let_go_behind.new.lines.items s.mark s.told c.let_go_behind.new.told c.self.invariant c.let_go_behind.ensures.lines
    c.let_go_behind.ensures.found

-- the lines are those that were marked
pub returns : goal.returns
returns c =
    let s = c.self.inside in
    (λ i. record {
      present = record { replica = s.replica; incarnation = s.incarnation; commands = c.let_go_behind.ensures.lines i; kept = s.kept };
      marked = record {
        replica = s.replica;
        incarnation = s.incarnation;
        commands = first_marked s.lines.items c.let_go_behind.new.lines.items s.mark c.let_go_behind.ensures.lines i;
        kept = s.kept;
      };
    }) ∙ ap taken_back c.self.view_is
