use Rattle.std.proofs.Common.{◌<◌, ap, subst, sym, ◌∙◌, length}
use Rattle.mz_history.specs.Kept.{without_last}
use Rattle.mz_history.proofs.OneStream.{kept_popped, popped_marked}
use Rattle.mz_history.proofs.kept_stream.KeptStream.pop.Goals as goal

-- the last isn't marked
pub invariant_of-self : goal.invariant_of-self
invariant_of-self c =
    let s = c.self.inside in
    kept_popped s.lines.items c.let_go_last.new.lines.items s.mark s.told c.let_go_last.new.told c.self.invariant
    (subst (λ v. length v.marked.commands < length v.present.commands) (sym c.self.view_is) c.requires) c.let_go_last.ensures.lines c.let_go_last.ensures.found

pub returns : goal.returns
returns c =
    let s = c.self.inside in
    let more = subst (λ v. length v.marked.commands < length v.present.commands) (sym c.self.view_is) c.requires in
    (λ i. record {
      present = record { replica = s.replica; incarnation = s.incarnation; commands = c.let_go_last.ensures.lines i; kept = s.kept };
      marked = record {
        replica = s.replica;
        incarnation = s.incarnation;
        commands = popped_marked s.lines.items c.let_go_last.new.lines.items s.mark s.told c.self.invariant more c.let_go_last.ensures.lines i;
        kept = s.kept;
      };
    }) ∙ ap without_last c.self.view_is
