use Rattle.std.proofs.Common.{ap, ◌∙◌, ◌∷◌, [], take}
use Rattle.std.proofs.lemmas.List.{take-append-le}
use Rattle.mz_history.specs.Kept.{told_line}
use Rattle.mz_history.proofs.OneStream.{kept_pushed}
use Rattle.mz_history.proofs.kept_stream.KeptStream.push.Goals as goal

-- what is marked is within
pub invariant_of-self-2 : goal.invariant_of-self-2
invariant_of-self-2 c =
    let s = c.self.inside in
    kept_pushed s.lines.items c.push_line.new.lines.items c.args.line s.mark s.told c.push_line.new.told c.self.invariant c.in_ok-push_line.ensures.ok
    c.in_ok-push_line.ensures.found

pub returns-clause-ok : goal.returns-clause-ok
returns-clause-ok c =
    let s = c.self.inside in
    (λ i. record {
      present = record { replica = s.replica; incarnation = s.incarnation; commands = c.in_ok-push_line.ensures.ok i; kept = s.kept };
      marked = record {
        replica = s.replica;
        incarnation = s.incarnation;
        commands = (ap (take s.mark) c.in_ok-push_line.ensures.ok ∙ take-append-le s.mark s.lines.items (c.args.line ∷ []) c.self.invariant.within) i;
        kept = s.kept;
      };
    }) ∙ ap (told_line c.args.line) c.self.view_is
