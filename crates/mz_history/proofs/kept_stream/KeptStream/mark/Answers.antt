use Rattle.std.proofs.Common.{◌≡◌, ap, ◌∙◌, arith, length, take}
use Rattle.std.proofs.Math.Seq.{take-length}
use Rattle.mz_history.specs.Kept.{marked_now}
use Rattle.mz_history.proofs.kept_stream.KeptStream.mark.Goals as goal

pub invariant_of-self : goal.invariant_of-self
invariant_of-self c =
    let all : c.count-mark.result ≡ length c.self.inside.lines.items = c.count-mark.ensures ∙ ap length c.deref.ensures.value in
    record { within = omega (arith, all); found = c.self.invariant.found }

-- all lines are marked
pub returns : goal.returns
returns c =
    let s = c.self.inside in
    let all : c.count-mark.result ≡ length s.lines.items = c.count-mark.ensures ∙ ap length c.deref.ensures.value in
    (λ i. record {
      present = record { replica = s.replica; incarnation = s.incarnation; commands = s.lines.items; kept = s.kept };
      marked = record {
        replica = s.replica;
        incarnation = s.incarnation;
        commands = (ap (λ n. take n s.lines.items) all ∙ take-length s.lines.items) i;
        kept = s.kept;
      };
    }) ∙ ap marked_now c.self.view_is
