use Rattle.std.proofs.Common.{ap, sym, subst, ◌∙◌, arith, length}
use Rattle.mz_history.specs.Kept.{IsWithin}
use Rattle.mz_history.proofs.OneStream.{marked_count}
use Rattle.mz_history.proofs.kept_stream.KeptStream.marked.Goals as goal

pub returns-clause-within : goal.returns-clause-within
returns-clause-within c =
    let s = c.self.inside in
    subst IsWithin c.self.view_is (let k = c.self.invariant in omega (arith, k.within, marked_count s.lines.items s.mark s.told k))

pub returns-clause-count : goal.returns-clause-count
returns-clause-count c =
    let s = c.self.inside in
    sym (marked_count s.lines.items s.mark s.told c.self.invariant) ∙ ap (λ v. length v.marked.commands) c.self.view_is
