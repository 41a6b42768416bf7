use Rattle.std.proofs.Common.{◌∙◌, sym, ap, length, slice_get, ◌-◌}
use Rattle.mz_counted.specs.Counted.{least_of}
use Rattle.mz_counted.proofs.Falling.{least_last}
use Rattle.mz_counted.proofs.counted.Counted.least.Goals as goal

-- the times fall, so the last is the least
pub returns-in-Some : goal.returns-in-Some
returns-in-Some c =
    let times = c.self.inside.times.items in
    least_last times _ c.self.invariant (sym (c.in-Some.ensures.value ∙ ap (λ us. slice_get us (length us - 1)) c.deref.ensures.value)) ∙ ap (λ s. least_of s.times) c.self.view_is
