use Rattle.std.proofs.Common.{◌≡◌, is_some, sym, ap, ◌∙◌}
use Rattle.mz_history.specs.Kept.{presents}
use Rattle.mz_history.specs.StreamBook.{stream_of}
use Rattle.mz_history.proofs.Found.{none_if}
use Rattle.mz_history.proofs.history.History.is_live.Goals as goal

-- one that isn't live has no stream
pub returns-clause-lost : goal.returns-clause-lost
returns-clause-lost c =
    let is : c.is_live.result ≡ is_some (stream_of c.args.replica.now c.args.self.now.present.live)
    = c.is_live.ensures ∙ ap (λ ts. is_some (stream_of c.args.replica.now (presents ts))) c.deref.ensures.value
    ∙ ap (λ v. is_some (stream_of c.args.replica.now v.present.live)) c.self.view_is in
    λ e. none_if (stream_of c.args.replica.now c.args.self.now.present.live) (sym is ∙ e)
