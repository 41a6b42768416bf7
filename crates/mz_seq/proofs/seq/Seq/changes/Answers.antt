use Rattle.std.proofs.Common.{ap, ◌∙◌}
use Rattle.mz_log.specs.Sequential.{changes_between}
use Rattle.mz_seq.specs.Tables.{bags_then, changes_of}
use Rattle.mz_seq.proofs.HadLemmas.{changes_are}
use Rattle.mz_seq.proofs.seq.Seq.changes.Goals as goal

-- what each table tells is what came under its number
pub returns : goal.returns
returns c =
    let s = c.self.inside in
    ap changes_of c.deref.ensures.value ∙ changes_are (bags_then s.tables.items) s.tables.items c.self.invariant.had
    ∙ ap (λ t. changes_between t.marked.bags t.present.bags) c.self.view_is
