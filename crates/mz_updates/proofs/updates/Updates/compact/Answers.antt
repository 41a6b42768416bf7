use Rattle.std.proofs.Common.{List, ap, sym, subst, ◌∙◌}
use Rattle.mz_updates.specs.declared.update.Update.{Update}
use Rattle.mz_updates.specs.Contents.{compacted, IsFrom, SameFrom}
use Rattle.mz_updates.proofs.ContentsLaws.{IsFrom-compacted, SameFrom-compacted}
use Rattle.mz_updates.proofs.updates.Updates.compact.Goals as goal

-- each time is moved up to the since
pub returns-clause-from : goal.returns-clause-from
returns-clause-from c = subst (IsFrom c.args.since) (sym c.move_up.ensures) (IsFrom-compacted c.args.since c.self.inside.updates.items)

-- which no later time tells
pub returns-clause-contents : goal.returns-clause-contents
returns-clause-contents c =
    subst (λ (us : List Update). SameFrom c.args.since us c.args.self.now) (sym (c.move_up.ensures ∙ ap (compacted c.args.since) c.self.view_is)) (SameFrom-compacted c.args.since c.args.self.now)
