use Rattle.mz_seq.proofs.UsedLemmas.{put_used}
use Rattle.mz_seq.proofs.counts.put.Goals as goal

-- what isn't used of the rows of the change is swept
pub returns-clause-used : goal.returns-clause-used
returns-clause-used c =
    put_used c.put_all-result.result c.args.counts.now.entries c.put_all-result.new.counts.entries c.sweep.new.counts.entries c.counts.result.now.entries
    c.args.changes.now c.args.change.now c.put_all-result.new.changes c.counts.ensures.counts c.put_all-result.ensures.counts c.put_all-result.ensures.changes
    c.put_all-result.ensures.same c.put_all-result.ensures.same_changes c.put_all-result.ensures.only c.sweep.ensures.stays c.sweep.ensures.counts c.sweep.ensures.gone
