use Rattle.std.proofs.Common.{ap, ◌∙◌, rules}
use Rattle.mz_updates.specs.Contents.{stamped}
use Rattle.mz_maintained.proofs.Telling.{one_told}
use Rattle.mz_maintained.proofs.maintained.tell_one.Goals as goal

-- the table grew, and the dataflow was offered its updates
pub returns : goal.returns
returns c = one_told c.args.time c.args.table c.args.rows.now c.in_ok-updates.updates c.args.dataflow.now c.offer.new.self c.args.tables.now.entries c.grow.new.tables.entries
    (search rules) (c.in_ok-updates.ensures ∙ ap (stamped c.args.time) c.in_ok-try_copy.ensures) c.in_ok-offer.ensures.ok c.offer.ensures.stands c.offer.ensures.output c.offer.ensures.nodes c.offer.ensures.broken
