use Rattle.mz_maintained.proofs.TableLaws.{bag_put}
use Rattle.mz_maintained.proofs.tables.put.Goals as goal

-- the table has it, and no other has another
pub returns : goal.returns
returns c = bag_put c.args.tables.now.entries c.insert.new.self.entries c.args.table c.args.bag c.in_ok-insert.ensures.updates.0
