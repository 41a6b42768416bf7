use Rattle.mz_reduce.proofs.CountingLaws.{counted_change, counted_within, room_of}
use Rattle.mz_reduce.proofs.distinct.DistinctChanging.change.Goals as goal

-- there is room for all rows
pub all_in-requires-clause-room : goal.all_in-requires-clause-room
all_in-requires-clause-room c = room_of c.args.self.now.rows c.args.left c.args._right c.into_vec.result.items c.requires c.into_vec.ensures

-- and they have come in
pub returns-clause-law : goal.returns-clause-law
returns-clause-law c = counted_change c.args.self.now.rows c.all_in.new.rows c.into_vec.result.items c.all_in.new.out.items
    c.args.left c.args._right c.from_vec.result c.in_ok-all_in.ensures c.into_vec.ensures c.from_vec.ensures

pub returns-clause-light : goal.returns-clause-light
returns-clause-light c = counted_within c.args.self.now.rows c.all_in.new.rows c.into_vec.result.items c.all_in.new.out.items
    c.args.left c.args._right c.from_vec.result c.in_ok-all_in.ensures c.into_vec.ensures c.from_vec.ensures
