use Rattle.mz_reduce.proofs.GroupRoom.{room_bounded}
use Rattle.mz_reduce.proofs.group.regrouped.Goals as goal

-- the groups are bounded with all rows
pub push_all-requires-clause-bounded : goal.push_all-requires-clause-bounded
push_all-requires-clause-bounded c = room_bounded c.args.places.now c.args.aggregates.now c.all_in.new.groups _ c.in_ok-all_in.ensures.room

-- each has its new row
pub returns-clause-groups : goal.returns-clause-groups
returns-clause-groups c = record {
  touched = c.all_in.new.touched.keys;
  back = c.all_in.new.out.items;
  came = c.in_ok-all_in.ensures.came;
  once = c.push_all.ensures.once;
  bags = c.in_ok-push_all.ensures.bags;
  made = c.in_ok-push_all.ensures.shown;
}
