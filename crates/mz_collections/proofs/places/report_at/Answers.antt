use Rattle.std.proofs.Common.{◌-◌, arith}
use Rattle.mz_collections.specs.CollectionBook.{come_past as come_past_of}
use Rattle.mz_collections.proofs.Under.{changed_place}
use Rattle.mz_collections.proofs.places.report_at.Goals as goal

-- no other has the number
pub returns : goal.returns
returns c =
    changed_place 1 (c.args.number - 1) c.args.number (come_past_of c.args.upper) c.args.all.now.items c.index_mut.result.now c.come_past.new.this c.requires.numbered
    (omega (arith, c.requires.made.low)) (omega (arith, c.requires.made.low, c.requires.made.high)) c.index_mut.ensures.value c.come_past.ensures
