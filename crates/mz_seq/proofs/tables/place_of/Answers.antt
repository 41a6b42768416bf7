use Rattle.std.proofs.Common.{sym}
use Rattle.mz_seq.proofs.PlaceLemmas.{stands_at}
use Rattle.mz_seq.proofs.tables.place_of.Goals as goal

-- no other has the number, so it is the first
pub returns-in-Some : goal.returns-in-Some
returns-in-Some c =
    sym (stands_at c.args.number c.args.tables.now c.in-Some.place c.index-tables-place.result c.requires c.in-Some.ensures c.index-tables-place.is (sym c.if-is_at.ensures))
