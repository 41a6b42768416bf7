use Rattle.std.proofs.Common.{◌-◌, arith}
use Rattle.mz_rules.specs.Moves.{let_go as let_go_of}
use Rattle.mz_collections.proofs.Under.{changed_place}
use Rattle.mz_collections.proofs.places.let_go_at.Goals as goal

-- no other has the number
pub returns : goal.returns
returns c =
    changed_place 1 (c.args.number - 1) c.args.number let_go_of c.args.all.now.items c.index_mut.result.now c.let_go.new.this c.requires.numbered
    (omega (arith, c.requires.made.low)) (omega (arith, c.requires.made.low, c.requires.made.high)) c.index_mut.ensures.value c.let_go.ensures
