use Rattle.std.proofs.Common.{◌≡◌, rules, subst}
use Rattle.mz_maintained.specs.Maintained.{IsChange, Kept}
use Rattle.mz_maintained.specs.Tables.{told_of}
use Rattle.mz_maintained.proofs.maintained.Maintained.change.Goals as goal

-- it is sound where no change failed
pub carry-requires-clause-sound : goal.carry-requires-clause-sound
carry-requires-clause-sound c = c.self.invariant (search rules)

-- and it goes on to be
pub invariant_of-self-2 : goal.invariant_of-self-2
invariant_of-self-2 c = λ whole. c.in_ok-carry.ensures.sound

-- the change is one of what there was
pub returns : goal.returns
returns c =
    let s = c.self.inside in
    let is : (record { flow = s.dataflow; tables = s.tables.entries }) ≡ c.args.self.now = c.self.view_is in
    record {
      change = subst (λ (k : Kept). IsChange c.args.time (told_of c.args.changes.now) k (record { flow = c.carry.new.dataflow; tables = c.carry.new.tables.entries })) is c.in_ok-carry.ensures.change;
    }
