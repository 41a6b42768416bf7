use Rattle.std.proofs.Common.{arith}
use Rattle.std.proofs.lemmas.Result.{err_from_is_err_and}
use Rattle.mz_grammar.specs.declared.key.Key.TheVariants as k
use Rattle.mz_parse.specs.Reading.{atom_at, conjunction_at}
use Rattle.mz_parse.proofs.Turns.{turn_first, turn_on, turn_fails, turn_ends, turn_none}
use Rattle.mz_parse.proofs.condition.+condition.Goals as goal

-- the first was read
pub atoms-members-init : goal.atoms-members-init
atoms-members-init t c = rw (c.in_ok-push.ensures.items, c.new-list.ensures.items) (turn_first k.And (atom_at c.args.depth) c.args.tokens.now c.in_ok-first.rest.now c.in_ok-first.first c.in_ok-first.ensures)

-- no key stands there
pub atoms-returns-in_default : goal.atoms-returns-in_default
atoms-returns-in_default t c = turn_ends k.And (atom_at c.args.depth) c.members.list.items _ c.members.counter c.members.rest.now _ (omega arith) c.in_default.ensures c.members.invariant

-- the next one has a fault
pub atoms-returns-in_err-member : goal.atoms-returns-in_err-member
atoms-returns-in_err-member t c =
    let exit = err_from_is_err_and c.from_residual-in_err-member.result c.from_residual-in_err-member.ensures.1 in
    rw (exit.1, exit.2) (turn_fails k.And (atom_at c.args.depth) c.in_err-member.field-0.0 c.members.list.items _ c.members.counter c.members.rest.now c.in-Some.next.now _ (omega arith) c.in-Some.ensures c.in_err-member.ensures c.members.invariant)

-- one more was read
pub atoms-members-preserved : goal.atoms-members-preserved
atoms-members-preserved t c = rw c.in_ok-push-2.ensures.items (turn_on k.And (atom_at c.args.depth) c.members.list.items _ c.members.counter c.members.rest.now c.in-Some.next.now c.in_ok-member.behind.now c.in_ok-member.member _ (omega arith) c.in-Some.ensures c.in_ok-member.ensures c.members.invariant)

-- all turns are done
pub atoms-returns : goal.atoms-returns
atoms-returns t c = turn_none k.And (atom_at c.args.depth) c.members.list.items _ c.members.counter c.members.rest.now _ (omega arith) c.members.invariant

-- the first was read
pub conjunctions-members-init : goal.conjunctions-members-init
conjunctions-members-init t c = rw (c.in_ok-push.ensures.items, c.new-list.ensures.items) (turn_first k.Or (conjunction_at (atom_at c.args.depth)) c.args.tokens.now c.in_ok-first.rest.now c.in_ok-first.first c.in_ok-first.ensures)

-- no key stands there
pub conjunctions-returns-in_default : goal.conjunctions-returns-in_default
conjunctions-returns-in_default t c = turn_ends k.Or (conjunction_at (atom_at c.args.depth)) c.members.list.items _ c.members.counter c.members.rest.now _ (omega arith) c.in_default.ensures c.members.invariant

-- the next one has a fault
pub conjunctions-returns-in_err-member : goal.conjunctions-returns-in_err-member
conjunctions-returns-in_err-member t c =
    let exit = err_from_is_err_and c.from_residual-in_err-member.result c.from_residual-in_err-member.ensures.1 in
    rw (exit.1, exit.2) (turn_fails k.Or (conjunction_at (atom_at c.args.depth)) c.in_err-member.field-0.0 c.members.list.items _ c.members.counter c.members.rest.now c.in-Some.next.now _ (omega arith) c.in-Some.ensures c.in_err-member.ensures c.members.invariant)

-- one more was read
pub conjunctions-members-preserved : goal.conjunctions-members-preserved
conjunctions-members-preserved t c = rw c.in_ok-push-2.ensures.items (turn_on k.Or (conjunction_at (atom_at c.args.depth)) c.members.list.items _ c.members.counter c.members.rest.now c.in-Some.next.now c.in_ok-member.behind.now c.in_ok-member.member _ (omega arith) c.in-Some.ensures c.in_ok-member.ensures c.members.invariant)

-- all turns are done
pub conjunctions-returns : goal.conjunctions-returns
conjunctions-returns t c = turn_none k.Or (conjunction_at (atom_at c.args.depth)) c.members.list.items _ c.members.counter c.members.rest.now _ (omega arith) c.members.invariant
