use Rattle.std.proofs.Common.{arith}
use Rattle.std.proofs.lemmas.Result.{err_from_is_err_and}
use Rattle.mz_parse.proofs.Turns.{turn_first, turn_on, turn_fails, turn_ends, turn_none}
use Rattle.mz_parse.proofs.list.listed.Goals as goal

-- the first was read
pub members-init : goal.members-init
members-init g c = rw (c.in_ok-push.ensures.items, c.new-list.ensures.items) (turn_first c.args.key (g.R.Reader.reads c.args.reader.now) c.args.tokens.now c.in_ok-first.rest.now c.in_ok-first.first c.in_ok-first.ensures)

-- no key stands there
pub returns-in_default : goal.returns-in_default
returns-in_default g c = turn_ends c.args.key (g.R.Reader.reads c.args.reader.now) c.members.list.items _ c.members.counter c.members.rest.now _ (omega arith) c.in_default.ensures c.members.invariant

-- the next one has a fault
pub returns-in_err-member : goal.returns-in_err-member
returns-in_err-member g c =
    let exit = err_from_is_err_and c.from_residual-in_err-member.result c.from_residual-in_err-member.ensures.1 in
    rw (exit.1, exit.2) (turn_fails c.args.key (g.R.Reader.reads c.args.reader.now) c.in_err-member.field-0.0 c.members.list.items _ c.members.counter c.members.rest.now c.in-Some.next.now _ (omega arith) c.in-Some.ensures c.in_err-member.ensures c.members.invariant)

-- one more was read
pub members-preserved : goal.members-preserved
members-preserved g c = rw c.in_ok-push-2.ensures.items (turn_on c.args.key (g.R.Reader.reads c.args.reader.now) c.members.list.items _ c.members.counter c.members.rest.now c.in-Some.next.now c.in_ok-member.behind.now c.in_ok-member.member _ (omega arith) c.in-Some.ensures c.in_ok-member.ensures c.members.invariant)

-- all turns are done
pub returns : goal.returns
returns g c = turn_none c.args.key (g.R.Reader.reads c.args.reader.now) c.members.list.items _ c.members.counter c.members.rest.now _ (omega arith) c.members.invariant
