-- A piece without LF waits; of another one, what it completes is answered, and what is behind it waits.
use Rattle.std.proofs.Common.{ap}
use Rattle.mz_shell.proofs.TakeLemmas.{completed_is, few_add, few_none, few_some, front_some, left_is, on_ok, some_at}
use Rattle.mz_shell.proofs.script.Script.take.Goals as goal

pub returns-then-is_empty-clause-few : goal.returns-then-is_empty-clause-few
returns-then-is_empty-clause-few g c =
    on_ok c.wait.result c.wait.ensures.ok
    (λ waits. few_none _ _ c.args.self.now.waiting.items c.wait.new.self.waiting.items c.args.piece.now (ap g.C.Carrier.lines c.wait.ensures.carrier) waits)

pub answer-requires-clause-machine : goal.answer-requires-clause-machine
answer-requires-clause-machine g c = rw c.add.ensures.carrier c.requires.machine

pub answer-requires-clause-few : goal.answer-requires-clause-few
answer-requires-clause-few g c =
    few_add _ _ c.args.self.now.waiting.items c.split_whole.result.0.now c.add.new.self.waiting.items c.args.piece.now
    (ap g.C.Carrier.lines c.add.ensures.carrier) c.in_ok-add.ensures.ok c.split_whole.ensures.whole c.requires.few

pub returns-in_err-answer-clause-front : goal.returns-in_err-answer-clause-front
returns-in_err-answer-clause-front g c = λ machine stands.
    front_some _ _ machine c.args.self.now.waiting.items c.args.piece.now c.add.new.self.waiting.items
    (completed_is c.args.self.now.waiting.items c.args.piece.now c.split_whole.result.0.now c.add.new.self.waiting.items c.split_whole.ensures.whole
    (some_at c.split_whole.result.0.now c.is_empty.result c.is_empty.ensures c.if-is_empty.false) c.in_ok-add.ensures.ok)
    (c.in_err-answer.ensures.front machine (rw c.add.ensures.carrier stands))

pub returns-clause-front : goal.returns-clause-front
returns-clause-front g c = λ machine stands.
    front_some _ _ machine c.args.self.now.waiting.items c.args.piece.now c.add.new.self.waiting.items
    (completed_is c.args.self.now.waiting.items c.args.piece.now c.split_whole.result.0.now c.add.new.self.waiting.items c.split_whole.ensures.whole
    (some_at c.split_whole.result.0.now c.is_empty.result c.is_empty.ensures c.if-is_empty.false) c.in_ok-add.ensures.ok)
    (c.in_ok-answer.ensures.front machine (rw c.add.ensures.carrier stands))

pub returns-clause-few : goal.returns-clause-few
returns-clause-few g c =
    on_ok c.wait-2.result c.wait-2.ensures.ok
    (λ waits. few_some _ _ _ _ c.args.self.now.waiting.items c.split_whole.result.0.now c.add.new.self.waiting.items c.answer.new.self.waiting.items
    c.split_whole.result.1.now c.wait-2.new.self.waiting.items c.args.piece.now (ap g.C.Carrier.lines c.add.ensures.carrier) c.in_ok-add.ensures.ok
    c.split_whole.ensures.whole c.in_ok-answer.ensures.few c.in_ok-answer.ensures.waiting (ap g.C.Carrier.lines c.wait-2.ensures.carrier)
    c.split_whole.ensures.behind waits)

pub returns-clause-waiting : goal.returns-clause-waiting
returns-clause-waiting g c =
    on_ok c.wait-2.result c.wait-2.ensures.ok
    (λ waits. left_is c.args.self.now.waiting.items c.args.piece.now c.split_whole.result.0.now c.answer.new.self.waiting.items c.split_whole.result.1.now
    c.wait-2.new.self.waiting.items c.split_whole.ensures.whole (some_at c.split_whole.result.0.now c.is_empty.result c.is_empty.ensures c.if-is_empty.false)
    c.in_ok-answer.ensures.waiting c.split_whole.ensures.behind waits)
