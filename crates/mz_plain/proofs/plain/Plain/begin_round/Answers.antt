use Rattle.std.proofs.Common.{Err, sym, ap, subst, ◌∙◌}
use Rattle.mz_oracle.specs.Rounds.{with_round}
use Rattle.mz_books.specs.Given.{DidFail, begin_given}
use Rattle.mz_books.specs.Rounds.{open_round, queued}
use Rattle.mz_plain.specs.Stands.{kept}
use Rattle.mz_kept.specs.Standing.{StandsFor}
use Rattle.mz_kept.specs.Steps.{spending}
use Rattle.mz_core.specs.Told.{begin_cause, RefusesEach}
use Rattle.mz_kept_laws.proofs.Beginning.{all_queued, begun_did, none_made, open_did}
use Rattle.mz_kept_laws.proofs.RoundEnds.{numbers_of}
use Rattle.mz_kept_laws.proofs.Spent.{spent_did}
use Rattle.mz_plain.proofs.plain.Plain.begin_round.Goals as goal

-- a round is open
pub returns-in-Some-clause-does : goal.returns-in-Some-clause-does
returns-in-Some-clause-does c = λ log s.
    open_did (kept c.args.self.now) log c.args.now c.in-Some.round s (sym c.open_round.ensures ∙ c.in-Some.is)

-- a time is given
pub returns-in-Ok-clause-does : goal.returns-in-Ok-clause-does
returns-in-Ok-clause-does c = λ log s.
    let k = kept c.args.self.now in
    begun_did k (kept c.take_commands.new.self) log c.args.now c.in-Ok.time c.take_commands.result s
    (none_made _ k.rounds.in_round (sym c.open_round.ensures ∙ c.in_default.is)) (sym c.give.ensures.time ∙ c.in-Ok.is)
    (c.take_commands.ensures.kept ∙ ap (λ oracle. record k { oracle = oracle; rounds = with_round k.rounds }) c.in-Ok.ensures.ok)
    c.take_commands.ensures.begun

-- none is left
pub returns-in-Err-clause-does : goal.returns-in-Err-clause-does
returns-in-Err-clause-does c = λ log s.
    let k = kept c.args.self.now in
    subst (λ fault. DidFail log (begin_given log c.args.now (open_round log)) (begin_cause fault) (StandsFor (kept c.spend.new.self))) (sym c.spend.ensures.fault)
    (spent_did k (kept c.spend.new.self) log c.args.now c.in-Err.spent s (none_made _ k.rounds.in_round (sym c.open_round.ensures ∙ c.in_default.is))
    (sym c.give.ensures.time ∙ c.in-Err.is)
    (c.spend.ensures.kept ∙ ap (λ oracle. spending (numbers_of k.rounds.queued) (record k { oracle = oracle })) c.in-Err.ensures.err))

-- and the commands that waited are told
pub returns-in-Err-clause-refused : goal.returns-in-Err-clause-refused
returns-in-Err-clause-refused c = λ log s.
    let k = kept c.args.self.now in
    subst (λ fault. RefusesEach (queued log) (Err fault)) (sym c.spend.ensures.fault)
    (all_queued k log s (none_made _ k.rounds.in_round (sym c.open_round.ensures ∙ c.in_default.is)))
