use Rattle.std.proofs.Common.{sym, subst, ◌∙◌}
use Rattle.mz_plain.specs.Stands.{kept}
use Rattle.mz_kept.specs.Standing.{StandsFor}
use Rattle.mz_kept_laws.proofs.Applying.{applied_did, shut_did}
use Rattle.mz_kept_laws.proofs.Beginning.{none_made}
use Rattle.mz_plain.proofs.OfLog.{of_log_within}
use Rattle.mz_plain.proofs.RoundCarried.{after_error, carried_within}
use Rattle.mz_plain.proofs.plain.Plain.finish_round.Goals as goal

-- what is kept is within its bounds once the round is carried out
pub apply-requires : goal.apply-requires
apply-requires c =
    carried_within (kept c.args.self.now) (kept c.carry_out_round.new.self) (of_log_within c.args.self.now c.requires) c.in_ok-replies-in-Some.ensures.ok

-- no round is open
pub returns-in-None-clause-given : goal.returns-in-None-clause-given
returns-in-None-clause-given c = λ log s.
    let k = kept c.args.self.now in
    shut_did k log s (none_made _ k.rounds.in_round (sym c.open_round.ensures ∙ c.in-None.is))

-- the round is applied
pub returns-in_ok-replies-in-Some-clause-given : goal.returns-in_ok-replies-in-Some-clause-given
returns-in_ok-replies-in-Some-clause-given c = λ log s.
    applied_did (kept c.args.self.now) (kept c.carry_out_round.new.self) (kept c.apply.new.self) log c.in-Some.round c.in_ok-replies-in-Some.replies.items c.apply.result s
    (sym c.open_round.ensures ∙ c.in-Some.is) c.in_ok-replies-in-Some.ensures.replies c.in_ok-replies-in-Some.ensures.ok
    c.apply.ensures.kept c.apply.ensures.done

-- or all is as before
pub returns-in_err-replies-in-Some-clause-err : goal.returns-in_err-replies-in-Some-clause-err
returns-in_err-replies-in-Some-clause-err c = λ log s.
    after_error c.from_residual.result (subst (λ k. StandsFor k log) (sym c.in_err-replies-in-Some.ensures.err) s)
