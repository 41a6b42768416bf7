-- Each command that waits is one that a text can spell.
use Rattle.std.proofs.Common.{ℕ, List, [], ◌∷◌, Option, None, Some, sym, subst}
use Rattle.std.specs.List.{AllByRecursion as Each}
use Rattle.mz_statement.specs.Statement.{IsStatement}
use Rattle.mz_statement.specs.declared.statement.Statement.{Statement}
use Rattle.mz_grammar.specs.Asked.{IsAsked}
use Rattle.mz_grammar.proofs.Fits.{text_fits}
use Rattle.mz_plan_laws.proofs.TypedValues.{each_append, each_kept}
use Rattle.mz_log.specs.declared.entry.Entry.TheVariants.{Queue, Begin, Apply, Refused, Cancel}
use Rattle.mz_log.specs.declared.entry.Replied.{Replied}
use Rattle.mz_log.specs.Log.{Log}
use Rattle.mz_books.specs.Entries.{Queued}
use Rattle.mz_books.specs.Rounds.{Round, open_round, queued}
use Rattle.mz_log.specs.Sequential.{Sequential}
use Rattle.mz_books.specs.States.{newest_state, replies_to}
use Rattle.mz_books.specs.Clusters.{cluster_of}
use Rattle.mz_log.specs.CarriedOut.{seq}
use Rattle.mz_books.specs.Legal.{Legal, MayCall}
use Rattle.mz_replay_laws.proofs.Accepted.{answered_of}

-- each of the commands can be said
abbrev pub AreSaid : List Queued → Type 0
AreSaid commands = Each (λ command. IsStatement command.statement) commands

-- so can those of a round
abbrev pub AreSaidIn : Option Round → Type 0
AreSaidIn None = Unit {0}
AreSaidIn (Some round) = AreSaid round.commands

-- those that wait and those of the open round
pub record AllSaid (log : Log) : Type 0 where
  pub waiting : AreSaid (queued log)
  pub in_round : AreSaidIn (open_round log)

-- a command that was queued can be said
queued_said : (log : Log) (session call : ℕ) (statement : Statement) → MayCall log session (Queue session call statement) → IsStatement statement
queued_said log session call statement may =
    text_fits may.text statement
    (subst (IsAsked may.text) (answered_of log session may.text may.asked (Queue session call statement) may.answered).0 may.asks)

-- so it is in a legal log
pub all_said : (log : Log) → Legal log → AllSaid log
all_said [] l = record { waiting = tt; in_round = tt }
all_said (Queue session call statement ∷ log) l =
    let k = all_said log l.0 in
    record {
      waiting = each_append _ (queued log) _ k.waiting (queued_said log session call statement l.1.may, tt);
      in_round = k.in_round;
    }
all_said (Begin number time ∷ log) l = let k = all_said log l.0 in record { waiting = k.waiting; in_round = k.waiting }
all_said (Apply time replies ∷ log) l =
    let k = all_said log l.0 in record { waiting = each_kept _ _ (queued log) k.waiting; in_round = tt }
all_said (Refused session call text refusal ∷ log) l =
    let k = all_said log l.0 in record { waiting = each_kept _ _ (queued log) k.waiting; in_round = k.in_round }
all_said (Cancel session call ∷ log) l =
    let k = all_said log l.0 in record { waiting = each_kept _ _ (queued log) k.waiting; in_round = k.in_round }
all_said (entry ∷ log) l = let k = all_said log l.0 in record { waiting = k.waiting; in_round = k.in_round }

-- what is replied to commands that can be said
replies_said : (cluster : ℕ → ℕ) (state : Sequential) (commands : List Queued) → AreSaid commands
    → Each (λ replied. IsStatement replied.statement) (replies_to cluster state commands)
replies_said cluster state [] h = tt
replies_said cluster state (command ∷ commands) h =
    (h.0, replies_said cluster (seq state (cluster command.session) command.statement).state commands h.1)

-- the commands of a round that is applied
pub round_said : (log : Log) (time : ℕ) (replies : List Replied) → Legal (Apply time replies ∷ log)
    → Each (λ replied. IsStatement replied.statement) replies
round_said log time replies l =
    let may = l.1.may in
    let said : AreSaid may.round.commands = subst AreSaidIn may.is_open (all_said log l.0).in_round in
    subst (Each (λ replied. IsStatement replied.statement)) (sym may.own_replies)
    (replies_said (cluster_of log) (newest_state log) may.round.commands said)
