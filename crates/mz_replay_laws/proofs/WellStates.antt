-- The states of a legal log are well, at each time.
use Rattle.std.proofs.Common.{ℕ, List, [], ◌∷◌, nat_le}
use Rattle.std.proofs.lemmas.Bool.{cond_both}
use Rattle.std.specs.List.{AllByRecursion as Each}
use Rattle.mz_statement.specs.Statement.{IsStatement}
use Rattle.mz_log.specs.declared.entry.Entry.TheVariants.{Apply}
use Rattle.mz_log.specs.declared.entry.Replied.{Replied}
use Rattle.mz_log.specs.Log.{Log}
use Rattle.mz_books.specs.Clusters.{cluster_of}
use Rattle.mz_log.specs.CarriedOut.{seq}
use Rattle.mz_log.specs.Sequential.{Sequential}
use Rattle.mz_books.specs.States.{after_replies, state_at}
use Rattle.mz_books.specs.Legal.{Legal}
use Rattle.mz_state_laws.specs.Growth.{Continues}
use Rattle.mz_state_laws.specs.Well.{IsWell}
use Rattle.mz_state_laws.proofs.GrowthLaws.{continues_itself, continues_twice, seq_continues}
use Rattle.mz_state_laws.proofs.OpeningWell.{opening_well}
use Rattle.mz_state_laws.proofs.StatementsKeep.{seq_keeps}
use Rattle.mz_replay_laws.proofs.Said.{round_said}

-- one statement leaves a well state
pub statement_well : (state : Sequential) → IsWell state → (cluster : ℕ) (said : _) → IsStatement said → IsWell (seq state cluster said).state
statement_well state well cluster said is =
    let after = seq_keeps well.types state well.over cluster said is in record { types = after.later; over = after.over }

-- so do the commands of a round
pub replies_well : (cluster : ℕ → ℕ) (state : Sequential) (replies : List Replied) → Each (λ replied. IsStatement replied.statement) replies
    → IsWell state → IsWell (after_replies cluster state replies)
replies_well cluster state [] said well = well
replies_well cluster state (replied ∷ replies) said well =
    replies_well cluster (seq state (cluster replied.session) replied.statement).state replies said.1
    (statement_well state well (cluster replied.session) replied.statement said.0)

-- so each state is well
pub states_well : (log : Log) → Legal log → (time : ℕ) → IsWell (state_at log time)
states_well [] l t = opening_well
states_well (Apply time replies ∷ log) l t =
    cond_both (nat_le time t) (after_replies (cluster_of log) (state_at log t) replies) (state_at log t) IsWell
    (λ _. replies_well (cluster_of log) (state_at log t) replies (round_said log time replies l) (states_well log l.0 t))
    (λ _. states_well log l.0 t)
states_well (entry ∷ log) l t = states_well log l.0 t

-- the commands of a round continue the state
pub replies_continue : (cluster : ℕ → ℕ) (state : Sequential) (replies : List Replied) → Continues state (after_replies cluster state replies)
replies_continue cluster state [] = continues_itself state
replies_continue cluster state (replied ∷ replies) =
    continues_twice state _ _ (seq_continues state (cluster replied.session) replied.statement)
    (replies_continue cluster (seq state (cluster replied.session) replied.statement).state replies)
