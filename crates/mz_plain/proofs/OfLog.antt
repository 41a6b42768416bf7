-- What is kept is of some log: so it is within its bounds, and its state is well.
use Rattle.std.proofs.Common.{ℕ, ◌-◌, ◌<◌, ◌^◌, length, sym, subst, arith}
use Rattle.std.specs.List.{AllByRecursion as Each}
use Rattle.mz_rules.proofs.Each.{each_left, each_right}
use Rattle.mz_oracle.specs.Rounds.{all_items, round_items}
use Rattle.mz_books.specs.Rounds.{read_time}
use Rattle.mz_replay_laws.proofs.WellStates.{states_well}
use Rattle.mz_state_laws.specs.Well.{IsWell}
use Rattle.mz_kept.specs.Kept.{Kept, state_of}
use Rattle.mz_core.specs.Told.{IsNumberOf, IsOfLog}
use Rattle.mz_kept.specs.Steps.{session_at}
use Rattle.mz_kept.specs.Within.{IsWithin}
use Rattle.mz_plain.specs.declared.plain.Plain.{Plain}
use Rattle.mz_plain.specs.Stands.{Stands, kept}

-- within its bounds
pub of_log_within : (plain : Plain) → IsOfLog Stands plain → IsWithin (kept plain)
of_log_within plain o = o.stands.within

-- and well
pub of_log_well : (plain : Plain) → IsOfLog Stands plain → IsWell (state_of (kept plain))
of_log_well plain o = subst IsWell (sym o.stands.state) (states_well o.log o.stands.legal (read_time o.log))

-- ---- sessions that are kept

-- a session has made few calls where all have
pub session_few : (k : Kept) (session : ℕ) → IsWithin k → k.calls < 2 ^ 32 → (session_at k.sessions (session - 1)).calls < 2 ^ 32
session_few k session w few = omega (arith, few, w.each (session - 1))

-- the number of a name is that of a session
pub session_owned : (k : Kept) (session : ℕ) → IsWithin k → IsNumberOf (length k.names) session → IsNumberOf (length k.sessions) session
session_owned k session w number = subst (λ n. IsNumberOf n session) (sym w.paired) number

-- reads are of sessions
pub reads_owned : (k : Kept) → IsWithin k → Each (λ read. IsNumberOf (length k.sessions) read.session) k.reads
reads_owned k w = subst (λ n. Each (λ read. IsNumberOf n read.session) k.reads) (sym w.paired) w.reads

-- so are commands
commands_owned : (k : Kept) → IsWithin k → Each (λ command. IsNumberOf (length k.sessions) command.session) (all_items k.rounds)
commands_owned k w = subst (λ n. Each (λ command. IsNumberOf n command.session) (all_items k.rounds)) (sym w.paired) w.commands

-- those of the open round
pub round_owned : (k : Kept) → IsWithin k → Each (λ command. IsNumberOf (length k.sessions) command.session) (round_items k.rounds)
round_owned k w = each_left _ (round_items k.rounds) k.rounds.queued (commands_owned k w)

-- and those behind it
pub queued_owned : (k : Kept) → IsWithin k → Each (λ command. IsNumberOf (length k.sessions) command.session) k.rounds.queued
queued_owned k w = each_right _ (round_items k.rounds) k.rounds.queued (commands_owned k w)
