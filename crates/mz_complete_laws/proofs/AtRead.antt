-- A query outside a transaction that names no time and resolves is read at the read time.
use Rattle.std.proofs.Common.{◌≡◌, ℕ, ◌≤◌, List, [], ◌∷◌, None, Ok, ap, ap₂, arith}
use Rattle.std.specs.Prelude.{unwrap_or}
use Rattle.std.specs.List.{list_any}
use Rattle.std.proofs.lemmas.Bool.{cond_both}
use Rattle.mz_time.specs.Frontier.{Le}
use Rattle.mz_time.specs.declared.frontier.Frontier.TheVariants.{At}
use Rattle.mz_statement.specs.declared.statement.Statement.{Statement}
use Rattle.mz_grammar.specs.declared.asked.Asked.TheVariants as asks
use Rattle.mz_plan.specs.Leaves.{leaves_of}
use Rattle.mz_plan.specs.declared.plan.Plan.{Plan}
use Rattle.mz_resolution.specs.Steps.{Step}
use Rattle.mz_log.specs.declared.entry.Entry.{Entry}
use Rattle.mz_log.specs.declared.entry.Entry.TheVariants.{Apply}
use Rattle.mz_log.specs.Log.{Log}
use Rattle.mz_books.specs.Rounds.{ddl, moves_items, read_time}
use Rattle.mz_books.specs.Collections.{collections, inputs_of}
use Rattle.mz_books.specs.Holds.{transaction}
use Rattle.mz_books.specs.Since.{kept, settled, since}
use Rattle.mz_books.specs.Answer.{answer, greatest_of}
use Rattle.mz_books.specs.Legal.{Legal}
use Rattle.mz_call_laws.proofs.Times.{round_later}
use Rattle.mz_safe_laws.proofs.Building.{each_input, present_before}
use Rattle.mz_safe_laws.proofs.Sound.{sound}
use Rattle.mz_complete_laws.specs.Saying.{IsPlanned, MaySay, read_entry}
use Rattle.mz_complete_laws.proofs.Past.{greatest_within, read_answered}

-- the last CREATE or DROP is no later than the read time
pub ddl_readable : (log : Log) → Legal log → ddl log ≤ read_time log
ddl_readable [] l = omega arith
ddl_readable (Apply time replies ∷ log) l =
    let before = ddl_readable log l.0 in
    let later = round_later log time replies l in
    cond_both (list_any (λ replied. moves_items replied.reply) replies) time (ddl log) (λ n. n ≤ time) (λ _. omega arith) (λ _. omega arith)
ddl_readable (entry ∷ log) l = ddl_readable log l.0

-- all that a plan reads is readable at the read time
pub inputs_readable : (log : Log) → Legal log → (plan : Plan) → Le (greatest_of (settled log) (inputs_of plan (collections log))) (At (read_time log))
inputs_readable log l plan =
    greatest_within (read_time log) (settled log) (inputs_of plan (collections log))
    (each_input (λ number. Le (since log number) (At (read_time log))) (leaves_of plan) (collections log)
    (present_before (At 0) (read_time log) (read_time log) (collections log) (kept log) (omega arith) (sound log l).core))

-- so a query is read
pub queries_read : (log : Log) (session : ℕ) (text : List ℕ) (statement : Statement) (plan : Plan) → Legal log → MaySay log session
    → transaction log session ≡ None → IsPlanned log session statement plan
    → ◌≡◌ {A = Step Entry} (answer log session text (asks.Statement statement)) (Ok (read_entry log session statement plan (read_time log)))
queries_read log session text statement plan l may outside is =
    read_answered log session text statement plan (read_time log) may is
    (ap₂ (λ inside named. unwrap_or inside (unwrap_or named (read_time log))) outside is.no_time) (omega arith) (ddl_readable log l)
    (inputs_readable log l plan)
