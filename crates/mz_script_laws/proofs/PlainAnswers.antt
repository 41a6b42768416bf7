-- What is answered in a plain log: a command is queued, and a query is read at the read time where it resolves.
use Rattle.std.specs.Prelude.{⊤, unwrap_or}
use Rattle.std.proofs.Common.{◌≡◌, ℕ, ◌+◌, ◌≤◌, ◌&&◌, Bool, true, false, List, [], ◌∷◌, None, Ok, Err, length, nat_le, nat_lt, is_some, refl, sym, ap, ◌∙◌, arith}
use Rattle.std.specs.List.{AllByRecursion as Each}
use Rattle.std.proofs.lemmas.Bool.{and_left, false≢true, false_from_ne_true, ltb-true}
use Rattle.mz_time.specs.Frontier.{Le}
use Rattle.mz_time.specs.declared.frontier.Frontier.{Frontier}
use Rattle.mz_time.specs.declared.frontier.Frontier.TheVariants.{At, Done}
use Rattle.mz_time.proofs.FrontierLemmas.{join-least}
use Rattle.mz_plan.specs.Leaves.{leaves_of}
use Rattle.mz_plan.specs.declared.plan.Plan.{Plan}
use Rattle.mz_refusal.specs.declared.refusal.Limited.TheVariants.{Calls}
use Rattle.mz_refusal.specs.declared.refusal.Refusal.{Refusal}
use Rattle.mz_refusal.specs.declared.refusal.Refusal.TheVariants as refusal
use Rattle.mz_resolution.specs.Steps.{Step, ◌>>=◌}
use Rattle.mz_rules.specs.Since.{since_of}
use Rattle.mz_rules.specs.declared.capability.Settled.{Settled}
use Rattle.mz_statement.specs.declared.statement.Kind.TheVariants as kind
use Rattle.mz_statement.specs.declared.statement.Statement.{Statement}
use Rattle.mz_grammar.specs.declared.asked.Asked.{Asked}
use Rattle.mz_log.specs.declared.entry.Entry.TheVariants.{Queue}
use Rattle.mz_log.specs.Log.{Log}
use Rattle.mz_books.specs.Answer.{accepted, accepted_text, answer, as_of, busy, call_entry, form_of, greatest_of, most_calls, not_before, pick, reading, refused_if}
use Rattle.mz_books.specs.Calls.{calls}
use Rattle.mz_books.specs.Collections.{collections, inputs_of}
use Rattle.mz_books.specs.Holds.{transaction}
use Rattle.mz_books.specs.Legal.{Legal}
use Rattle.mz_books.specs.Rounds.{ddl, read_time}
use Rattle.mz_books.specs.Sessions.{calls_made, outstanding, seen}
use Rattle.mz_books.specs.Since.{kept, settled, since}
use Rattle.mz_books.specs.Situation.{situation}
use Rattle.mz_books.specs.States.{query_plan, scope_of}
use Rattle.mz_safe_laws.proofs.Building.{each_input, present_before}
use Rattle.mz_safe_laws.proofs.Sound.{sound}
use Rattle.mz_script_laws.specs.Plain.{IsPlainLog, plain_answer, plain_read, read_entry}
use Rattle.mz_script_laws.proofs.PlainLogs.{ddl_read, no_transaction, none_closed}

-- ---- steps

-- a step without a cause leads to the next
pub goes_on : {A : Type 0} (cause : Bool) (refusal : Refusal) (next : ⊤ → Step A) → cause ≡ false
    → (refused_if cause refusal >>= next) ≡ next tt
goes_on true refusal next e = absurd (false≢true (sym e))
goes_on false refusal next e = refl

-- steps in a row
nested : {A B C : Type 0} (first : Step A) (next : A → Step B) (last : B → Step C)
    → ((first >>= next) >>= last) ≡ (first >>= λ x. next x >>= last)
nested (Ok x) next last = refl
nested (Err refusal) next last = refl

-- a number isn't below one that isn't after it
pub not_below : (a b : ℕ) → b ≤ a → nat_lt a b ≡ false
not_below a b h = false_from_ne_true (nat_lt a b) (λ e. let less = ltb-true a b e in omega (arith, less, h))

-- ---- sinces

-- the greatest of sinces is no later than what none of them is past
greatest_before : (ss : List Settled) (time : ℕ) (numbers : List ℕ) → Each (λ n. Le (since_of n ss) (At time)) numbers
    → Le (greatest_of ss numbers) (At time)
greatest_before ss time [] p = omega arith
greatest_before ss time (number ∷ numbers) p =
    join-least (At time) (since_of number ss) (greatest_of ss numbers) p.0 (greatest_before ss time numbers p.1)

-- what is no later than a time isn't past it
not_early : (time : ℕ) (f : Frontier) → Le f (At time) → not_before time f ≡ Ok tt
not_early time (At since) h = ap (λ b. refused_if b (refusal.BeforeSince time since)) (not_below time since h)
not_early time Done h = absurd h

-- at the read time all that a plan reads is readable
pub inputs_readable : (log : Log) (plan : Plan) → Legal log
    → not_before (read_time log) (greatest_of (settled log) (inputs_of plan (collections log))) ≡ Ok tt
inputs_readable log plan l =
    let now = read_time log in
    not_early now (greatest_of (settled log) (inputs_of plan (collections log)))
    (greatest_before (settled log) now (inputs_of plan (collections log))
    (each_input (λ n. Le (since log n) (At now)) (leaves_of plan) (collections log)
    (present_before (At 0) now now (collections log) (kept log) (omega arith) (sound log l).core)))

-- ---- reads

-- a query that names no time, in a session that is in no transaction, is read at the read time
pub picks_now : (log : Log) (session : ℕ) (statement : Statement) → transaction log session ≡ None → as_of statement ≡ None
    → pick (situation log session) statement ≡ read_time log
picks_now log session statement none own =
    ap (λ inside. unwrap_or inside (unwrap_or (as_of statement) (read_time log))) none ∙ ap (λ named. unwrap_or named (read_time log)) own

-- it meets no refusal but one of its own
pub reads_now : (log : Log) (session : ℕ) (statement : Statement) → Legal log → as_of statement ≡ None
    → reading (situation log session) session statement (read_time log)
    ≡ plain_read log session statement
reads_now log session statement l own =
    let now = read_time log in
    goes_on (nat_lt now now) (refusal.AfterRead now now) _ (not_below now now (omega arith))
    ∙ (goes_on (is_some (as_of statement) && nat_lt now (seen log session)) (refusal.BeforeSession now (seen log session)) _
    (and_left (is_some (as_of statement)) (nat_lt now (seen log session)) (ap is_some own))
    ∙ (goes_on (nat_lt now (ddl log)) (refusal.CatalogMoved (ddl log) now) _ (not_below now (ddl log) (ddl_read log l))
    ∙ ap (λ next. query_plan (scope_of log session) statement >>= next)
    (λ i plan. ap (λ step. step >>= λ _. Ok (read_entry log session statement plan)) (inputs_readable log plan l) i)))

-- ---- statements

-- in a plain log a command is queued
pub commands_queued : (log : Log) (session : ℕ) (statement : Statement) → IsPlainLog log
    → accepted (situation log session) session statement kind.Command ≡ Ok (Queue session (calls_made log session + 1) statement)
commands_queued log session statement p =
    goes_on (is_some (transaction log session)) refusal.InTransaction _ (ap is_some (no_transaction log p session))

-- and a query that names no time is read at the read time, unless it doesn't resolve
pub queries_read : (log : Log) (session : ℕ) (statement : Statement) → Legal log → IsPlainLog log → as_of statement ≡ None
    → accepted (situation log session) session statement kind.Query
    ≡ plain_read log session statement
queries_read log session statement l p own =
    goes_on (is_some (transaction log session) && is_some (as_of statement)) refusal.InTransaction _
    (and_left (is_some (transaction log session)) (is_some (as_of statement)) (ap is_some (no_transaction log p session)))
    ∙ (ap (λ time. reading (situation log session) session statement time) (picks_now log session statement (no_transaction log p session) own)
    ∙ reads_now log session statement l own)

-- ---- answers

-- in a plain log a session makes a call, unless it waits or there are as many calls as there may be
pub answers_plainly : (log : Log) (session : ℕ) (text : List ℕ) (asked : Asked) → IsPlainLog log
    → answer log session text asked ≡ plain_answer log session text asked
unfolding answer
answers_plainly log session text asked p =
    ap (λ closed. (refused_if closed refusal.Closed >>= λ _. busy (outstanding log session)
    >>= λ _. refused_if (nat_le most_calls (length (calls log))) (refusal.TooMany Calls most_calls))
    >>= λ _. Ok (call_entry session (calls_made log session + 1) (form_of text asked) (accepted_text (situation log session) session asked)))
    (none_closed log p session)
    ∙ nested (busy (outstanding log session)) (λ _. refused_if (nat_le most_calls (length (calls log))) (refusal.TooMany Calls most_calls)) _
