-- What a session is answered, where no step finds a cause for a refusal.
use Rattle.std.specs.Prelude.{⊤}
use Rattle.std.proofs.Common.{◌≡◌, ℕ, ◌+◌, ◌<◌, ◌≤◌, ◌&&◌, Bool, true, false, List, [], ◌∷◌, None, Ok, Err, is_some, length, nat_le, nat_lt, refl, ap, ◌∙◌, arith}
use Rattle.std.proofs.lemmas.Bool.{le-ltb, lt-leb, lt-ltb}
use Rattle.mz_time.specs.Frontier.{Le}
use Rattle.mz_time.specs.declared.frontier.Frontier.{Frontier}
use Rattle.mz_time.specs.declared.frontier.Frontier.TheVariants.{At, Done}
use Rattle.mz_time.proofs.FrontierLemmas.{join-least}
use Rattle.std.specs.List.{AllByRecursion as Each}
use Rattle.mz_statement.specs.Kind.{kind_of}
use Rattle.mz_statement.specs.declared.statement.Kind.TheVariants as kind
use Rattle.mz_statement.specs.declared.statement.Statement.{Statement}
use Rattle.mz_grammar.specs.declared.asked.Asked.TheVariants as asks
use Rattle.mz_plan.specs.declared.plan.Plan.{Plan}
use Rattle.mz_print.specs.Print.{print_of}
use Rattle.mz_refusal.specs.declared.refusal.Limited.TheVariants.{Calls}
use Rattle.mz_refusal.specs.declared.refusal.Refusal.{Refusal}
use Rattle.mz_refusal.specs.declared.refusal.Refusal.TheVariants as refusal
use Rattle.mz_resolution.specs.Steps.{Step, ◌>>=◌}
use Rattle.mz_rules.specs.Since.{since_of}
use Rattle.mz_rules.specs.declared.capability.Settled.{Settled}
use Rattle.mz_log.specs.declared.entry.Entry.{Entry}
use Rattle.mz_log.specs.declared.entry.Entry.TheVariants.{Read, Refused}
use Rattle.mz_log.specs.Log.{Log}
use Rattle.mz_books.specs.Rounds.{ddl, read_time}
use Rattle.mz_books.specs.States.{query_plan}
use Rattle.mz_books.specs.Collections.{collections, inputs_of}
use Rattle.mz_books.specs.Since.{settled}
use Rattle.mz_books.specs.Calls.{calls}
use Rattle.mz_books.specs.Sessions.{calls_made}
use Rattle.mz_books.specs.Answer.{accepted, answer, as_of, busy, call_entry, greatest_of, most_calls, no_call, not_before, pick, reading, refused_if, target}
use Rattle.mz_books.specs.Situation.{Situation, situation}
use Rattle.mz_complete_laws.specs.Saying.{IsPlanned, MaySay, read_entry}

-- ---- steps

-- where there is no cause, what is behind goes on
go_past : {B : Type 0} (cause : Bool) (refusal : Refusal) (next : ⊤ → Step B) → cause ≡ false → (refused_if cause refusal >>= next) ≡ next tt
go_past true refusal next e = absurd (cc)
go_past false refusal next e = refl

-- where there is one, the refusal stands
stop_at : {B : Type 0} (cause : Bool) (refusal : Refusal) (next : ⊤ → Step B) → cause ≡ true
    → ◌≡◌ {A = Step B} (refused_if cause refusal >>= next) (Err refusal)
stop_at true refusal next e = refl
stop_at false refusal next e = absurd (cc)

-- a test that fails fails with any other
none_of_both : (b c : Bool) → b ≡ false → (b && c) ≡ false
none_of_both true c e = absurd (cc)
none_of_both false c e = refl

-- ---- sinces

-- a time at or after a frontier isn't too early
pub not_early : (time : ℕ) (f : Frontier) → Le f (At time) → ◌≡◌ {A = Step ⊤} (not_before time f) (Ok tt)
not_early time (At since) h = ap (λ b. refused_if b (refusal.BeforeSince time since)) (le-ltb time since h)
not_early time Done h = absurd h

-- the greatest of some sinces is within a time, if each is
pub greatest_within : (time : ℕ) (ss : List Settled) (numbers : List ℕ) → Each (λ number. Le (since_of number ss) (At time)) numbers
    → Le (greatest_of ss numbers) (At time)
greatest_within time ss [] p = omega arith
greatest_within time ss (number ∷ numbers) p =
    join-least (At time) (since_of number ss) (greatest_of ss numbers) p.0 (greatest_within time ss numbers p.1)

-- ---- a query

-- its read at a time in range
read_there : (s : Situation) (session : ℕ) (statement : Statement) (time : ℕ) (plan : Plan) → as_of statement ≡ None → time ≤ s.read
    → s.ddl ≤ time → query_plan s.scope statement ≡ Ok plan → Le (greatest_of s.settled (inputs_of plan s.collections)) (At time)
    → ◌≡◌ {A = Step Entry} (reading s session statement time)
    (Ok (Read session (s.calls_made + 1) (s.peeks_made + 1) time statement (target plan s.collections)))
read_there s session statement time plan no_time readable settled resolves since =
    go_past (nat_lt s.read time) (refusal.AfterRead time s.read) _ (le-ltb s.read time readable)
    ∙ go_past (is_some (as_of statement) && nat_lt time s.seen) (refusal.BeforeSession time s.seen) _
    (none_of_both (is_some (as_of statement)) (nat_lt time s.seen) (ap is_some no_time))
    ∙ go_past (nat_lt time s.ddl) (refusal.CatalogMoved s.ddl time) _ (le-ltb time s.ddl settled)
    ∙ ap (λ step. step >>= λ own. not_before time (greatest_of s.settled (inputs_of own s.collections)) >>= λ _.
    Ok (Read session (s.calls_made + 1) (s.peeks_made + 1) time statement (target own s.collections))) resolves
    ∙ ap (λ step. step >>= λ _. Ok (Read session (s.calls_made + 1) (s.peeks_made + 1) time statement (target plan s.collections)))
    (not_early time (greatest_of s.settled (inputs_of plan s.collections)) since)

-- and its refusal, where the catalog has moved since the time
moved_there : (s : Situation) (session : ℕ) (statement : Statement) (time : ℕ) → as_of statement ≡ None → time ≤ s.read → time < s.ddl
    → ◌≡◌ {A = Step Entry} (reading s session statement time) (Err (refusal.CatalogMoved s.ddl time))
moved_there s session statement time no_time readable moved =
    go_past (nat_lt s.read time) (refusal.AfterRead time s.read) _ (le-ltb s.read time readable)
    ∙ go_past (is_some (as_of statement) && nat_lt time s.seen) (refusal.BeforeSession time s.seen) _
    (none_of_both (is_some (as_of statement)) (nat_lt time s.seen) (ap is_some no_time))
    ∙ stop_at (nat_lt time s.ddl) (refusal.CatalogMoved s.ddl time) _ (lt-ltb time s.ddl moved)

-- a query is read at the time that is picked for it
query_is : (s : Situation) (session : ℕ) (statement : Statement) → kind_of statement ≡ kind.Query → as_of statement ≡ None
    → accepted s session statement (kind_of statement) ≡ reading s session statement (pick s statement)
query_is s session statement query no_time =
    ap (accepted s session statement) query
    ∙ go_past (is_some s.transaction && is_some (as_of statement)) refusal.InTransaction _ (by (is_some s.transaction) (ap is_some no_time))
  where
    by : (b : Bool) → is_some (as_of statement) ≡ false → (b && is_some (as_of statement)) ≡ false
    by true e = e
    by false e = refl

-- ---- a call

-- a session that may say something makes a call
calls_on : (log : Log) (session : ℕ) → MaySay log session → ◌≡◌ {A = Step ⊤} (no_call (situation log session)) (Ok tt)
calls_on log session may =
    go_past (situation log session).closed refusal.Closed _ may.unclosed
    ∙ ap (λ o. busy o >>= λ _. refused_if (nat_le most_calls (length (calls log))) (refusal.TooMany Calls most_calls)) may.none_waits
    ∙ ap (λ b. refused_if b (refusal.TooMany Calls most_calls)) (lt-leb most_calls (length (calls log)) may.room)

-- its query is answered with its read, at a time in range that its sinces allow
pub read_answered : (log : Log) (session : ℕ) (text : List ℕ) (statement : Statement) (plan : Plan) (time : ℕ) → MaySay log session
    → IsPlanned log session statement plan → pick (situation log session) statement ≡ time → time ≤ read_time log → ddl log ≤ time
    → Le (greatest_of (settled log) (inputs_of plan (collections log))) (At time)
    → ◌≡◌ {A = Step Entry} (answer log session text (asks.Statement statement)) (Ok (read_entry log session statement plan time))
unfolding answer
read_answered log session text statement plan time may is own readable moved since =
    let s = situation log session in
    ap (λ step. step >>= λ _. Ok (call_entry session (s.calls_made + 1) (print_of statement) (accepted s session statement (kind_of statement))))
    (calls_on log session may)
    ∙ ap (λ step. Ok (call_entry session (s.calls_made + 1) (print_of statement) step)) (
    query_is s session statement is.query is.no_time
    ∙ ap (reading s session statement) own
    ∙ read_there s session statement time plan is.no_time readable moved is.resolves since
    )

-- and refused, where the catalog has moved since
pub moved_answered : (log : Log) (session : ℕ) (text : List ℕ) (statement : Statement) (plan : Plan) (time : ℕ) → MaySay log session
    → IsPlanned log session statement plan → pick (situation log session) statement ≡ time → time ≤ read_time log → time < ddl log
    → ◌≡◌ {A = Step Entry} (answer log session text (asks.Statement statement))
    (Ok (Refused session (calls_made log session + 1) (print_of statement) (refusal.CatalogMoved (ddl log) time)))
unfolding answer
moved_answered log session text statement plan time may is own readable moved =
    let s = situation log session in
    ap (λ step. step >>= λ _. Ok (call_entry session (s.calls_made + 1) (print_of statement) (accepted s session statement (kind_of statement))))
    (calls_on log session may)
    ∙ ap (λ step. Ok (call_entry session (s.calls_made + 1) (print_of statement) step)) (
    query_is s session statement is.query is.no_time
    ∙ ap (reading s session statement) own
    ∙ moved_there s session statement time is.no_time readable moved
    )
