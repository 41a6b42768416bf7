-- What is known of the entry of a call that was answered.
use Rattle.std.proofs.Common.{◌≡◌, ℕ, ◌+◌, ◌≤◌, ◌&&◌, List, Bool, true, false, Ok, Err, nat_lt, is_some, is_none, refl, ap, subst}
use Rattle.std.proofs.lemmas.Bool.{ltb-false}
use Rattle.std.specs.Prelude.{IfOk}
use Rattle.mz_statement.specs.Kind.{kind_of}
use Rattle.mz_statement.specs.declared.statement.Kind.{Kind}
use Rattle.mz_statement.specs.declared.statement.Kind.TheVariants as kind
use Rattle.mz_statement.specs.declared.statement.Statement.{Statement}
use Rattle.mz_grammar.specs.declared.asked.Asked.{Asked}
use Rattle.mz_grammar.specs.declared.asked.Asked.TheVariants as asks
use Rattle.mz_plan.specs.declared.plan.Plan.{Plan}
use Rattle.mz_refusal.specs.declared.refusal.Refusal.{Refusal}
use Rattle.mz_resolution.specs.Steps.{Step, ◌>>=◌}
use Rattle.mz_resolve_laws.proofs.StepTools.{any_then_ok}
use Rattle.mz_log.specs.declared.entry.Entry.{Entry}
use Rattle.mz_log.specs.declared.entry.Entry.TheVariants.{Queue, Read, Instant}
use Rattle.mz_log.specs.Log.{Log}
use Rattle.mz_books.specs.States.{query_plan}
use Rattle.mz_state_laws.specs.Kinds.{is_read}
use Rattle.mz_books.specs.Collections.{inputs_of}
use Rattle.mz_books.specs.Answer.{accepted, accepted_text, answer, answer_in, call_entry, form_of, greatest_of, held_item, known_cluster, no_call, not_before, outside, pick, reading, refused_if, retained_name, target, as_of}
use Rattle.mz_books.specs.Situation.{Situation, situation}

-- a read in a situation: it is a query with a plan, at a time from the last CREATE or DROP on and up to the read time, and under the next
-- number of a peek it reads what the plan says
pub record IsReadIn (s : Situation) (peek time : ℕ) (statement : Statement) (collection : ℕ) : Type 0 where
  pub query : kind_of statement ≡ kind.Query
  pub plan : Plan
  pub resolved : query_plan s.scope statement ≡ Ok plan
  pub readable : time ≤ s.read
  pub settled : s.ddl ≤ time
  pub next_peek : peek ≡ s.peeks_made + 1
  pub reads : collection ≡ target plan s.collections

-- the entry is of what was asked for
abbrev pub IsOf : Situation → Asked → Entry → Type 0
IsOf s asked (Queue session call statement) = (asked ≡ asks.Statement statement) × (is_read (kind_of statement) ≡ false)
IsOf s asked (Read session call peek time statement collection) = (asked ≡ asks.Statement statement) × IsReadIn s peek time statement collection
IsOf s asked (Instant session call statement time) = (asked ≡ asks.Statement statement) × (is_read (kind_of statement) ≡ false)
IsOf s asked entry = Unit {0}

-- what holds of a step holds of what it gives
pub of_ok : {A : Type 0} (step : Step A) (x : A) (P : A → Type 0) → step ≡ Ok x → IfOk step P → P x
of_ok step x P is h = subst (λ s. IfOk s P) is h

-- a step behind one that is refused for a cause
behind : {B : Type 0} (cause : Bool) (refusal : Refusal) (next : Step B) (Q : B → Type 0) → (cause ≡ false → IfOk next Q)
    → IfOk (refused_if cause refusal >>= λ _. next) Q
behind true refusal next Q h = tt
behind false refusal next Q h = h refl

-- a number that isn't below another
not_below : (m n : ℕ) → nat_lt m n ≡ false → n ≤ m
not_below m n e = ltb-false m n e

-- a read
reading_of : (s : Situation) (session : ℕ) (said : Statement) (time : ℕ) → kind_of said ≡ kind.Query
    → IfOk (reading s session said time) (IsOf s (asks.Statement said))
reading_of s session said time query =
    behind (nat_lt s.read time) _ _ (IsOf s (asks.Statement said)) (λ readable.
    behind (is_some (as_of said) && nat_lt time s.seen) _ _ (IsOf s (asks.Statement said)) (λ fresh.
    behind (nat_lt time s.ddl) _ _ (IsOf s (asks.Statement said)) (λ settled.
    any_then_ok (query_plan s.scope said) _ (IsOf s (asks.Statement said)) (λ plan resolved.
    any_then_ok (not_before time (greatest_of s.settled (inputs_of plan s.collections))) _ (IsOf s (asks.Statement said)) (λ _ kept. (
      refl,
      record {
        query = query;
        plan = plan;
        resolved = resolved;
        readable = not_below s.read time readable;
        settled = not_below time s.ddl settled;
        next_peek = refl;
        reads = refl;
      },
    ))))))

-- a statement
accepted_of : (s : Situation) (session : ℕ) (said : Statement) (k : Kind) → kind_of said ≡ k
    → IfOk (accepted s session said k) (IsOf s (asks.Statement said))
accepted_of s session said kind.Command is = any_then_ok (outside s) _ (IsOf s (asks.Statement said)) (λ _ e. (refl, ap is_read is))
accepted_of s session said kind.Query is =
    behind (is_some s.transaction && is_some (as_of said)) _ _ (IsOf s (asks.Statement said)) (λ _. reading_of s session said (pick s said) is)
accepted_of s session said kind.Start is = any_then_ok (outside s) _ (IsOf s (asks.Statement said)) (λ _ e. (refl, ap is_read is))
accepted_of s session said kind.Commit is =
    behind (is_none s.transaction) _ _ (IsOf s (asks.Statement said)) (λ _. (refl, ap is_read is))
accepted_of s session said kind.Retain is =
    any_then_ok (outside s) _ (IsOf s (asks.Statement said)) (λ _ e.
    any_then_ok (held_item s.scope.items (retained_name said)) _ (IsOf s (asks.Statement said)) (λ _ f. (refl, ap is_read is)))
accepted_of s session said kind.ShowFrontiers is = (refl, ap is_read is)
accepted_of s session said kind.Set is =
    any_then_ok (outside s) _ (IsOf s (asks.Statement said)) (λ _ e.
    any_then_ok (known_cluster s.clusters said) _ (IsOf s (asks.Statement said)) (λ _ f. (refl, ap is_read is)))

-- a text
text_of : (s : Situation) (session : ℕ) (asked : Asked) → IfOk (accepted_text s session asked) (IsOf s asked)
text_of s session (asks.Statement said) = accepted_of s session said (kind_of said) refl
text_of s session (asks.Syntax at) = tt
text_of s session (asks.LiteralRange at) = tt

-- a call
entry_of : (s : Situation) (session call : ℕ) (text : List ℕ) (asked : Asked) (step : Step Entry) → IfOk step (IsOf s asked)
    → IsOf s asked (call_entry session call text step)
entry_of s session call text asked (Ok entry) h = h
entry_of s session call text asked (Err refusal) h = tt

-- the entry that a session is answered is of what it asked for
pub answered_of : (log : Log) (session : ℕ) (text : List ℕ) (asked : Asked) (entry : Entry) → answer log session text asked ≡ Ok entry
    → IsOf (situation log session) asked entry
unfolding answer
answered_of log session text asked entry is =
    of_ok (answer_in (situation log session) session text asked) entry (IsOf (situation log session) asked) is
    (any_then_ok (no_call (situation log session)) _ (IsOf (situation log session) asked) (λ _ e.
    entry_of (situation log session) session _ (form_of text asked) asked (accepted_text (situation log session) session asked)
    (text_of (situation log session) session asked)))
