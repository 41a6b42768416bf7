-- What the entry of a call says: its number, and that its session had none that waits.
use Rattle.std.proofs.Common.{◌≡◌, ℕ, ◌+◌, List, false, Option, None, Some, Ok, Err, ◌&&◌, is_some, is_none, refl, sym, ap, ◌∙◌, subst, inl}
use Rattle.mz_refusal.specs.declared.refusal.Refusal.{Refusal}
use Rattle.mz_refusal.specs.declared.refusal.Refusal.TheVariants as refusal
use Rattle.mz_grammar.specs.Asked.{IsAsked}
use Rattle.mz_grammar.specs.Grammar.{IsSpelling}
use Rattle.mz_grammar.specs.declared.asked.Asked.{Asked}
use Rattle.mz_grammar.specs.declared.asked.Asked.TheVariants as asks
use Rattle.mz_resolution.specs.Steps.{Step}
use Rattle.mz_statement.specs.Kind.{kind_of}
use Rattle.mz_statement.specs.declared.statement.Kind.{Kind}
use Rattle.mz_statement.specs.declared.statement.Kind.TheVariants as kind
use Rattle.mz_statement.specs.declared.statement.Statement.{Statement}
use Rattle.mz_log.specs.declared.entry.Entry.{Entry}
use Rattle.mz_log.specs.declared.entry.Entry.TheVariants.{Queue, Read, Refused, Instant}
use Rattle.mz_log.specs.Log.{Log}
use Rattle.mz_books.specs.Sessions.{IsOpened, calls_made, outstanding}
use Rattle.mz_books.specs.Answer.{accepted, accepted_text, answer, answer_in, as_of, at_once, call_entry, form_of, held_item, known_cluster, no_call, outside, pick, refused_if, retained_name}
use Rattle.mz_books.specs.Situation.{Situation, situation}
use Rattle.mz_books.specs.Legal.{MayCall, MayFollow}
use Rattle.mz_laws.proofs.Passed.{passed, no_cause, not_busy}
use Rattle.mz_laws.proofs.ReadSteps.{IsRead, after_one, after_two, read_behind, same_ok}

-- a call was made: its session was open and didn't wait, and the entry is that of the session's next call
pub record IsCall (s : Situation) (session : ℕ) (text : List ℕ) (asked : Asked) (entry : Entry) : Type 0 where
  pub unclosed : s.closed ≡ false
  pub free : s.outstanding ≡ None
  pub is : call_entry session (s.calls_made + 1) (form_of text asked) (accepted_text s session asked) ≡ entry

-- so it is with each call
unfoldable pub call_made : (s : Situation) (session : ℕ) (text : List ℕ) (asked : Asked) (entry : Entry)
    → answer_in s session text asked ≡ Ok entry → IsCall s session text asked entry
call_made s session text asked entry e =
    let whole = passed (no_call s) (λ _. Ok (call_entry session (s.calls_made + 1) (form_of text asked) (accepted_text s session asked))) entry e in
    let first = passed _ _ _ whole.is in
    let second = passed _ _ _ first.then in
    record {
      unclosed = no_cause s.closed _ first.value first.is;
      free = not_busy s.outstanding second.value second.is;
      is = cc;
    }

-- and of a log
unfoldable pub made : (log : Log) (session : ℕ) (text : List ℕ) (asked : Asked) (entry : Entry)
    → answer log session text asked ≡ Ok entry → IsCall (situation log session) session text asked entry
unfolding answer
made log session text asked entry e = call_made (situation log session) session text asked entry e

-- the session and the number of the call that an entry makes, where it makes one
abbrev pub call_of : Entry → Option (ℕ × ℕ)
call_of (Queue session call statement) = Some (session, call)
call_of (Read session call peek time statement collection) = Some (session, call)
call_of (Refused session call text refusal) = Some (session, call)
call_of (Instant session call statement time) = Some (session, call)
call_of entry = None

-- what an accepted statement's entry is: a command is queued, a query is read, and all others are carried out at once
pub data IsAccepted (s : Situation) (session : ℕ) (statement : Statement) (entry : Entry) : Type 0 where
  IsCommand : Queue session (s.calls_made + 1) statement ≡ entry → IsAccepted s session statement entry
  IsQuery : IsRead s session statement (pick s statement) entry → IsAccepted s session statement entry
  IsAtOnce : at_once s session statement ≡ entry → IsAccepted s session statement entry

-- so it is with each kind of statement
pub kinds : (s : Situation) (session : ℕ) (statement : Statement) (k : Kind) (entry : Entry)
    → accepted s session statement k ≡ Ok entry → IsAccepted s session statement entry
kinds s session statement kind.Command entry e = IsCommand (after_one (outside s) _ entry e)
kinds s session statement kind.Query entry e = IsQuery (read_behind s session statement (pick s statement) entry
    (refused_if (is_some s.transaction && is_some (as_of statement)) refusal.InTransaction) e)
kinds s session statement kind.Start entry e = IsAtOnce (after_one (outside s) _ entry e)
kinds s session statement kind.Commit entry e = IsAtOnce (after_one (refused_if (is_none s.transaction) refusal.NoTransaction) _ entry e)
kinds s session statement kind.Retain entry e =
    IsAtOnce (after_two (outside s) (held_item s.scope.items (retained_name statement)) _ entry e)
kinds s session statement kind.ShowFrontiers entry e = IsAtOnce (same_ok _ entry e)
kinds s session statement kind.Set entry e = IsAtOnce (after_two (outside s) (known_cluster s.clusters statement) _ entry e)

-- what the entry of a call is: that of an accepted statement, which a text spells, or a refusal
pub data IsEntry (s : Situation) (session : ℕ) (entry : Entry) : Type 0 where
  IsOf : (text : List ℕ) (statement : Statement) → IsSpelling text statement → IsAccepted s session statement entry
      → IsEntry s session entry
  IsRefused : (text : List ℕ) (refusal : Refusal) → Refused session (s.calls_made + 1) text refusal ≡ entry → IsEntry s session entry

-- by the step that gave it
by_step : (s : Situation) (session : ℕ) (said text : List ℕ) (statement : Statement) (entry : Entry) (step : Step Entry)
    → IsSpelling said statement → accepted s session statement (kind_of statement) ≡ step
    → call_entry session (s.calls_made + 1) text step ≡ entry → IsEntry s session entry
by_step s session said text statement entry (Ok own) spelled is e =
    IsOf said statement spelled (kinds s session statement (kind_of statement) entry (is ∙ ap Ok e))
by_step s session said text statement entry (Err refusal) spelled is e = IsRefused text refusal e

-- by what the text asks for
by_asked : (s : Situation) (session : ℕ) (text : List ℕ) (asked : Asked) (entry : Entry) → IsAsked text asked
    → call_entry session (s.calls_made + 1) (form_of text asked) (accepted_text s session asked) ≡ entry → IsEntry s session entry
by_asked s session text (asks.Statement statement) entry spelled e =
    by_step s session text (form_of text (asks.Statement statement)) statement entry (accepted s session statement (kind_of statement)) spelled refl e
by_asked s session text (asks.Syntax at) entry spelled e = IsRefused text _ e
by_asked s session text (asks.LiteralRange at) entry spelled e = IsRefused text _ e

-- of each call that a legal log may get
pub entry_made : (log : Log) (session : ℕ) (entry : Entry) → MayCall log session entry → IsEntry (situation log session) session entry
entry_made log session entry may =
    by_asked (situation log session) session may.text may.asked entry may.asks
    (made log session may.text may.asked entry may.answered).is

-- its session had no call that waits
pub none_waits : (log : Log) (session : ℕ) (entry : Entry) → MayCall log session entry → outstanding log session ≡ None
none_waits log session entry may = (made log session may.text may.asked entry may.answered).free

-- and the call is its session's next
next_of : (s : Situation) (session : ℕ) (statement : Statement) (entry : Entry) → IsAccepted s session statement entry
    → call_of entry ≡ Some (session, s.calls_made + 1)
next_of s session statement entry (IsCommand is) = ap call_of (sym is)
next_of s session statement entry (IsQuery read) = ap call_of (sym read.is)
next_of s session statement entry (IsAtOnce is) = ap call_of (sym is)

own_call : (s : Situation) (session : ℕ) (entry : Entry) → IsEntry s session entry → call_of entry ≡ Some (session, s.calls_made + 1)
own_call s session entry (IsOf text statement spelled is) = next_of s session statement entry is
own_call s session entry (IsRefused text refusal is) = ap call_of (sym is)

-- so it is
pub next_call : (log : Log) (session : ℕ) (entry : Entry) → MayCall log session entry
    → call_of entry ≡ Some (session, calls_made log session + 1)
next_call log session entry may = own_call (situation log session) session entry (entry_made log session entry may)

-- a call that is answered so may be made
answered_may : (log : Log) (session : ℕ) (text : List ℕ) (asked : Asked) (entry : Entry) → IsOpened log session → IsAsked text asked
    → answer log session text asked ≡ Ok entry → MayCall log session entry
answered_may log session text asked entry opened asks e =
    record { opened = opened; text = text; asked = asked; asks = asks; answered = e }

-- and its entry may follow, whichever it is
call_follows : (log : Log) (session : ℕ) (entry own : Entry) → own ≡ entry → (MayCall log session own → MayFollow log own)
    → MayCall log session entry → MayFollow log entry
call_follows log session entry own is follows may = subst (MayFollow log) is (follows (subst (MayCall log session) (sym is) may))

entry_follows : (log : Log) (session : ℕ) (entry : Entry) → IsEntry (situation log session) session entry → MayCall log session entry
    → MayFollow log entry
entry_follows log session entry (IsOf text statement spelled (IsCommand is)) may = call_follows log session entry _ is (λ own. own) may
entry_follows log session entry (IsOf text statement spelled (IsQuery read)) may = call_follows log session entry _ read.is (λ own. own) may
entry_follows log session entry (IsOf text statement spelled (IsAtOnce is)) may = call_follows log session entry _ is (λ own. own) may
entry_follows log session entry (IsRefused text refusal is) may = call_follows log session entry _ is (λ own. inl own) may

-- what is answered may follow
pub answer_follows : (log : Log) (session : ℕ) (text : List ℕ) (asked : Asked) (entry : Entry) → IsOpened log session → IsAsked text asked
    → answer log session text asked ≡ Ok entry → MayFollow log entry
answer_follows log session text asked entry opened asks e =
    let may = answered_may log session text asked entry opened asks e in
    entry_follows log session entry (entry_made log session entry may) may
