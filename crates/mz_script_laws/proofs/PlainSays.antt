-- The log of a machine stays plain as sessions say commands and queries.
use Rattle.std.specs.Prelude.{bytes_eq}
use Rattle.std.proofs.Common.{◌≡◌, ℕ, ◌+◌, ◌&&◌, Bool, true, false, List, ◌∷◌, length, nat_le, nat_lt, Option, None, Some, Ok, Err, is_some, refl, subst, IfOk}
use Rattle.std.specs.List.{list_any}
use Rattle.mz_grammar.specs.declared.asked.Asked.{Asked}
use Rattle.mz_grammar.specs.declared.asked.Asked.TheVariants as asks
use Rattle.mz_refusal.specs.declared.refusal.Refusal.TheVariants as refusal
use Rattle.mz_resolution.specs.Steps.{Step}
use Rattle.mz_statement.specs.Kind.{kind_of}
use Rattle.mz_statement.specs.declared.statement.Kind.{Kind}
use Rattle.mz_statement.specs.declared.statement.Kind.TheVariants as kind
use Rattle.mz_statement.specs.declared.statement.Statement.{Statement}
use Rattle.mz_log.specs.declared.entry.Entry.{Entry}
use Rattle.mz_log.specs.declared.entry.Entry.TheVariants.{Opened}
use Rattle.mz_log.specs.Log.{Log}
use Rattle.mz_books.specs.Answer.{accepted, accepted_text, answer, as_of, call_entry, form_of, greatest_of, not_before, pick, reading}
use Rattle.mz_books.specs.Collections.{inputs_of}
use Rattle.mz_books.specs.Legal.{most_sessions}
use Rattle.mz_books.specs.Sessions.{sessions}
use Rattle.mz_books.specs.Situation.{Situation, situation}
use Rattle.mz_books.specs.States.{query_plan}
use Rattle.mz_call_laws.proofs.Steps.{past, then_ok}
use Rattle.mz_laws.proofs.Accepted.{made}
use Rattle.mz_script.specs.Script.{answered, opened_says, session_place, session_says}
use Rattle.mz_script.specs.ScriptLine.{Machine, with_log}
use Rattle.mz_script_laws.specs.Plain.{IsPlain, IsPlainAsked, IsPlainKind, IsPlainLog}
use Rattle.mz_script_laws.proofs.PlainLines.{plain_event}
use Rattle.mz_script_laws.proofs.SessionLines.{opening_by}

-- a read that names no time is plain
reading_plain : (s : Situation) (session : ℕ) (statement : Statement) (time : ℕ) → as_of statement ≡ None
    → IfOk (reading s session statement time) IsPlain
reading_plain s session statement time own =
    past (nat_lt s.read time) (refusal.AfterRead time s.read) _ IsPlain
    (λ _. past (is_some (as_of statement) && nat_lt time s.seen) (refusal.BeforeSession time s.seen) _ IsPlain
    (λ _. past (nat_lt time s.ddl) (refusal.CatalogMoved s.ddl time) _ IsPlain
    (λ _. then_ok (query_plan s.scope statement) _ IsPlain
    (λ plan _. then_ok (not_before time (greatest_of s.settled (inputs_of plan s.collections))) _ IsPlain (λ _ _. own)))))

-- so is what is accepted of a plain kind
accepted_plain : (s : Situation) (session : ℕ) (statement : Statement) (of : Kind) → IsPlainKind of → as_of statement ≡ None
    → IfOk (accepted s session statement of) IsPlain
accepted_plain s session statement kind.Command p own = past (is_some s.transaction) refusal.InTransaction _ IsPlain (λ _. tt)
accepted_plain s session statement kind.Query p own =
    past (is_some s.transaction && is_some (as_of statement)) refusal.InTransaction _ IsPlain
    (λ _. reading_plain s session statement (pick s statement) own)
accepted_plain s session statement kind.Start p own = absurd p
accepted_plain s session statement kind.Commit p own = absurd p
accepted_plain s session statement kind.Retain p own = absurd p
accepted_plain s session statement kind.ShowFrontiers p own = absurd p
accepted_plain s session statement kind.Set p own = absurd p

-- of a plain text
text_plain : (s : Situation) (session : ℕ) (asked : Asked) → IsPlainAsked asked → IfOk (accepted_text s session asked) IsPlain
text_plain s session (asks.Statement statement) p = accepted_plain s session statement (kind_of statement) p.0 p.1
text_plain s session (asks.Syntax at) p = tt
text_plain s session (asks.LiteralRange at) p = tt

-- and the entry of its call
call_plain : (session call : ℕ) (text : List ℕ) (step : Step Entry) → IfOk step IsPlain → IsPlain (call_entry session call text step)
call_plain session call text (Ok entry) p = p
call_plain session call text (Err refusal) p = tt

-- so each answer to it is plain
pub answer_plain : (log : Log) (session : ℕ) (text : List ℕ) (asked : Asked) (entry : Entry) → IsPlainAsked asked
    → answer log session text asked ≡ Ok entry → IsPlain entry
answer_plain log session text asked entry p is =
    subst IsPlain (made log session text asked entry is).is
    (call_plain session _ (form_of text asked) (accepted_text (situation log session) session asked) (text_plain (situation log session) session asked p))

-- a submission, however it is answered
answered_plain : (machine : Machine) (name : List ℕ) (session : ℕ) (text : List ℕ) (asked : Asked) (step : Step Entry) → IsPlainAsked asked
    → answer machine.log session text asked ≡ step → IsPlainLog machine.log → IsPlainLog (answered machine name step).machine.log
answered_plain machine name session text asked (Err refusal) own is p = p
answered_plain machine name session text asked (Ok entry) own is p =
    plain_event machine.log entry (answer_plain machine.log session text asked entry own is) p

-- a session that is opened, or isn't
opened_plain : (machine : Machine) (name text : List ℕ) (asked : Asked) (taken full : Bool) → IsPlainAsked asked → IsPlainLog machine.log
    → IsPlainLog (opened_says machine name text asked (opening_by machine.log name taken full) (opening_by machine.log name taken full).answer).machine.log
opened_plain machine name text asked true full own p = p
opened_plain machine name text asked false true own p = p
opened_plain machine name text asked false false own p =
    answered_plain (with_log machine (Opened name ∷ machine.log)) name (length (sessions machine.log) + 1) text asked
    (answer (Opened name ∷ machine.log) (length (sessions machine.log) + 1) text asked) own refl (tt, p)

-- by whether the session is there
says_plain : (machine : Machine) (name text : List ℕ) (asked : Asked) (place : Option ℕ) → IsPlainAsked asked → IsPlainLog machine.log
    → IsPlainLog (session_says machine name text asked place).machine.log
says_plain machine name text asked None own p =
    opened_plain machine name text asked (list_any (bytes_eq name) (sessions machine.log)) (nat_le most_sessions (length (sessions machine.log))) own p
says_plain machine name text asked (Some place) own p =
    answered_plain machine name (place + 1) text asked (answer machine.log (place + 1) text asked) own refl p

-- a session says what is plain
pub session_plain : (machine : Machine) (name text : List ℕ) (asked : Asked) → IsPlainAsked asked → IsPlainLog machine.log
    → IsPlainLog (session_says machine name text asked (session_place machine.log name)).machine.log
session_plain machine name text asked own p = says_plain machine name text asked (session_place machine.log name) own p
