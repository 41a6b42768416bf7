-- A BEGIN is at the read time.
use Rattle.std.proofs.Common.{◌≡◌, ℕ, ◌+◌, ◌&&◌, List, Ok, Err, is_some, is_none, nat_lt, refl, ap}
use Rattle.std.specs.Prelude.{⊤, IfOk, unwrap_or}
use Rattle.mz_refusal.specs.declared.refusal.Refusal.TheVariants as refusal
use Rattle.mz_resolution.specs.Steps.{Step}
use Rattle.mz_grammar.specs.declared.asked.Asked.{Asked}
use Rattle.mz_grammar.specs.declared.asked.Asked.TheVariants as asks
use Rattle.mz_statement.specs.Kind.{kind_of}
use Rattle.mz_statement.specs.declared.statement.Kind.{Kind}
use Rattle.mz_statement.specs.declared.statement.Kind.TheVariants as kind
use Rattle.mz_statement.specs.declared.statement.Statement.{Statement}
use Rattle.mz_statement.specs.declared.statement.Statement.TheVariants.{Start}
use Rattle.mz_log.specs.declared.entry.Entry.{Entry}
use Rattle.mz_log.specs.declared.entry.Entry.TheVariants.{Instant}
use Rattle.mz_log.specs.Log.{Log}
use Rattle.mz_books.specs.Rounds.{read_time}
use Rattle.mz_books.specs.States.{query_plan}
use Rattle.mz_books.specs.Collections.{inputs_of}
use Rattle.mz_books.specs.Answer.{accepted, accepted_text, answer, answer_in, as_of, call_entry, form_of, greatest_of, held_item, known_cluster, no_call, not_before, pick, reading, retained_name}
use Rattle.mz_books.specs.Situation.{Situation, situation}
use Rattle.mz_books.specs.Legal.{MayCall}
use Rattle.mz_call_laws.proofs.Options.{not_some}
use Rattle.mz_call_laws.proofs.Steps.{then_ok, past, given_ok}

-- the entry is at the read time, if it is that of a BEGIN
abbrev StartsNow : Situation → Entry → Type 0
StartsNow s (Instant session call statement time) = kind_of statement ≡ kind.Start → time ≡ s.read
StartsNow s entry = ⊤

-- a query is none
reading_is : (s : Situation) (session : ℕ) (statement : Statement) (time : ℕ)
    → IfOk (reading s session statement time) (StartsNow s)
reading_is s session statement time =
    past (nat_lt s.read time) (refusal.AfterRead time s.read) _ (StartsNow s)
    (λ _. past (is_some (as_of statement) && nat_lt time s.seen) (refusal.BeforeSession time s.seen) _ (StartsNow s)
    (λ _. past (nat_lt time s.ddl) (refusal.CatalogMoved s.ddl time) _ (StartsNow s)
    (λ _. then_ok (query_plan s.scope statement) _ (StartsNow s)
    (λ plan _. then_ok (not_before time (greatest_of s.settled (inputs_of plan s.collections))) _ (StartsNow s) (λ _ _. tt)))))

-- a BEGIN is refused in a transaction, and so at the read time elsewhere
accepted_is : (s : Situation) (session : ℕ) (statement : Statement) (of : Kind) → kind_of statement ≡ of
    → IfOk (accepted s session statement of) (StartsNow s)
accepted_is s session statement kind.Command is = past (is_some s.transaction) refusal.InTransaction _ (StartsNow s) (λ _. tt)
accepted_is s session statement kind.Query is =
    past (is_some s.transaction && is_some (as_of statement)) refusal.InTransaction _ (StartsNow s)
    (λ _. reading_is s session statement (pick s statement))
accepted_is s session statement kind.Start is =
    past (is_some s.transaction) refusal.InTransaction _ (StartsNow s)
    (λ free start. ap (λ inside. unwrap_or inside s.read) (not_some s.transaction free))
accepted_is s session statement kind.Commit is =
    past (is_none s.transaction) refusal.NoTransaction _ (StartsNow s) (λ _ start. absurd (cc))
accepted_is s session statement kind.Retain is =
    past (is_some s.transaction) refusal.InTransaction _ (StartsNow s)
    (λ _. then_ok (held_item s.scope.items (retained_name statement)) _ (StartsNow s) (λ _ _ start. absurd (cc)))
accepted_is s session statement kind.ShowFrontiers is = λ start. absurd (cc)
accepted_is s session statement kind.Set is =
    past (is_some s.transaction) refusal.InTransaction _ (StartsNow s)
    (λ _. then_ok (known_cluster s.clusters statement) _ (StartsNow s) (λ _ _ start. absurd (cc)))

-- so with each text
text_is : (s : Situation) (session : ℕ) (asked : Asked) → IfOk (accepted_text s session asked) (StartsNow s)
text_is s session (asks.Statement statement) = accepted_is s session statement (kind_of statement) refl
text_is s session (asks.Syntax at) = tt
text_is s session (asks.LiteralRange at) = tt

-- with each entry of a call
entry_is : (s : Situation) (session call : ℕ) (text : List ℕ) (step : Step Entry) → IfOk step (StartsNow s)
    → StartsNow s (call_entry session call text step)
entry_is s session call text (Ok entry) h = h
entry_is s session call text (Err refusal) h = tt

-- and with each answer
answer_is : (s : Situation) (session : ℕ) (text : List ℕ) (asked : Asked) → IfOk (answer_in s session text asked) (StartsNow s)
answer_is s session text asked =
    then_ok (no_call s) _ (StartsNow s)
    (λ _ _. entry_is s session (s.calls_made + 1) (form_of text asked) (accepted_text s session asked) (text_is s session asked))

-- so a BEGIN that may be made is at the read time
pub starts_now : (log : Log) (session call time : ℕ) → MayCall log session (Instant session call Start time) → time ≡ read_time log
unfolding answer
starts_now log session call time may =
    given_ok (answer log session may.text may.asked) (Instant session call Start time) (StartsNow (situation log session))
    (answer_is (situation log session) session may.text may.asked) may.answered refl
