-- What becomes of a call that a session may make: the log gives it that, and the core stands for the log with it.
use Rattle.std.proofs.Common.{◌≡◌, ℕ, ◌+◌, ◌-◌, ◌<◌, true, List, [], ◌∷◌, ◌++◌, None, Some, Ok, Err, length, map, refl, sym, ap, subst, ◌∙◌}
use Rattle.std.proofs.lemmas.List.{map_push}
use Rattle.std.specs.FinMap.{entries}
use Rattle.mz_bag.specs.Weighted.{bag_of}
use Rattle.mz_statement.specs.Kind.{kind_of}
use Rattle.mz_statement.specs.declared.statement.Kind.{Kind}
use Rattle.mz_statement.specs.declared.statement.Kind.TheVariants as kind
use Rattle.mz_statement.specs.declared.statement.Statement.{Statement}
use Rattle.mz_grammar.specs.Asked.{IsAsked}
use Rattle.mz_grammar.specs.declared.asked.Asked.{Asked}
use Rattle.mz_grammar.specs.declared.asked.Asked.TheVariants as asks
use Rattle.mz_print.specs.Print.{print_of}
use Rattle.mz_plan.specs.declared.command.PendingPeek.{PendingPeek}
use Rattle.mz_plan.specs.declared.plan.Plan.{Plan}
use Rattle.mz_refusal.specs.declared.refusal.Refusal.{Refusal}
use Rattle.mz_refusal.specs.declared.refusal.Refusal.TheVariants as refusal
use Rattle.mz_resolution.specs.Steps.{Step, ◌>>=◌}
use Rattle.mz_laws.proofs.Accepted.{answer_follows}
use Rattle.mz_log.specs.CarriedOut.{rows_of}
use Rattle.mz_log.specs.Log.{Log}
use Rattle.mz_log.specs.declared.entry.Entry.{Entry}
use Rattle.mz_log.specs.declared.entry.Entry.TheVariants.{Queue, Refused}
use Rattle.mz_books.specs.Answer.{accepted, accepted_text, answer, as_of, call_entry, form_of, most_calls, target}
use Rattle.mz_books.specs.Collections.{collections}
use Rattle.mz_books.specs.Given.{Did}
use Rattle.mz_books.specs.Holds.{peeks_made, pending}
use Rattle.mz_books.specs.Legal.{MayFollow}
use Rattle.mz_books.specs.Owed.{event}
use Rattle.mz_books.specs.Rounds.{read_time}
use Rattle.mz_books.specs.Sessions.{calls_made, outstanding}
use Rattle.mz_books.specs.Situation.{situation}
use Rattle.mz_books.specs.States.{query_plan, scope_of}
use Rattle.mz_event_laws.proofs.Whole.{IsWhole, event_whole}
use Rattle.mz_script_laws.specs.Plain.{IsPlainAsked, IsPlainKind, read_entry}
use Rattle.mz_script_laws.proofs.PlainAnswers.{commands_queued, queries_read}
use Rattle.mz_core.specs.declared.calls.Submitted.{Submitted}
use Rattle.mz_core.specs.declared.calls.Submitted.TheVariants as submitted
use Rattle.mz_kept.specs.Kept.{Kept}
use Rattle.mz_core.specs.Told.{read_of, submitting_given, IsNumberOf}
use Rattle.mz_kept.specs.Standing.{StandsFor}
use Rattle.mz_kept.specs.Steps.{next_call, reading, session_at}
use Rattle.mz_kept.specs.Taken.{IsQueued, IsRead, IsRefused, IsStatementTaken, IsTaken, read_with}
use Rattle.mz_kept_laws.proofs.Answering.{call_answer, did_entry, is_opened, waits_as}
use Rattle.mz_kept_laws.proofs.Calling.{called_sessions, next_number, read_called}
use Rattle.mz_kept_laws.proofs.Entries.{queue_stands, refused_stands}
use Rattle.mz_kept_laws.proofs.WaitingRows.{new_rows, reads_stay}
use Rattle.mz_kept_laws.proofs.WithinCalls.{within_reading}

-- a session that may make a call: it waits for none, and there are fewer calls than there may be
pub record MayMake (k : Kept) (log : Log) (session : ℕ) : Type 0 where
  pub stands : StandsFor k log
  pub number : IsNumberOf (length k.names) session
  pub free : (session_at k.sessions (session - 1)).outstanding ≡ None
  pub room : k.calls < most_calls

-- in the log it waits for none
free_in : (k : Kept) (log : Log) (session : ℕ) → MayMake k log session → outstanding log session ≡ None
free_in k log session m = sym (waits_as k log session m.stands m.number) ∙ m.free

-- the number of its next call is that of the log
number_in : (k : Kept) (log : Log) (session : ℕ) → MayMake k log session → next_call k session ≡ calls_made log session + 1
number_in k log session m = next_number k log session (length k.names) m.number m.stands.sessions

-- ---- refusals

-- what is asked for is refused
pub refused_did : (k new : Kept) (log : Log) (session : ℕ) (text : List ℕ) (asked : Asked) (why : Refusal) (told : Submitted)
    → MayMake k log session → IsAsked text asked → accepted_text (situation log session) session asked ≡ Err why
    → IsRefused k new session why told → Did log (submitting_given log session text asked) (Ok (Some told)) (StandsFor new)
refused_did k new log session text asked why told m spelled refused made =
    let none = free_in k log session m in
    let call = calls_made log session + 1 in
    let entry : Entry = Refused session call (form_of text asked) why in
    let answered : answer log session text asked ≡ Ok entry
    = call_answer k log session text asked m.stands none m.room ∙ ap (λ step. Ok (call_entry session call (form_of text asked) step)) refused in
    did_entry log session text asked entry told (StandsFor new) answered
    (ap (λ n. Some (submitted.Refused n why)) (sym (number_in k log session m)) ∙ ap Some (sym made.told))
    (subst (λ after. StandsFor after (entry ∷ log)) (sym made.kept)
    (refused_stands k log session (form_of text asked) why m.stands m.number m.room none
    (answer_follows log session text asked entry (is_opened k log session m.stands m.number) spelled answered)))

-- ---- commands

-- a command waits
queue_did : (k new : Kept) (log : Log) (session : ℕ) (text : List ℕ) (statement : Statement) (told : Submitted)
    → MayMake k log session → IsAsked text (asks.Statement statement) → kind_of statement ≡ kind.Command
    → IsQueued k new session statement told
    → Did log (submitting_given log session text (asks.Statement statement)) (Ok (Some told)) (StandsFor new)
queue_did k new log session text statement told m spelled is made =
    let call = calls_made log session + 1 in
    let entry : Entry = Queue session call statement in
    let answered : answer log session text (asks.Statement statement) ≡ Ok entry
    = call_answer k log session text (asks.Statement statement) m.stands (free_in k log session m) m.room
    ∙ ap (λ step. Ok (call_entry session call (print_of statement) step))
    (ap (accepted (situation log session) session statement) is ∙ commands_queued log session statement m.stands.plain) in
    did_entry log session text (asks.Statement statement) entry told (StandsFor new) answered
    (ap (λ n. Some (submitted.Queued n)) (sym (number_in k log session m)) ∙ ap Some (sym made.told))
    (subst (λ after. StandsFor after (entry ∷ log)) (sym made.kept)
    (queue_stands k log session statement m.stands m.number m.room
    (answer_follows log session text (asks.Statement statement) entry (is_opened k log session m.stands m.number) spelled answered)))

-- ---- queries

-- the read that is kept is that of the log
new_read : (k : Kept) (log : Log) (session : ℕ) (statement : Statement) (plan : Plan) → MayMake k log session
    → query_plan (scope_of log session) statement ≡ Ok plan → IsWhole (read_entry log session statement plan ∷ log)
    → read_with k session plan ≡ read_of (read_entry log session statement plan ∷ log) (record {
      peek = peeks_made log + 1;
      session = session;
      call = calls_made log session + 1;
      collection = target plan (collections log);
      time = read_time log;
    })
new_read k log session statement plan m is whole = λ i. record {
  peek = m.stands.reads.peeks i + 1;
  session = session;
  call = number_in k log session m i;
  time = m.stands.rounds.read i;
  rows = (ap (λ state. entries (bag_of (rows_of state plan))) m.stands.state
      ∙ sym (new_rows log session (calls_made log session + 1) (peeks_made log + 1) statement (target plan (collections log)) plan whole.legal is)) i;
}

-- the log with a read is stood for
read_stands : (k : Kept) (log : Log) (session : ℕ) (statement : Statement) (plan : Plan) → MayMake k log session
    → as_of statement ≡ None → query_plan (scope_of log session) statement ≡ Ok plan → MayFollow log (read_entry log session statement plan)
    → StandsFor (reading (read_with k session plan) k) (read_entry log session statement plan ∷ log)
read_stands k log session statement plan m own is may =
    let s = m.stands in
    let call = calls_made log session + 1 in
    let entry : Entry = read_entry log session statement plan in
    let whole : IsWhole (event log entry) = event_whole log entry s.legal s.whole may in
    let new : PendingPeek = record { peek = peeks_made log + 1; session = session; call = call; collection = target plan (collections log); time = read_time log } in
    let held = called_sessions true session k log (entry ∷ log) s.within m.number s.sessions
    (read_called log session (peeks_made log + 1) (read_time log) statement (target plan (collections log)) whole.legal) in
    record {
      legal = whole.legal;
      whole = whole.none;
      plain = (own, s.plain);
      sessions = record { names = held.names; each = held.each; calls = held.calls };
      rounds = record {
        read = s.rounds.read;
        last = s.rounds.last;
        begun = s.rounds.begun;
        open_round = s.rounds.open_round;
        queued = s.rounds.queued;
      };
      state = s.state;
      reads = record {
        reads = ap (λ reads. reads ++ read_with k session plan ∷ []) (s.reads.reads ∙ sym (reads_stay log entry whole.legal))
            ∙ (ap (λ read. map (read_of (entry ∷ log)) (pending log) ++ read ∷ []) (new_read k log session statement plan m is whole)
            ∙ sym (map_push (read_of (entry ∷ log)) (pending log) new));
        peeks = ap (λ n. n + 1) s.reads.peeks;
      };
      within = within_reading (read_with k session plan) k s.within m.number m.room;
    }

-- a query is read, or refused as it doesn't resolve
read_did : (k new : Kept) (log : Log) (session : ℕ) (text : List ℕ) (statement : Statement) (told : Submitted) (step : Step Plan)
    → MayMake k log session → IsAsked text (asks.Statement statement) → kind_of statement ≡ kind.Query → as_of statement ≡ None
    → query_plan (scope_of log session) statement ≡ step → IsRead k new session step told
    → Did log (submitting_given log session text (asks.Statement statement)) (Ok (Some told)) (StandsFor new)
read_did k new log session text statement told (Ok plan) m spelled is own planned made =
    let call = calls_made log session + 1 in
    let entry : Entry = read_entry log session statement plan in
    let answered : answer log session text (asks.Statement statement) ≡ Ok entry
    = call_answer k log session text (asks.Statement statement) m.stands (free_in k log session m) m.room
    ∙ ap (λ step. Ok (call_entry session call (print_of statement) step))
    (ap (accepted (situation log session) session statement) is ∙ (queries_read log session statement m.stands.legal m.stands.plain own
    ∙ ap (λ step. step >>= λ own. Ok (read_entry log session statement own)) planned)) in
    did_entry log session text (asks.Statement statement) entry told (StandsFor new) answered
    ((λ i. Some (submitted.Reading (sym (number_in k log session m) i) (sym m.stands.rounds.read i) (sym m.stands.reads.peeks i + 1)))
    ∙ ap Some (sym made.told))
    (subst (λ after. StandsFor after (entry ∷ log)) (sym made.kept)
    (read_stands k log session statement plan m own planned
    (answer_follows log session text (asks.Statement statement) entry (is_opened k log session m.stands m.number) spelled answered)))
read_did k new log session text statement told (Err why) m spelled is own planned made =
    refused_did k new log session text (asks.Statement statement) why told m spelled
    (ap (accepted (situation log session) session statement) is ∙ (queries_read log session statement m.stands.legal m.stands.plain own
    ∙ ap (λ step. step >>= λ own. Ok (read_entry log session statement own)) planned)) made

-- ---- what is asked for

-- a statement of this kind is queued, or read
statement_did : (k new : Kept) (log : Log) (session : ℕ) (text : List ℕ) (statement : Statement) (told : Submitted) (own : Kind)
    → MayMake k log session → IsAsked text (asks.Statement statement) → kind_of statement ≡ own → IsPlainKind own → as_of statement ≡ None
    → IsStatementTaken k new session statement own told
    → Did log (submitting_given log session text (asks.Statement statement)) (Ok (Some told)) (StandsFor new)
statement_did k new log session text statement told kind.Command m spelled is plain none took =
    queue_did k new log session text statement told m spelled is took
statement_did k new log session text statement told kind.Query m spelled is plain none took =
    read_did k new log session text statement told (query_plan (record { items = k.database.items; cluster = 0 }) statement) m spelled is none
    (ap (λ state. query_plan (record { items = state.database.items; cluster = 0 }) statement) (sym m.stands.state)) took
statement_did k new log session text statement told kind.Start m spelled is plain none took = absurd plain
statement_did k new log session text statement told kind.Commit m spelled is plain none took = absurd plain
statement_did k new log session text statement told kind.Retain m spelled is plain none took = absurd plain
statement_did k new log session text statement told kind.ShowFrontiers m spelled is plain none took = absurd plain
statement_did k new log session text statement told kind.Set m spelled is plain none took = absurd plain

-- what is asked for is queued, read or refused
pub took_did : (k new : Kept) (log : Log) (session : ℕ) (text : List ℕ) (asked : Asked) (told : Submitted) → MayMake k log session
    → IsAsked text asked → IsPlainAsked asked → IsTaken k new session asked told
    → Did log (submitting_given log session text asked) (Ok (Some told)) (StandsFor new)
took_did k new log session text (asks.Statement statement) told m is plain took =
    statement_did k new log session text statement told (kind_of statement) m is refl plain.0 plain.1 took
took_did k new log session text (asks.Syntax at) told m is plain took =
    refused_did k new log session text (asks.Syntax at) (refusal.Syntax at) told m is refl took
took_did k new log session text (asks.LiteralRange at) told m is plain took =
    refused_did k new log session text (asks.LiteralRange at) (refusal.LiteralRange at) told m is refl took
