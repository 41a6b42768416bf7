-- What a log gives to the calls on sessions and rounds keeps it good.
use Rattle.std.specs.Prelude.{IfOk, bytes_eq}
use Rattle.std.proofs.Common.{◌≡◌, ℕ, ◌+◌, ◌==◌, ◌&&◌, Bool, true, false, cond, not, List, [], ◌∷◌, filter, length, Option, None, Some, Ok, Err, nat_le, refl, sym, ap, ◌∙◌, inl, inr, arith}
use Rattle.std.specs.List.{AllByRecursion as Each, list_any}
use Rattle.std.proofs.lemmas.Bool.{cond_both, eqb-false, leb-false, leb-true, ne_eqb, not_from_false}
use Rattle.mz_grammar.specs.Asked.{IsAsked}
use Rattle.mz_grammar.specs.declared.asked.Asked.{Asked}
use Rattle.mz_print.specs.Print.{print_of}
use Rattle.mz_refusal.specs.declared.refusal.Limited.TheVariants.{Sessions}
use Rattle.mz_refusal.specs.declared.refusal.Refusal.TheVariants as refusal
use Rattle.mz_resolution.specs.Steps.{Step}
use Rattle.mz_rules.proofs.Each.{each_both, each_of}
use Rattle.mz_log.specs.declared.entry.Entry.{Entry}
use Rattle.mz_log.specs.declared.entry.Entry.TheVariants.{Begin, Apply, Refused, Cancel}
use Rattle.mz_log.specs.Log.{Log}
use Rattle.mz_books.specs.Entries.{Queued, after, is_queued_as}
use Rattle.mz_books.specs.Clusters.{cluster_of}
use Rattle.mz_books.specs.Rounds.{Round, greatest_round_time, is_in_round, last_time, open_round, queued, rounds}
use Rattle.mz_books.specs.States.{newest_state, replies_to}
use Rattle.mz_books.specs.Sessions.{IsOpened, is_closed, outstanding, sessions}
use Rattle.mz_books.specs.Answer.{answer, busy}
use Rattle.mz_books.specs.Legal.{MayFollow, most_sessions}
use Rattle.mz_books.specs.Given.{Given, begin_at, begin_given, cancel_given, cancelling_given, closing_given, finish_given, gives_or_refuses, next_time, opening_given, spent, submission_given}
use Rattle.mz_books.specs.Safe.{Good}
use Rattle.mz_call_laws.specs.Members.{Has, Pairwise}
use Rattle.mz_call_laws.specs.Waiting.{AreApart}
use Rattle.mz_call_laws.proofs.Lists.{contains_from}
use Rattle.mz_call_laws.proofs.Rounds.{queued_apart}
use Rattle.mz_call_laws.proofs.Steps.{past, then_ok}
use Rattle.mz_event_laws.proofs.GoodLogs.{event_good}
use Rattle.mz_laws.proofs.Accepted.{answer_follows}
use Rattle.mz_laws.proofs.Passed.{not_busy}

-- ---- one event

-- the entry of an event may follow
abbrev pub IsEvent : {A : Type 0} → Log → Entry × A → Type 0
IsEvent log event = MayFollow log event.0

-- an event whose entry may follow, or none
pub step_good : {A : Type 0} (log : Log) (step : Step (Entry × A)) → Good log → IfOk step (IsEvent log)
    → Good (after (gives_or_refuses log step).entries log)
step_good log (Ok event) good may = event_good log event.0 good may
step_good log (Err refusal) good may = good

-- what is given by a test is one of two
pub given_either : {A R : Type 0} (log : Log) (test : Bool) (one other : Given A R) → (test ≡ true → Good (after one.entries log))
    → (test ≡ false → Good (after other.entries log)) → Good (after (cond test one other).entries log)
given_either log true one other p q = p refl
given_either log false one other p q = q refl

-- ---- sessions

-- a session is opened
pub opening_good : (log : Log) (name : List ℕ) → Good log → Good (after (opening_given log name).entries log)
opening_good log name good =
    step_good log _ good
    (past (list_any (bytes_eq name) (sessions log)) (refusal.NameTaken name) _ (IsEvent log)
    (λ new. past (nat_le most_sessions (length (sessions log))) (refusal.TooMany Sessions most_sessions) _ (IsEvent log)
    (λ few. record { new_name = new; room = leb-false most_sessions (length (sessions log)) few })))

-- it says a text
pub submission_good : (log : Log) (session call : ℕ) (text : List ℕ) (asked : Asked) → Good log → IsOpened log session → IsAsked text asked
    → Good (after (submission_given log session call text asked).entries log)
submission_good log session call text asked good opened asks =
    step_good log _ good
    (then_ok (answer log session text asked) _ (IsEvent log)
    (λ entry is. answer_follows log session text asked entry opened asks is))

-- its call is cancelled
cancel_good : (log : Log) (session call : ℕ) → Good log → outstanding log session ≡ Some call → (round : Option Round) → open_round log ≡ round
    → Good (after (cancel_given log session call round).entries log)
cancel_good log session call good waits None is =
    event_good log (Cancel session call) good (record { waits = waits; in_none = ap (is_in_round session call) is })
cancel_good log session call good waits (Some round) is =
    given_either log (is_in_round session call (Some round)) _ _ (λ e. good)
    (λ e. event_good log (Cancel session call) good (record { waits = waits; in_none = ap (is_in_round session call) is ∙ e }))

-- where it has one
cancelling_by : (log : Log) (session : ℕ) → Good log → (call : Option ℕ) → outstanding log session ≡ call
    → Good (after (cancelling_given log session call).entries log)
cancelling_by log session good None is = good
cancelling_by log session good (Some call) is = cancel_good log session call good is (open_round log) refl

pub cancelling_good : (log : Log) (session : ℕ) → Good log → Good (after (cancelling_given log session (outstanding log session)).entries log)
cancelling_good log session good = cancelling_by log session good (outstanding log session) refl

-- it is closed
pub closing_good : (log : Log) (session : ℕ) → Good log → IsOpened log session → Good (after (closing_given log session).entries log)
closing_good log session good opened =
    step_good log _ good
    (past (is_closed log session) refusal.Closed _ (IsEvent log)
    (λ unclosed. then_ok (busy (outstanding log session)) _ (IsEvent log)
    (λ value is. record { opened = opened; unclosed = unclosed; none_waits = not_busy (outstanding log session) value is })))

-- ---- rounds

-- commands that wait, no two of one session
record AreWaiting (log : Log) (commands : List Queued) : Type 0 where
  there : Each (λ command. Has command (queued log)) commands
  apart : Pairwise AreApart commands

-- what is in a list and passes a test is among those that pass
has_left : {A : Type 0} (test : A → Bool) (x : A) (xs : List A) → Has x xs → test x ≡ true → Has x (filter test xs)
has_left test x [] h e = h
has_left test x (y ∷ ys) (inl same) e =
    cond_both (test y) (y ∷ filter test ys) (filter test ys) (Has x) (λ _. inl same)
    (λ not_so. absurd (let wrong : true ≡ false = sym e ∙ (ap test (sym same) ∙ not_so) in cc))
has_left test x (y ∷ ys) (inr later) e =
    cond_both (test y) (y ∷ filter test ys) (filter test ys) (Has x) (λ _. inr (has_left test x ys later e)) (λ _. has_left test x ys later e)

-- one that is of another session isn't the one that is refused
stays_queued : (first command : Queued) → AreApart first command → not (is_queued_as first.session first.call command) ≡ true
stays_queued first command apart =
    not_from_false (is_queued_as first.session first.call command)
    (ap (λ b. b && (command.call == first.call)) (other command.session first.session apart))
  where
    other : (m n : ℕ) → (n == m) ≡ false → (m == n) ≡ false
    other m n e = ne_eqb m n (λ same. eqb-false n m e (sym same))

-- each is refused, where no time is left
spent_good : (last : ℕ) (commands : List Queued) (log : Log) → Good log → open_round log ≡ None → last_time log ≡ last → AreWaiting log commands
    → Good (after (spent last commands) log)
spent_good last [] log good none is waiting = good
spent_good last (first ∷ commands) log good none is waiting =
    let entry = Refused first.session first.call (print_of first.statement) (refusal.TimeSpent last) in
    spent_good last commands (entry ∷ log)
    (event_good log entry good (inr (record {
      statement = first.statement;
      waits = contains_from first (queued log) waiting.there.0;
      own_text = refl;
      none_open = none;
      spent = ap refusal.TimeSpent (sym is);
    })))
    none is
    (record {
      there = each_both (λ command. Has command (queued log)) (AreApart first) (λ command. Has command (queued (entry ∷ log)))
          (λ command here apart. has_left (λ x. not (is_queued_as first.session first.call x)) command (queued log) here (stays_queued first command apart))
          commands waiting.there.1 waiting.apart.0;
      apart = waiting.apart.1;
    })

-- each of a list is in it
all_there : (xs : List Queued) → Each (λ x. Has x xs) xs
all_there [] = tt
all_there (x ∷ xs) = (inl refl, each_of (λ y. Has y xs) (λ y. Has y (x ∷ xs)) (λ y h. inr h) xs (all_there xs))

-- a round is begun, or no time is left
begin_at_good : (log : Log) (now : ℕ) → Good log → open_round log ≡ None → Good (after (begin_at log now (next_time log now)).entries log)
begin_at_good log now good none =
    let time = next_time log now in
    given_either log (nat_le time greatest_round_time) _ _
    (λ e. event_good log (Begin (rounds log + 1) time) good (record {
      none_open = none;
      next_number = refl;
      later = omega arith;
      in_range = leb-true time greatest_round_time e;
    }))
    (λ e. spent_good (last_time log) (queued log) log good none refl (record { there = all_there (queued log); apart = queued_apart log good.legal }))

-- where none is open
begin_by : (log : Log) (now : ℕ) → Good log → (round : Option Round) → open_round log ≡ round → Good (after (begin_given log now round).entries log)
begin_by log now good None is = begin_at_good log now good is
begin_by log now good (Some round) is = good

pub begin_good : (log : Log) (now : ℕ) → Good log → Good (after (begin_given log now (open_round log)).entries log)
begin_good log now good = begin_by log now good (open_round log) refl

-- the open one is applied
finish_by : (log : Log) → Good log → (round : Option Round) → open_round log ≡ round → Good (after (finish_given log round).entries log)
finish_by log good None is = good
finish_by log good (Some round) is =
    event_good log (Apply round.time (replies_to (cluster_of log) (newest_state log) round.commands)) good
    (record { round = round; is_open = is; own_time = refl; own_replies = refl })

pub finish_good : (log : Log) → Good log → Good (after (finish_given log (open_round log)).entries log)
finish_good log good = finish_by log good (open_round log) refl
