-- The entries that rounds are given.
use Rattle.std.proofs.Common.{◌≡◌, ℕ, ◌+◌, Bool, true, false, List, [], ◌∷◌, Option, None, Some, Err, length, nat_le, refl, if◌then◌else◌}
use Rattle.std.proofs.lemmas.Bool.{true≢false}
use Rattle.std.specs.Result.{is_ok}
use Rattle.mz_log.specs.declared.entry.Entry.TheVariants.{Begin}
use Rattle.mz_log.specs.Log.{Log}
use Rattle.mz_books.specs.Entries.{Queued, after}
use Rattle.mz_books.specs.Given.{Begun, BeginRefusal, Given, NoTime, begin_given, finish_given, gives, next_time, spent}
use Rattle.mz_books.specs.Rounds.{Round, greatest_round_time, last_time, open_round, queued, rounds}
use Rattle.mz_books.specs.Sessions.{sessions}
use Rattle.mz_core.specs.Told.{finishing_given}

-- ---- a round that is begun

-- what is given where there is time, or else
abbrev at_time : Log → ℕ → ℕ → Bool → Given Begun BeginRefusal
at_time log now time in_range =
    if in_range
    then gives log (Begin (rounds log + 1) time) (record { round = rounds log + 1; time = time; commands = length (queued log) })
    else record { entries = spent (last_time log) (queued log); answer = Err (NoTime (last_time log) now) }

-- refused commands leave no round open where none was
spent_opens : (last : ℕ) (commands : List Queued) (log : Log) → open_round (after (spent last commands) log) ≡ open_round log
spent_opens last [] log = refl
spent_opens last (command ∷ commands) log = spent_opens last commands _

at_time_opens : (log : Log) (now time : ℕ) (in_range : Bool) → is_ok (at_time log now time in_range).answer ≡ false
    → open_round (after (at_time log now time in_range).entries log) ≡ open_round log
at_time_opens log now time true h = absurd (true≢false h)
at_time_opens log now time false h = spent_opens (last_time log) (queued log) log

-- where no round was begun, none is open that wasn't before
pub none_begun : (log : Log) (now : ℕ) (round : Option Round) → is_ok (begin_given log now round).answer ≡ false
    → open_round (after (begin_given log now round).entries log) ≡ open_round log
none_begun log now None h = at_time_opens log now (next_time log now) (nat_le (next_time log now) greatest_round_time) h
none_begun log now (Some round) h = refl

-- refused commands open no session
spent_names : (last : ℕ) (commands : List Queued) (log : Log) → sessions (after (spent last commands) log) ≡ sessions log
spent_names last [] log = refl
spent_names last (command ∷ commands) log = spent_names last commands _

at_time_names : (log : Log) (now time : ℕ) (in_range : Bool) → sessions (after (at_time log now time in_range).entries log) ≡ sessions log
at_time_names log now time true = refl
at_time_names log now time false = spent_names (last_time log) (queued log) log

-- no session is opened as a round is to begin
pub begin_opens : (log : Log) (now : ℕ) (round : Option Round) → sessions (after (begin_given log now round).entries log) ≡ sessions log
begin_opens log now None = at_time_names log now (next_time log now) (nat_le (next_time log now) greatest_round_time)
begin_opens log now (Some round) = refl

-- ---- a round that is applied

-- no session is opened as a round is applied
pub finish_opens : (log : Log) (round : Option Round) → sessions (after (finishing_given log round).entries log) ≡ sessions log
finish_opens log None = refl
finish_opens log (Some round) = refl

-- the same is given, whatever is told of it
pub same_given : (log : Log) (round : Option Round) → (finish_given log round).entries ≡ (finishing_given log round).entries
same_given log None = refl
same_given log (Some round) = refl
