-- Each legal log keeps all of it, entry by entry.
use Rattle.std.specs.Prelude.{bytes_eq}
use Rattle.std.proofs.Common.{◌≡◌, ℕ, ◌+◌, ◌≤◌, ◌==◌, ◌&&◌, Bool, true, false, List, [], ◌∷◌, ◌++◌, map, take, find, filter, Some, inl, inr, refl, sym, subst, arith}
use Rattle.std.specs.List.{AllByRecursion as Each, list_any}
use Rattle.std.proofs.lemmas.Bool.{and_parts, cond_both, eqb-true, false≢true, or_cases}
use Rattle.mz_time.specs.Frontier.{Le}
use Rattle.mz_time.specs.declared.frontier.Frontier.{Frontier}
use Rattle.mz_time.specs.declared.frontier.Frontier.TheVariants.{At, Done}
use Rattle.mz_time.proofs.FrontierLemmas.{Le-refl, Le-trans}
use Rattle.mz_plan.specs.declared.command.Command.{Command}
use Rattle.mz_plan.specs.declared.command.Command.TheVariants.{Peek}
use Rattle.mz_rules.specs.Frontiers.{IsWithin}
use Rattle.mz_rules.specs.Joining.{allowances, is_table, joining}
use Rattle.mz_rules.specs.declared.capability.Settled.{Settled}
use Rattle.mz_rules.proofs.Each.{each_of, each_one, each_map, each_take}
use Rattle.mz_log.specs.declared.entry.Entry.{Entry}
use Rattle.mz_log.specs.declared.entry.Entry.TheVariants.{Apply, Read, Finish, Instant, Cancel, Acquire, Down, Release, Fed, Absorbed, Join, Crash}
use Rattle.mz_log.specs.declared.stream.Report.{Report}
use Rattle.mz_log.specs.declared.stream.Stream.{Stream}
use Rattle.mz_log.specs.Log.{Log}
use Rattle.mz_books.specs.Rounds.{read_time}
use Rattle.mz_books.specs.Collections.{collections}
use Rattle.mz_books.specs.Holds.{is_of_call, is_peek, pending}
use Rattle.mz_books.specs.Since.{kept, settled, since}
use Rattle.mz_books.specs.Streams.{asking_lines, crashed, ending_lines, fed, is_stream, joining_stream, lines_in, new_lines, newer_report, reporting, stream_of, streams, told_more}
use Rattle.mz_books.specs.Feeds.{MadeFeed, feeds, greatest_table, is_feed, or_since}
use Rattle.mz_books.specs.Legal.{Legal, MayFeed}
use Rattle.mz_laws.proofs.Accepted.{entry_made}
use Rattle.mz_safe_laws.proofs.Onward.{GoesOn, goes_on}
use Rattle.mz_safe_laws.proofs.Moves.{stays}
use Rattle.mz_safe_laws.proofs.Entries.{CoreOf, GoesTo, absorbed_goes, acquire_goes, apply_goes, cancel_goes, down_goes, finish_goes, release_goes}
use Rattle.mz_call_laws.proofs.Times.{round_later}
use Rattle.mz_safe_laws.proofs.Called.{call_goes}
use Rattle.mz_safe_laws.proofs.Spoken.{SaysWell, IsEarly, allowances_well, asking_well, core_within, ending_well, frontiers_timely, joining_well, new_lines_well, well_append, well_later}

-- a stream says nothing past the sinces and the read time
abbrev pub IsWell : Log → Stream → Type 0
IsWell log s = SaysWell (since log) (read_time log) s.commands

-- what is kept of a log: its collections and capabilities, what streams say, and how far feeds went
pub record Sound (log : Log) : Type 0 where
  pub core : CoreOf log
  pub said : Each (IsWell log) (streams log)
  pub fed_within : Each (λ f. f.to ≤ read_time log) (feeds log)

-- what a feed brings a replica to is at most one round ahead
ready_early : (read : ℕ) (r : List ℕ) (i taken ready : ℕ) (fs : List MadeFeed) → Each (λ f. f.to ≤ read) fs
    → list_any (is_feed r i taken ready) fs ≡ true → ready ≤ read + 1
ready_early read r i taken ready [] p e = absurd (false≢true e)
ready_early read r i taken ready (f ∷ fs) p e = elim (or_cases (is_feed r i taken ready f) (list_any (is_feed r i taken ready) fs) e) [
  | inl own ↦
      let tail = (and_parts (bytes_eq f.replica r && (f.incarnation == i)) ((f.taken == taken) && (f.to + 1 == ready)) own).1 in
      omega (arith, p.0, eqb-true (f.to + 1) ready (and_parts (f.taken == taken) (f.to + 1 == ready) tail).1)
  | inr later ↦ ready_early read r i taken ready fs p.1 later
]

-- the lines of an incarnation
found_well : (log : Log) (test : Stream → Bool) (ss : List Stream) → Each (IsWell log) ss
    → SaysWell (since log) (read_time log) (lines_in (find test ss))
found_well log test [] p = record { said = tt; early = tt }
found_well log test (s ∷ ss) p =
    cond_both (test s) (Some s) (find test ss) (λ o. SaysWell (since log) (read_time log) (lines_in o)) (λ e. p.0)
    (λ e. found_well log test ss p.1)

-- what each entry does to collections and capabilities. One that isn't named leaves them
follows : (log : Log) (entry : Entry) → Legal (entry ∷ log) → Sound log → GoesTo log (entry ∷ log)
follows log (Apply time replies) l s = apply_goes log time replies s.core (round_later log time replies l)
follows log (Read session call peek time statement collection) l s =
    call_goes log session (Read session call peek time statement collection) s.core
    (entry_made log session (Read session call peek time statement collection) l.1.may)
follows log (Instant session call statement time) l s =
    call_goes log session (Instant session call statement time) s.core (entry_made log session (Instant session call statement time) l.1.may)
follows log (Finish peek rows) l s = finish_goes log peek rows s.core
follows log (Cancel session call) l s = cancel_goes log session call s.core
follows log (Acquire hold collection time) l s = acquire_goes log hold collection time s.core l.1.may
follows log (Down hold time) l s = down_goes log hold time s.core l.1.may
follows log (Release hold) l s = release_goes log hold s.core
follows log (Absorbed r i turn taken ready fs) l s =
    let lines : List Command = take taken (stream_of log r i) in
    absorbed_goes log r i turn taken ready fs s.core (subst (Each (λ f. f.1 ≤ read_time log + 1)) (sym l.1.may.own_frontiers)
    (frontiers_timely (read_time log) ready lines lines (ready_early (read_time log) r i taken ready (feeds log) s.fed_within l.1.may.of_feed)
    (each_take (IsEarly (read_time log)) taken (stream_of log r i) (found_well log (is_stream r i) (streams log) s.said).early)))
follows log entry l s = stays (read_time log) (collections log) (kept log) s.core

-- so no since falls, and the core is kept
abbrev pub Goes : Log → Log → Type 0
Goes log longer = GoesOn (read_time log) (collections log) (kept log) (read_time longer) (collections longer) (kept longer)

pub goes : (log : Log) (entry : Entry) → Legal (entry ∷ log) → Sound log → Goes log (entry ∷ log)
goes log entry l s =
    goes_on (read_time log) (collections log) (kept log) (read_time (entry ∷ log)) (collections (entry ∷ log)) (kept (entry ∷ log)) s.core
    (follows log entry l s)

-- further lines
told_well : (log : Log) (lines : ℕ → List Command) → ((cluster : ℕ) → SaysWell (since log) (read_time log) (lines cluster)) → (ss : List Stream)
    → Each (IsWell log) ss → Each (IsWell log) (map (told_more lines) ss)
told_well log lines well ss p =
    each_map (IsWell log) (IsWell log) (told_more lines)
    (λ s q. cond_both s.live (record s { commands = s.commands ++ lines s.cluster }) s (IsWell log)
    (λ e. well_append (since log) (read_time log) s.commands (lines s.cluster) q (well s.cluster)) (λ e. q)) ss p

-- what streams say then
said_then : (log : Log) (entry : Entry) → CoreOf (entry ∷ log) → Each (IsWell (entry ∷ log)) (streams log)
    → Each (IsWell (entry ∷ log)) (streams (entry ∷ log))
said_then log (Apply time replies) core p =
    let longer : Log = Apply time replies ∷ log in
    told_well longer (new_lines (collections log) (collections longer))
    (λ cluster. new_lines_well time (collections log) (collections longer) (kept longer) cluster core) (streams log) p
said_then log (Read session call peek time statement collection) core p =
    let longer : Log = Read session call peek time statement collection ∷ log in
    told_well longer (λ cluster. new_lines (collections log) (collections longer) cluster
    ++ asking_lines (collections longer) (Peek peek collection time) collection cluster)
    (λ cluster. well_append (since longer) (read_time log) (new_lines (collections log) (collections longer) cluster)
    (asking_lines (collections longer) (Peek peek collection time) collection cluster)
    (new_lines_well (read_time log) (collections log) (collections longer) (kept longer) cluster core)
    (asking_well (since longer) (read_time log) (collections longer) peek collection time cluster)) (streams log) p
said_then log (Finish peek rows) core p =
    told_well (Finish peek rows ∷ log) (ending_lines (collections log) (filter (is_peek peek) (pending log)))
    (λ cluster. ending_well (since (Finish peek rows ∷ log)) (read_time log) (collections log) (filter (is_peek peek) (pending log)) cluster)
    (streams log) p
said_then log (Cancel session call) core p =
    told_well (Cancel session call ∷ log) (ending_lines (collections log) (filter (is_of_call session call) (pending log)))
    (λ cluster. ending_well (since (Cancel session call ∷ log)) (read_time log) (collections log) (filter (is_of_call session call) (pending log)) cluster)
    (streams log) p
said_then log (Fed r i taken to) core p =
    each_map (IsWell log) (IsWell log) (fed r i (settled log))
    (λ s q. cond_both (is_stream r i s) (record s { commands = s.commands ++ allowances (settled log) s.commands }) s (IsWell log)
    (λ e. well_append (since log) (read_time log) s.commands (allowances (settled log) s.commands) q
    (allowances_well (settled log) (read_time log) s.commands)) (λ e. q)) (streams log) p
said_then log (Absorbed r i turn taken ready fs) core p =
    let longer : Log = Absorbed r i turn taken ready fs ∷ log in
    let new : Report = record { turn = turn; taken = taken; ready = ready } in
    each_map (IsWell longer) (IsWell longer) (reporting r i new)
    (λ s q. cond_both (s.live && is_stream r i s) (record s { report = newer_report new s.report }) s (IsWell longer) (λ e. q) (λ e. q))
    (streams log) p
said_then log (Join r i cluster) core p =
    each_one (IsWell log) (streams log) (joining_stream r i cluster (joining cluster (settled log) (pending log))) p
    (joining_well (read_time log) cluster (collections log) (kept log) (pending log) core)
said_then log (Crash r) core p =
    each_map (IsWell log) (IsWell log) (crashed r)
    (λ s q. cond_both (bytes_eq s.replica r) (record s { live = false }) s (IsWell log) (λ e. q) (λ e. q)) (streams log) p
said_then log entry core p = p

-- a feed goes no further than the read time
or_since_within : (bound : ℕ) (table : Bool) (f : Frontier) (time : ℕ) → IsWithin bound f → time ≤ bound → or_since table f time ≤ bound
or_since_within bound true (At t) time p h = omega arith
or_since_within bound true Done time p h = h
or_since_within bound false (At t) time p h = h
or_since_within bound false Done time p h = h

table_within : (bound : ℕ) (ss : List Settled) → Each (λ s. IsWithin bound s.since) ss → greatest_table ss ≤ bound
table_within bound [] p = omega arith
table_within bound (s ∷ ss) p =
    or_since_within bound (is_table s.collection.kind) s.since (greatest_table ss) p.0 (table_within bound ss p.1)

pub to_readable : (log : Log) (r : List ℕ) (i taken to : ℕ) → CoreOf log → MayFeed log r i taken to → to ≤ read_time log
to_readable log r i taken to core may =
    let tables = table_within (read_time log) (settled log) (core_within (read_time log) (collections log) (kept log) core) in
    omega (arith, may.own_to, may.asked_readable, may.ready_before, tables)

fed_then : (log : Log) (entry : Entry) → Legal (entry ∷ log) → CoreOf log → Each (λ f. f.to ≤ read_time (entry ∷ log)) (feeds log)
    → Each (λ f. f.to ≤ read_time (entry ∷ log)) (feeds (entry ∷ log))
fed_then log (Fed r i taken to) l core p = (to_readable log r i taken to core l.1.may, p)
fed_then log entry l core p = p

-- what is kept of a longer log
sound_then : (log : Log) (entry : Entry) → Legal (entry ∷ log) → Sound log → Sound (entry ∷ log)
sound_then log entry l s =
    let g = goes log entry l s in
    let still = each_of (IsWell log) (IsWell (entry ∷ log))
    (λ x q. well_later (since log) (since (entry ∷ log)) (read_time log) (read_time (entry ∷ log)) g.rises g.read_rises x.commands q)
    (streams log) s.said in
    record {
      core = g.core;
      said = said_then log entry g.core still;
      fed_within = fed_then log entry l s.core (each_of (λ f. f.to ≤ read_time log) (λ f. f.to ≤ read_time (entry ∷ log))
          (λ f q. omega (arith, q, g.read_rises)) (feeds log) s.fed_within);
    }

-- and of the log in which nothing has happened
sound_opening : Sound []
sound_opening = record {
  core = record {
    numbered = (refl, tt);
    placed = tt;
    timely = (record { created = omega arith; kept = omega arith; come = omega arith; fair = record { low = omega arith; high = omega arith }; older = tt }, tt);
    from_as_of = (omega arith, tt);
  };
  said = (record { said = tt; early = tt }, tt);
  fed_within = tt;
}

pub sound : (log : Log) → Legal log → Sound log
sound [] l = sound_opening
sound (entry ∷ log) l = sound_then log entry l (sound log l.0)

-- no since falls as a legal log grows
pub sinces_rise : (log later : Log) → Legal (later ++ log) → (number : ℕ) → Le (since log number) (since (later ++ log) number)
sinces_rise log [] l number = Le-refl (since log number)
sinces_rise log (entry ∷ later) l number =
    Le-trans (since log number) (since (later ++ log) number) (since (entry ∷ (later ++ log)) number) (sinces_rise log later l.0 number)
    ((goes (later ++ log) entry l (sound (later ++ log) l.0)).rises number)
