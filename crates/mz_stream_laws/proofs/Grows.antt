-- The stream of an incarnation only grows: that of a longer log begins with it.
use Rattle.std.specs.Prelude.{bytes_eq}
use Rattle.std.proofs.Common.{◌≡◌, ℕ, ◌&&◌, false, List, [], ◌∷◌, ◌++◌, length, filter, find, map, take, inl, inr, refl, sym, ap, ◌∙◌, subst, arith}
use Rattle.std.proofs.lemmas.Bool.{cases_Bool, cond-false, cond-true, cond_both}
use Rattle.std.proofs.lemmas.List.{append-nil, append_assoc, take-append-le}
use Rattle.std.proofs.Math.Seq.{take-length}
use Rattle.mz_plan.specs.declared.command.Command.{Command}
use Rattle.mz_plan.specs.declared.command.Command.TheVariants.{Peek}
use Rattle.mz_rules.specs.Joining.{allowances}
use Rattle.mz_rules.specs.declared.capability.Settled.{Settled}
use Rattle.mz_log.specs.declared.entry.Entry.{Entry}
use Rattle.mz_log.specs.declared.entry.Entry.TheVariants.{Apply, Read, Finish, Cancel, Fed, Absorbed, Join, Crash}
use Rattle.mz_log.specs.declared.stream.Report.{Report}
use Rattle.mz_log.specs.declared.stream.Stream.{Stream}
use Rattle.mz_log.specs.Log.{Log}
use Rattle.mz_books.specs.Collections.{collections}
use Rattle.mz_books.specs.Holds.{is_of_call, is_peek, pending}
use Rattle.mz_books.specs.Since.{settled}
use Rattle.mz_books.specs.Streams.{asking_lines, crashed, ending_lines, fed, is_stream, lines_in, new_lines, newer_report, reporting, stream_of, streams, told_more}
use Rattle.mz_safe_laws.proofs.Incarnations.{KeepsNames, same_name}
use Rattle.mz_safe_laws.proofs.Reporting.{keeps_crashed, keeps_fed, keeps_reporting, keeps_told}
use Rattle.mz_stream_laws.specs.Begins.{BeginsWith}

-- lines begin with themselves
begins_self : (lines : List Command) → BeginsWith lines lines
begins_self lines = record { more = []; goes_on = sym (append-nil lines) }

-- two steps
begins_twice : (xs ys zs : List Command) → BeginsWith xs ys → BeginsWith ys zs → BeginsWith xs zs
begins_twice xs ys zs p q = record {
  more = p.more ++ q.more;
  goes_on = q.goes_on ∙ (ap (λ lines. lines ++ q.more) p.goes_on ∙ append_assoc xs p.more q.more);
}

-- ---- streams

-- the lines of an incarnation among some streams begin with those that it has among others
abbrev GrowsIn : List ℕ → ℕ → List Stream → List Stream → Type 0
GrowsIn replica incarnation ss ts =
    BeginsWith (lines_in (find (is_stream replica incarnation) ss)) (lines_in (find (is_stream replica incarnation) ts))

-- what is done to each stream only adds
grows_map : (f : Stream → Stream) → KeepsNames f → ((s : Stream) → BeginsWith s.commands (f s).commands) → (replica : List ℕ) (incarnation : ℕ)
    (ss : List Stream) → GrowsIn replica incarnation ss (map f ss)
grows_map f keeps longer replica incarnation [] = begins_self []
grows_map f keeps longer replica incarnation (s ∷ ss) =
    let later : List Command = lines_in (find (is_stream replica incarnation) (map f (s ∷ ss))) in
    let named = same_name f keeps replica incarnation s in
    elim (cases_Bool (is_stream replica incarnation s)) [
      | inl mine ↦ subst (λ o. BeginsWith (lines_in o) later) (sym (cond-true _ _ _ mine))
          (subst (λ o. BeginsWith s.commands (lines_in o)) (sym (cond-true _ _ _ (named ∙ mine))) (longer s))
      | inr other ↦ subst (λ o. BeginsWith (lines_in o) later) (sym (cond-false _ _ _ other))
          (subst (λ o. BeginsWith (lines_in (find (is_stream replica incarnation) ss)) (lines_in o)) (sym (cond-false _ _ _ (named ∙ other)))
          (grows_map f keeps longer replica incarnation ss))
    ]

-- and a stream more changes none that is there
grows_more : (new : Stream) (replica : List ℕ) (incarnation : ℕ) (ss : List Stream) → GrowsIn replica incarnation ss (ss ++ new ∷ [])
grows_more new replica incarnation [] = record { more = lines_in (find (is_stream replica incarnation) (new ∷ [])); goes_on = refl }
grows_more new replica incarnation (s ∷ ss) =
    let later : List Command = lines_in (find (is_stream replica incarnation) (s ∷ (ss ++ new ∷ []))) in
    elim (cases_Bool (is_stream replica incarnation s)) [
      | inl mine ↦ subst (λ o. BeginsWith (lines_in o) later) (sym (cond-true _ _ _ mine))
          (subst (λ o. BeginsWith s.commands (lines_in o)) (sym (cond-true _ _ _ mine)) (begins_self s.commands))
      | inr other ↦ subst (λ o. BeginsWith (lines_in o) later) (sym (cond-false _ _ _ other))
          (subst (λ o. BeginsWith (lines_in (find (is_stream replica incarnation) ss)) (lines_in o)) (sym (cond-false _ _ _ other))
          (grows_more new replica incarnation ss))
    ]

-- further lines for live streams
grows_told : (lines : ℕ → List Command) (replica : List ℕ) (incarnation : ℕ) (ss : List Stream) → GrowsIn replica incarnation ss (map (told_more lines) ss)
grows_told lines =
    grows_map (told_more lines) (keeps_told lines)
    (λ s. cond_both s.live (record s { commands = s.commands ++ lines s.cluster }) s (λ x. BeginsWith s.commands x.commands)
    (λ e. record { more = lines s.cluster; goes_on = refl }) (λ e. begins_self s.commands))

-- a feed
grows_fed : (r : List ℕ) (i : ℕ) (settled : List Settled) (replica : List ℕ) (incarnation : ℕ) (ss : List Stream)
    → GrowsIn replica incarnation ss (map (fed r i settled) ss)
grows_fed r i settled =
    grows_map (fed r i settled) (keeps_fed r i settled)
    (λ s. cond_both (is_stream r i s) (record s { commands = s.commands ++ allowances settled s.commands }) s (λ x. BeginsWith s.commands x.commands)
    (λ e. record { more = allowances settled s.commands; goes_on = refl }) (λ e. begins_self s.commands))

-- ---- logs

-- an entry
grows_then : (log : Log) (entry : Entry) (replica : List ℕ) (incarnation : ℕ)
    → BeginsWith (stream_of log replica incarnation) (stream_of (entry ∷ log) replica incarnation)
grows_then log (Apply time replies) replica incarnation =
    grows_told (new_lines (collections log) (collections (Apply time replies ∷ log))) replica incarnation (streams log)
grows_then log (Read session call peek time statement collection) replica incarnation =
    grows_told (λ cluster. new_lines (collections log) (collections (Read session call peek time statement collection ∷ log)) cluster
    ++ asking_lines (collections (Read session call peek time statement collection ∷ log)) (Peek peek collection time) collection cluster)
    replica incarnation (streams log)
grows_then log (Finish peek rows) replica incarnation =
    grows_told (ending_lines (collections log) (filter (is_peek peek) (pending log))) replica incarnation (streams log)
grows_then log (Cancel session call) replica incarnation =
    grows_told (ending_lines (collections log) (filter (is_of_call session call) (pending log))) replica incarnation (streams log)
grows_then log (Fed r i taken to) replica incarnation = grows_fed r i (settled log) replica incarnation (streams log)
grows_then log (Absorbed r i turn taken ready frontiers) replica incarnation =
    let new : Report = record { turn = turn; taken = taken; ready = ready } in
    grows_map (reporting r i new) (keeps_reporting r i new)
    (λ s. cond_both (s.live && is_stream r i s) (record s { report = newer_report new s.report }) s (λ x. BeginsWith s.commands x.commands)
    (λ e. begins_self s.commands) (λ e. begins_self s.commands)) replica incarnation (streams log)
grows_then log (Join r i cluster) replica incarnation = grows_more _ replica incarnation (streams log)
grows_then log (Crash r) replica incarnation =
    grows_map (crashed r) (keeps_crashed r)
    (λ s. cond_both (bytes_eq s.replica r) (record s { live = false }) s (λ x. BeginsWith s.commands x.commands)
    (λ e. begins_self s.commands) (λ e. begins_self s.commands)) replica incarnation (streams log)
grows_then log entry replica incarnation = begins_self (stream_of log replica incarnation)

-- so streams only grow
pub streams_grow : (log later : Log) (replica : List ℕ) (incarnation : ℕ)
    → BeginsWith (stream_of log replica incarnation) (stream_of (later ++ log) replica incarnation)
streams_grow log [] replica incarnation = begins_self (stream_of log replica incarnation)
streams_grow log (entry ∷ later) replica incarnation =
    begins_twice (stream_of log replica incarnation) (stream_of (later ++ log) replica incarnation)
    (stream_of (entry ∷ (later ++ log)) replica incarnation) (streams_grow log later replica incarnation)
    (grows_then (later ++ log) entry replica incarnation)

-- and the first lines stay
pub first_stay : (log later : Log) (replica : List ℕ) (incarnation : ℕ)
    → take (length (stream_of log replica incarnation)) (stream_of (later ++ log) replica incarnation) ≡ stream_of log replica incarnation
first_stay log later replica incarnation =
    let own = stream_of log replica incarnation in
    let grows = streams_grow log later replica incarnation in
    ap (take (length own)) grows.goes_on ∙ take-append-le (length own) own grows.more (omega arith) ∙ take-length own
