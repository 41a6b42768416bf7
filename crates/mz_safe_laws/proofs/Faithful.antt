-- Each legal log keeps its streams faithful, entry by entry.
use Rattle.std.proofs.Common.{◌≡◌, ℕ, ◌+◌, Bool, false, not, List, ◌∷◌, ◌++◌, map, filter, refl}
use Rattle.std.specs.List.{AllByRecursion as Each}
use Rattle.std.proofs.lemmas.Bool.{not-true}
use Rattle.mz_plan.specs.declared.command.Command.{Command}
use Rattle.mz_plan.specs.declared.command.Command.TheVariants.{Peek}
use Rattle.mz_plan.specs.declared.command.PendingPeek.{PendingPeek}
use Rattle.mz_statement.specs.declared.statement.Statement.{Statement}
use Rattle.mz_rules.proofs.Each.{each_of}
use Rattle.mz_log.specs.declared.entry.Entry.{Entry}
use Rattle.mz_log.specs.declared.entry.Entry.TheVariants.{Read}
use Rattle.mz_log.specs.declared.stream.Stream.{Stream}
use Rattle.mz_log.specs.Log.{Log}
use Rattle.mz_books.specs.Collections.{collections}
use Rattle.mz_books.specs.Feeds.{feeds}
use Rattle.mz_books.specs.Holds.{peeks_made, pending}
use Rattle.mz_books.specs.Legal.{Legal}
use Rattle.mz_books.specs.Owed.{IsInTurn, owed}
use Rattle.mz_books.specs.Safe.{finishes_it}
use Rattle.mz_books.specs.Streams.{asking_lines, ending_lines, new_lines, streams, told_more}
use Rattle.mz_call_laws.proofs.Accepted.{made_is}
use Rattle.mz_call_laws.proofs.PendingCalls.{pending_rises, pending_within}
use Rattle.mz_safe_laws.proofs.PeekLines.{AreApart, Fits, are_apart, fits_append, new_lines_fit}
use Rattle.mz_safe_laws.proofs.PeekEnds.{asking_fits, ending_fits}
use Rattle.mz_safe_laws.proofs.Incarnations.{AreKnown, known_map}
use Rattle.mz_safe_laws.proofs.Bundles.{Bundle, bundle_fewer, bundle_more, bundle_owed, bundles_told}
use Rattle.mz_safe_laws.proofs.Reporting.{keeps_told, stays_owed}

-- what is kept of each stream of a log, once this is owed
abbrev pub IsFaithfulStream : Log → List Entry → Stream → Type 0
IsFaithfulStream log now s = Bundle (peeks_made log) (pending log) (feeds log) now s

-- what is kept of a log: of its streams by their names, and of what each says
pub record IsFaithful (log : Log) : Type 0 where
  pub known : AreKnown (streams log) (feeds log)
  pub bundles : Each (IsFaithfulStream log (owed log)) (streams log)

-- after an entry that finishes no peek, of what stands as it was before
pub untouched : (log : Log) (entry : Entry) → IsInTurn (owed log) entry → ((peek : ℕ) → finishes_it peek entry ≡ false) → IsFaithful log
    → Each (IsFaithfulStream log (owed (entry ∷ log))) (streams log)
untouched log entry turn none p =
    each_of (IsFaithfulStream log (owed log)) (IsFaithfulStream log (owed (entry ∷ log)))
    (bundle_owed (peeks_made log) (pending log) (feeds log) (owed log) (owed (entry ∷ log))
    (λ waiting. stays_owed log entry turn waiting (none waiting.peek))) (streams log) p.bundles

-- pending peeks are told apart
pub apart : (log : Log) → Legal log → AreApart (pending log)
apart log l = are_apart (pending log) (pending_rises log l)

-- an entry with lines for each replica, and no more peeks
pub told_faithful : (log : Log) (now : List Entry) (peeks : List PendingPeek) (made : ℕ) (lines : ℕ → List Command) → IsFaithful log
    → ((cluster : ℕ) → Fits made peeks (lines cluster)) → Each (Bundle made peeks (feeds log) now) (streams log)
    → AreKnown (map (told_more lines) (streams log)) (feeds log) × Each (Bundle made peeks (feeds log) now) (map (told_more lines) (streams log))
told_faithful log now peeks made lines p fit bundles = (
  known_map (told_more lines) (keeps_told lines) (streams log) (feeds log) p.known,
  bundles_told made peeks (feeds log) now lines fit (streams log) bundles,
)

-- an entry that ends some peeks, of which it may finish one
pub ended_faithful : (log : Log) (entry : Entry) (gone : PendingPeek → Bool) → Legal (entry ∷ log) → IsFaithful log
    → ((waiting : PendingPeek) → gone waiting ≡ false → finishes_it waiting.peek entry ≡ false)
    → AreKnown (map (told_more (ending_lines (collections log) (filter gone (pending log)))) (streams log)) (feeds log)
    × Each (Bundle (peeks_made log) (filter (λ waiting. not (gone waiting)) (pending log)) (feeds log) (owed (entry ∷ log)))
    (map (told_more (ending_lines (collections log) (filter gone (pending log)))) (streams log))
ended_faithful log entry gone l p other =
    let left : PendingPeek → Bool = λ waiting. not (gone waiting) in
    told_faithful log (owed (entry ∷ log)) (filter left (pending log)) (peeks_made log) (ending_lines (collections log) (filter gone (pending log))) p
    (λ cluster. ending_fits (peeks_made log) gone (collections log) (pending log) cluster (pending_within log l.0) (apart log l.0))
    (each_of (IsFaithfulStream log (owed log)) (Bundle (peeks_made log) (filter left (pending log)) (feeds log) (owed (entry ∷ log)))
    (bundle_fewer (peeks_made log) (pending log) (feeds log) (owed log) (owed (entry ∷ log)) left
    (λ waiting e. stays_owed log entry l.1.in_turn waiting (other waiting (not-true (gone waiting) e)))) (streams log) p.bundles)

-- a read asks for the next peek
pub read_faithful : (log : Log) (session call peek time : ℕ) (statement : Statement) (collection : ℕ)
    → Legal (Read session call peek time statement collection ∷ log) → IsFaithful log
    → IsFaithful (Read session call peek time statement collection ∷ log)
read_faithful log session call peek time statement collection l p =
    let entry = Read session call peek time statement collection in
    let longer : Log = entry ∷ log in
    let made = peeks_made log in
    let next : peek ≡ made + 1 = (made_is log session entry l.1.may).is.next_peek in
    let waiting : PendingPeek = record { peek = peek; session = session; call = call; collection = collection; time = time } in
    let new : ℕ → List Command = λ cluster. new_lines (collections log) (collections longer) cluster in
    let all = told_faithful log (owed longer) (pending longer) (made + 1)
    (λ cluster. new cluster ++ asking_lines (collections longer) (Peek peek collection time) collection cluster) p
    (λ cluster. fits_append (made + 1) (pending longer) (new cluster) (asking_lines (collections longer) (Peek peek collection time) collection cluster)
    (new_lines_fit (made + 1) (pending longer) (collections log) (collections longer) cluster)
    (asking_fits made (collections longer) waiting (pending log) cluster next (pending_within log l.0)))
    (each_of (IsFaithfulStream log (owed longer)) (Bundle (made + 1) (pending longer) (feeds log) (owed longer))
    (bundle_more made (pending log) (feeds log) (owed longer) waiting next) (streams log) (untouched log entry l.1.in_turn (λ k. refl) p)) in
    record { known = all.0; bundles = all.1 }
