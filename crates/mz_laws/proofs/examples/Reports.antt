-- Which report of a replica counts.
use Rattle.std.proofs.Common.{◌≡◌, ℕ, [], ◌∷◌, List, Option, None, Some, codes, map, refl}
use Rattle.mz_log.specs.declared.entry.Entry.{Entry}
use Rattle.mz_log.specs.declared.entry.Entry.TheVariants.{Absorbed, Crash, Join}
use Rattle.mz_log.specs.declared.stream.Report.{Report}
use Rattle.mz_log.specs.Log.{Log}
use Rattle.mz_books.specs.Streams.{streams}

-- a packet of r1's first incarnation after so many turns, ready for a time
abbrev told_by : ℕ → ℕ → Entry
told_by turn ready = Absorbed (codes "r1") 1 turn 0 ready []

-- such a report
abbrev report : ℕ → ℕ → Report
report turn ready = record { turn = turn; taken = 0; ready = ready }

-- the reports that count, one for each incarnation
abbrev reports : Log → List (Option Report)
reports log = map (λ s. s.report) (streams log)

-- the first one counts
first_counts : reports (told_by 2 3 ∷ []) ≡ Some (report 2 3) ∷ []
first_counts = refl

-- one of a later turn takes its place
later_replaces : reports (told_by 3 5 ∷ told_by 2 3 ∷ []) ≡ Some (report 3 5) ∷ []
later_replaces = refl

-- one that comes late doesn't, nor does one that is ready for less
late_stays : (reports (told_by 1 2 ∷ told_by 2 3 ∷ []) ≡ Some (report 2 3) ∷ []) × (reports (told_by 3 2 ∷ told_by 2 3 ∷ []) ≡ Some (report 2 3) ∷ [])
late_stays = (refl, refl)

-- a replica that was lost and joined again has none yet, and packets of the lost incarnation don't give it one
pub joins_without : reports (told_by 4 9 ∷ Join (codes "r1") 2 0 ∷ Crash (codes "r1") ∷ told_by 2 3 ∷ []) ≡ Some (report 2 3) ∷ None ∷ []
joins_without = refl
