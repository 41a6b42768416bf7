-- What is due: entries each of which may follow once those before it have come.
use Rattle.std.specs.Prelude.{◌≡◌, ℕ, ◌+◌, ◌==◌, ◌&&◌, Bool, true, false, List, [], ◌∷◌, ⊤}
use Rattle.std.specs.List.{AllByRecursion as Each, list_any}
use Rattle.mz_log.specs.declared.entry.Entry.{Entry}
use Rattle.mz_log.specs.declared.entry.Entry.TheVariants.{Finish, Acquire, Release}
use Rattle.mz_log.specs.Log.{Log}
use Rattle.mz_rules.specs.declared.capability.Collection.{Collection}
use Rattle.mz_books.specs.Rounds.{read_time}
use Rattle.mz_books.specs.Collections.{collections, is_in_catalog}
use Rattle.mz_books.specs.Holds.{is_peek, pending}
use Rattle.mz_books.specs.Legal.{IsLive}
use Rattle.mz_books.specs.Owed.{peek_rows}
use Rattle.mz_books.specs.Safe.{finishes_it}

-- the catalog has the collection of this number
abbrev pub IsThere : ℕ → List Collection → Type 0
IsThere number cs = list_any (λ c. (c.number == number) && is_in_catalog c) cs ≡ true

-- the entry gives back the hold
abbrev pub releases_it : ℕ → Entry → Bool
releases_it hold (Release other) = other == hold
releases_it hold entry = false

-- the peek of this number is pending
abbrev pub IsPending : Log → ℕ → Type 0
IsPending log peek = list_any (is_peek peek) (pending log) ≡ true

-- the entries are due, where the next hold has this number: holds on what is in the catalog, at the read time; finishes of pending
-- peeks with the rows that they wait for, and releases of live holds, each once
abbrev pub AreDue : Log → ℕ → List Entry → Type 0
AreDue log next [] = ⊤
AreDue log next (Acquire hold collection time ∷ later) =
    (hold ≡ next) × (time ≡ read_time log) × IsThere collection (collections log) × AreDue log (next + 1) later
AreDue log next (Finish peek rows ∷ later) =
    IsPending log peek × Each (λ waiting. waiting.peek ≡ peek → rows ≡ peek_rows log waiting) (pending log)
    × Each (λ other. finishes_it peek other ≡ false) later × AreDue log next later
AreDue log next (Release hold ∷ later) =
    IsLive log hold × Each (λ other. releases_it hold other ≡ false) later × AreDue log next later
AreDue log next (entry ∷ later) = ⊥
