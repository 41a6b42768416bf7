-- What is due stays so when the entry before it comes.
use Rattle.std.proofs.Common.{◌≡◌, ℕ, ◌+◌, ◌==◌, false, not, List, [], ◌∷◌, ◌∙◌}
use Rattle.std.specs.List.{AllByRecursion as Each}
use Rattle.std.proofs.lemmas.Bool.{or_left}
use Rattle.std.proofs.lemmas.List.Folds.{list_any-append}
use Rattle.mz_bag.specs.Weighted.{Weighted}
use Rattle.mz_rules.proofs.Each.{each_filter}
use Rattle.mz_log.specs.declared.entry.Entry.{Entry}
use Rattle.mz_log.specs.declared.entry.Entry.TheVariants.{Finish, Acquire, Release}
use Rattle.mz_log.specs.Log.{Log}
use Rattle.mz_books.specs.Holds.{holds, is_peek, pending}
use Rattle.mz_books.specs.Owed.{peek_rows}
use Rattle.mz_books.specs.Safe.{finishes_it}
use Rattle.mz_event_laws.proofs.Due.{AreDue, releases_it}
use Rattle.mz_event_laws.proofs.Rising.{any_left, other_number}

-- when a hold is taken
pub after_acquire : (log : Log) (hold collection time next : ℕ) (later : List Entry) → AreDue log next later
    → AreDue (Acquire hold collection time ∷ log) next later
after_acquire log hold collection time next [] p = tt
after_acquire log hold collection time next (Acquire h c t ∷ later) p =
    (p.0, p.1, p.2, after_acquire log hold collection time (next + 1) later p.3)
after_acquire log hold collection time next (Finish peek rows ∷ later) p =
    (p.0, p.1, p.2, after_acquire log hold collection time next later p.3)
after_acquire log hold collection time next (Release h ∷ later) p = (
  list_any-append (λ live. live.number == h) (holds log) _ ∙ or_left _ _ p.0,
  p.1,
  after_acquire log hold collection time next later p.2,
)
after_acquire log hold collection time next (entry ∷ later) p = absurd p

-- when a peek is finished, and none of the others finishes it
pub after_finish : (log : Log) (peek : ℕ) (rows : Weighted) (next : ℕ) (later : List Entry)
    → Each (λ other. finishes_it peek other ≡ false) later → AreDue log next later → AreDue (Finish peek rows ∷ log) next later
after_finish log peek rows next [] once p = tt
after_finish log peek rows next (Acquire h c t ∷ later) once p =
    (p.0, p.1, p.2, after_finish log peek rows (next + 1) later once.1 p.3)
after_finish log peek rows next (Finish other own ∷ later) once p = (
  any_left (is_peek other) (λ waiting. not (is_peek peek waiting))
      (λ waiting is. other_number peek other waiting.peek once.0 is) (pending log) p.0,
  each_filter (λ waiting. waiting.peek ≡ other → own ≡ peek_rows log waiting) (λ waiting. not (is_peek peek waiting)) (pending log) p.1,
  p.2,
  after_finish log peek rows next later once.1 p.3,
)
after_finish log peek rows next (Release hold ∷ later) once p = (p.0, p.1, after_finish log peek rows next later once.1 p.2)
after_finish log peek rows next (entry ∷ later) once p = absurd p

-- when a hold is given back, and none of the others gives it back
pub after_release : (log : Log) (hold next : ℕ) (later : List Entry) → Each (λ other. releases_it hold other ≡ false) later
    → AreDue log next later → AreDue (Release hold ∷ log) next later
after_release log hold next [] once p = tt
after_release log hold next (Acquire h c t ∷ later) once p = (p.0, p.1, p.2, after_release log hold (next + 1) later once.1 p.3)
after_release log hold next (Finish peek rows ∷ later) once p = (p.0, p.1, p.2, after_release log hold next later once.1 p.3)
after_release log hold next (Release other ∷ later) once p = (
  any_left (λ live. live.number == other) (λ live. not (live.number == hold))
      (λ live is. other_number hold other live.number once.0 is) (holds log) p.0,
  p.1,
  after_release log hold next later once.1 p.2,
)
after_release log hold next (entry ∷ later) once p = absurd p
