-- Updates of leaves in order of time, taken one time after another.
use Rattle.std.specs.Prelude.{◌≡◌, ◌==◌, ℕ, suc, ⊤, false, List, [], ◌∷◌, Option, None, Some, if◌then◌else◌}
use Rattle.std.specs.List.{AllByRecursion as Each}
use Rattle.mz_bag.specs.Weighted.{Weighted}
use Rattle.mz_updates.specs.declared.update.Update.{Update}
use Rattle.mz_updates.specs.Consolidated.{IsConsolidated}
use Rattle.mz_updates.specs.Contents.{IsBefore, IsFrom, SameContents}
use Rattle.mz_ops.specs.Moments.{lesser, IsRun}
use Rattle.mz_ops.specs.Stepping.{IsToCome}
use Rattle.mz_dataflow.specs.Flow.{LeafUpdates}

-- the updates of leaves that are listed with their numbers. The others have none
abbrev pub updates_of : List (ℕ × List Update) → LeafUpdates
updates_of [] item = []
updates_of (q ∷ qs) item = if q.0 == item then q.1 else updates_of qs item

-- the place of the first list of a leaf, or how many lists there are
abbrev pub place_of : ℕ → List (ℕ × List Update) → ℕ
place_of leaf [] = 0
place_of leaf (q ∷ qs) = if q.0 == leaf then 0 else suc (place_of leaf qs)

-- no leaf is listed twice
abbrev pub AreListedOnce : List (ℕ × List Update) → Type 0
AreListedOnce [] = ⊤
AreListedOnce (q ∷ qs) = Each (λ r. (r.0 == q.0) ≡ false) qs × AreListedOnce qs

-- updates in order of time, each row of a time once
pub record IsInQueue (us vs : List Update) : Type 0 where
  pub contents : SameContents vs us
  pub once : IsConsolidated vs
  pub from : (lower : ℕ) → IsFrom lower us → IsFrom lower vs
  pub before : (upper : ℕ) → IsBefore upper us → IsBefore upper vs

-- so are those of each leaf
abbrev pub AreQueued : List (ℕ × List Update) → List (ℕ × List Update) → Type 0
AreQueued [] [] = ⊤
AreQueued (q ∷ qs) (r ∷ rs) = (r.0 ≡ q.0) × IsInQueue q.1 r.1 × AreQueued qs rs
AreQueued qs rs = ⊥

-- the time of the first update
abbrev pub begins : List Update → Option ℕ
begins [] = None
begins (u ∷ us) = Some u.time

-- the lesser of two times, where there are both
abbrev pub sooner : Option ℕ → Option ℕ → Option ℕ
sooner None other = other
sooner (Some time) None = Some time
sooner (Some time) (Some other) = Some (lesser time other)

-- the first time of all lists, which are in order of time
abbrev pub next_time : List (ℕ × List Update) → Option ℕ
next_time [] = None
next_time (q ∷ qs) = sooner (begins q.1) (next_time qs)

-- each list is to come: in order, from a time on and below another
abbrev pub AreToCome : ℕ → ℕ → List (ℕ × List Update) → Type 0
AreToCome lower upper qs = Each (λ q. IsToCome lower upper q.1) qs

-- what is at a time was taken from a leaf's list
pub record IsTaken (time : ℕ) (q : ℕ × List Update) (c : ℕ × Weighted) (r : ℕ × List Update) : Type 0 where
  pub number : c.0 ≡ q.0
  pub same : r.0 ≡ q.0
  pub run : IsRun time q.1 c.1 r.1

-- and from each
abbrev pub AreTaken : ℕ → List (ℕ × List Update) → List (ℕ × Weighted) → List (ℕ × List Update) → Type 0
AreTaken time [] [] [] = ⊤
AreTaken time (q ∷ qs) (c ∷ cs) (r ∷ rs) = IsTaken time q c r × AreTaken time qs cs rs
AreTaken time qs cs rs = ⊥
