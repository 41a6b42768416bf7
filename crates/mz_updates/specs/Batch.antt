-- What a batch of a table is.
use Rattle.std.specs.Prelude.{◌≡◌, ℕ, ◌+◌, ◌-◌, ◌≤◌, ◌+ℤ◌, nat_le, Bool, true, false, List}
use Rattle.mz_value.specs.declared.datum.Datum.{Datum}
use Rattle.mz_bag.specs.Bag.{Counts, count_in}
use Rattle.mz_bag.specs.Weighted.{count, bag_of}
use Rattle.mz_updates.specs.declared.batch.Batch.{Batch}
use Rattle.mz_updates.specs.declared.update.Update.{Update}
use Rattle.mz_updates.specs.Consolidated.{IsConsolidated}
use Rattle.mz_updates.specs.Contents.{contents, changes, IsBefore, IsFrom}

-- updates that have, at each time from the first to the last, what changes in the table then, and no other times
pub record AreChanges (table : ℕ → Counts) (first last : ℕ) (us : List Update) : Type 0 where
  pub from : IsFrom first us
  pub before : IsBefore (last + 1) us
  pub change : (t : ℕ) (row : List Datum) → first ≤ t → t ≤ last
      → count_in (table t) row ≡ count_in (table (t - 1)) row +ℤ count row (changes t us)

-- updates at times from the first to the last, whose contents at each of them are the table's
pub record AreContents (table : ℕ → Counts) (first last : ℕ) (us : List Update) : Type 0 where
  pub from : IsFrom first us
  pub before : IsBefore (last + 1) us
  pub contain : (t : ℕ) → first ≤ t → t ≤ last → bag_of (contents t us) ≡ table t

-- what a batch has: the whole table from its since on, or what changed from `ready` on
abbrev pub IsPart : (ℕ → Counts) → ℕ → ℕ → ℕ → Bool → List Update → Type 0
IsPart table oldest ready last true us = AreContents table oldest last us
IsPart table oldest ready last false us = AreChanges table ready last us

-- the batch of a table that is readable from `oldest` on, up to `last`, for one who has no contents of it from `ready` on:
-- it is whole exactly where that one lacks the contents at `oldest`
pub record IsBatch (table : ℕ → Counts) (oldest ready last : ℕ) (batch : Batch) : Type 0 where
  pub lower : batch.lower ≡ ready
  pub to : batch.to ≡ last
  pub since : batch.since ≡ oldest
  pub whole : batch.whole ≡ nat_le ready oldest
  pub consolidated : IsConsolidated batch.updates
  pub part : IsPart table oldest ready last batch.whole batch.updates
