-- What callers see of a reader or a writer of std that stands for a source or a sink.
use Rattle.std.specs.Prelude.{ℕ, List}
use Rattle.std.specs.declared.option.Option.{Option}

-- a source over a reader
pub record Reader : Type 0 where
  -- the bytes that the reader has left, where it can tell
  pub left : Option (List ℕ)
  -- the errors that the reader gave
  pub faults : ℕ

-- a sink over a writer
pub record Writer : Type 0 where
  -- the bytes that the writer holds, where it can tell
  pub written : Option (List ℕ)
  -- the errors that the writer gave, and the pieces of which it took nothing
  pub faults : ℕ
