-- What can be taken back: a value as it is now, and as it was at a mark.

-- a value now, and at the mark
pub record Twice (A : Type 0) : Type 0 where
  pub present : A
  pub marked : A
