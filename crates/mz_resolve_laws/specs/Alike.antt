-- When names stand for relations that differ in their plans alone.
use Rattle.std.specs.Prelude.{◌≡◌, Ok, Err}
use Rattle.mz_resolution.specs.declared.relation.Relation.{Relation}
use Rattle.mz_resolution.specs.Steps.{Step}

-- two steps give what is related, or meet one refusal
abbrev pub GivesAlike : {A : Type 0} → (A → A → Type 0) → Step A → Step A → Type 0
GivesAlike related (Ok one) (Ok other) = related one other
GivesAlike related (Err one) (Err other) = one ≡ other
GivesAlike related one other = ⊥

-- two relations have the same columns, and name as many tables
pub record AreAlike (one other : Relation) : Type 0 where
  pub columns : one.columns ≡ other.columns
  pub tables : one.tables ≡ other.tables
