-- What can be taken back: a value as it is now, and as it was at a mark.
use Rattle.std.specs.Prelude.{refl}
use Rattle.std.specs.Coded.{Coded, code_by, coded×}

-- a value now, and at the mark
pub record Twice (A : Type 0) : Type 0 where
  pub present : A
  pub marked : A

-- both written out, one after the other
abbrev pub twice_code : {A : Type 0} → Coded A → Coded (Twice A)
twice_code {A} code =
    code_by (A × A) (coded× code code) (λ t. (t.present, t.marked)) (λ p. record { present = p.0; marked = p.1 }) (λ _. refl)
