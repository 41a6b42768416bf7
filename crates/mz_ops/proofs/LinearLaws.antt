-- What adds up makes of a change the change of what it makes.
use Rattle.std.proofs.Common.{◌≡◌, ℕ, ◌+ℤ◌, List, Bool, ◌++◌, sym, ap, ◌∙◌, arith}
use Rattle.std.proofs.lemmas.Int.{ints}
use Rattle.std.specs.Bool.{⊤}
use Rattle.mz_value.specs.declared.datum.Datum.{Datum}
use Rattle.mz_bag.specs.Mass.{mass}
use Rattle.mz_bag.specs.Weighted.{Weighted, count}
use Rattle.mz_bag.proofs.BagLaws.{count-append}
use Rattle.mz_bag.proofs.MassLaws.{mass_append}
use Rattle.mz_plan.specs.Operators.{filtered, projected}
use Rattle.mz_plan_laws.specs.Alike.{IsLinear}
use Rattle.mz_plan_laws.proofs.Bounds.{mass_filtered, mass_projected}
use Rattle.mz_ops.specs.Change.{IsChange, IsWithin}
use Rattle.mz_ops.specs.Laws.{sum_load}

-- of the left side alone
pub linear_change : (operator : Weighted → Weighted) (left right out : Weighted) → IsLinear operator → out ≡ operator left
    → IsChange (λ ls rs. operator ls) (λ ls rs. ⊤) (λ ls rs. ⊤) left right out
linear_change operator left right out linear is = record {
  stands = λ ls rs s. s;
  gives = λ ls rs s q. linear.adds ls left q ∙ sym (count-append q (operator ls) (operator left))
      ∙ ap (λ ws. count q (operator ls ++ ws)) (sym is);
}

-- and of both
pub union_change : (left right out : Weighted) → out ≡ left ++ right → IsChange (λ ls rs. ls ++ rs) (λ ls rs. ⊤) (λ ls rs. ⊤) left right out
union_change left right out is = record {
  stands = λ ls rs s. s;
  gives = λ ls rs s q.
      let made : count q out ≡ count q left +ℤ count q right = ap (count q) is ∙ count-append q left right in
      omega (
        arith,
        ints,
        made,
        count-append q (ls ++ left) (rs ++ right),
        count-append q ls left,
        count-append q rs right,
        count-append q (ls ++ rs) out,
        count-append q ls rs,
      );
}

-- ---- what they weigh

pub filter_within : (keeps : List Datum → Bool) (left right out : Weighted) → out ≡ filtered keeps left
    → IsWithin (λ ls rs. ⊤) sum_load left right out
filter_within keeps left right out is = record { most = λ ls rs s. omega (arith, ap mass is, mass_filtered keeps left) }

pub projection_within : (places : List ℕ) (left right out : Weighted) → out ≡ projected places left
    → IsWithin (λ ls rs. ⊤) sum_load left right out
projection_within places left right out is = record { most = λ ls rs s. omega (arith, ap mass is, mass_projected places left) }

pub union_within : (left right out : Weighted) → out ≡ left ++ right → IsWithin (λ ls rs. ⊤) sum_load left right out
union_within left right out is = record { most = λ ls rs s. omega (arith, ap mass is, mass_append left right) }
