-- The test of two tests says whether they are one, so it is an equivalence.
use Rattle.std.specs.Prelude.{◌≡◌, Bool, true, ◌&&◌, refl}
use Rattle.std.specs.Bool.{Decides, one_answer}
use Rattle.std.specs.Cmp.{IsEquivalence, unsigned_Decides, first_so, second_so}
use Rattle.std.proofs.Common.{sym, subst, ap}
use base.Stored.{Gv, gnil, gnum, gcons}
use Rattle.mz_statement.specs.declared.condition.Test.{Test}
use Rattle.mz_statement.specs.contracts.condition.Test.{the_row}
use Rattle.mz_statement.specs.Same.{same_test, same_code}

-- codes that the test tells to be one are one
one_code : (x y : Gv) → same_code x y ≡ true → x ≡ y
one_code gnil gnil h = refl
one_code (gnum n) (gnum m) h = ap gnum ((unsigned_Decides n m).0 h)
one_code (gcons a b) (gcons c d) h =
    λ i. gcons (one_code a c (first_so (same_code a c) (same_code b d) h) i) (one_code b d (second_so (same_code a c) (same_code b d) h) i)
one_code x y h = cc

-- a code is itself
own_code : (x : Gv) → same_code x x ≡ true
own_code gnil = refl
own_code (gnum n) = (unsigned_Decides n n).1 refl
own_code (gcons a b) = λ i. own_code a i && own_code b i

-- the test of two tests says whether they are one
pub same_test-Decides : (x y : Test) → Decides (same_test x y) (x ≡ y)
unfolding same_test
same_test-Decides x y = (
  λ h. the_row.coded.inj x y (one_code (the_row.coded.code x) (the_row.coded.code y) h),
  λ e. subst (λ z. same_code (the_row.coded.code x) (the_row.coded.code z) ≡ true) e (own_code (the_row.coded.code x)),
)

-- so it is an equivalence
pub same_test_equiv : IsEquivalence same_test
same_test_equiv = record {
  refl = λ x. (same_test-Decides x x).1 refl;
  symm = λ x y. one_answer (same_test x y) (same_test y x) (same_test-Decides x y) (λ h. sym ((same_test-Decides y x).0 h), λ e. (same_test-Decides y x).1 (sym e));
  congr = λ x y z h. ap (λ t. same_test t z) ((same_test-Decides x y).0 h);
}

-- and what says whether two tests are one answers as it does
pub same_test_decided : (x y : Test) (r : Bool) → Decides r (x ≡ y) → r ≡ same_test x y
same_test_decided x y r d = one_answer r (same_test x y) d (same_test-Decides x y)
