-- Tests that are joined by one word: a list under a list of the same kind is one list with it.
use Rattle.std.specs.Prelude.{List, [], ◌∷◌}
use Rattle.std.specs.List.{flat_map}
use Rattle.mz_statement.specs.declared.condition.Test.{Test, out-Test}
use Rattle.mz_statement.specs.declared.condition.Test.TheOpen.{Test-F}
use Rattle.mz_statement.specs.declared.condition.Test.TheVariants as test

-- one layer of a test
abbrev pub Layer : Type 0
Layer = Test-F Test

-- the members of a list that is joined by AND, and else the test alone
abbrev pub conjuncts_at : Test → Layer → List Test
conjuncts_at whole (Test-F.All tests) = tests
conjuncts_at whole layer = whole ∷ []

unfoldable pub conjuncts : Test → List Test
conjuncts whole = conjuncts_at whole (out-Test whole)

-- the members of a list that is joined by OR, and else the test alone
abbrev pub disjuncts_at : Test → Layer → List Test
disjuncts_at whole (Test-F.Any tests) = tests
disjuncts_at whole layer = whole ∷ []

unfoldable pub disjuncts : Test → List Test
disjuncts whole = disjuncts_at whole (out-Test whole)

-- tests that are joined by AND: one stays as it is
abbrev pub all_of : List Test → Test
all_of (one ∷ []) = one
all_of tests = test.All (flat_map conjuncts tests)

-- tests that are joined by OR: one stays as it is
abbrev pub any_of : List Test → Test
any_of (one ∷ []) = one
any_of tests = test.Any (flat_map disjuncts tests)
