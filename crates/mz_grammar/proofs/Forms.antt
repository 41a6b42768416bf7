-- Forms of a test, and the members of each.
use Rattle.std.proofs.Common.{◌≡◌, refl, sym, subst, ap, Bool, true, false, List, [], ◌∷◌, ◌++◌, length, nat_le}
use Rattle.std.specs.List.{flat_map, AllByRecursion as Each}
use Rattle.mz_statement.specs.declared.condition.Op.{Op}
use Rattle.mz_statement.specs.declared.condition.Side.{Side}
use Rattle.mz_statement.specs.declared.condition.Test.{Test, out-Test, roll-Test}
use Rattle.mz_statement.specs.declared.condition.Test.TheOpen.{Test-F}
use Rattle.mz_statement.specs.declared.condition.Test.TheVariants.{outs-All, outs-Any, outs-Not}
use Rattle.mz_statement.specs.declared.condition.Test.TheVariants as test
use Rattle.mz_statement.specs.declared.condition.Test.TheViews.{roll-out-Test}
use Rattle.mz_statement.specs.declared.reference.ColumnName.{ColumnName}
use Rattle.mz_statement.specs.Test.{is_all, is_any}
use Rattle.mz_statement.proofs.TestRules.{is_all_of_all, is_any_of_any}
use Rattle.mz_grammar.specs.Joined.{Layer, conjuncts, disjuncts, all_of, any_of}

-- what holds of each form of a layer holds of each
by_layer : (P : Test → Type 0) → ((tests : List Test) → P (test.All tests)) → ((tests : List Test) → P (test.Any tests))
    → ((inner : Test) → P (test.Not inner))
    → ((column : ColumnName) (op : Op) (side : Side) → P (test.Compare column op side)) → (layer : Layer) → P (roll-Test layer)
unfolding roll-Test denote.Hole.Carrier.roll
by_layer P all any negated compared (Test-F.All tests) = all tests
by_layer P all any negated compared (Test-F.Any tests) = any tests
by_layer P all any negated compared (Test-F.Not inner) = negated inner
by_layer P all any negated compared (Test-F.Compare column op side) = compared column op side

-- what holds of each form of a test holds of each test
pub by_form : (P : Test → Type 0) → ((tests : List Test) → P (test.All tests)) → ((tests : List Test) → P (test.Any tests))
    → ((inner : Test) → P (test.Not inner))
    → ((column : ColumnName) (op : Op) (side : Side) → P (test.Compare column op side)) → (whole : Test) → P whole
by_form P all any negated compared whole = subst P (roll-out-Test whole) (by_layer P all any negated compared (out-Test whole))

-- the members of an AND are its tests
pub conjuncts_of_all : (tests : List Test) → conjuncts (test.All tests) ≡ tests
unfolding conjuncts
conjuncts_of_all tests = rw (outs-All tests) refl

-- an OR is alone there
conjuncts_of_any : (tests : List Test) → conjuncts (test.Any tests) ≡ test.Any tests ∷ []
unfolding conjuncts
conjuncts_of_any tests = rw (outs-Any tests) refl

-- and a NOT
conjuncts_of_not : (inner : Test) → conjuncts (test.Not inner) ≡ test.Not inner ∷ []
unfolding conjuncts
conjuncts_of_not inner = rw (outs-Not inner) refl

-- and a comparison
conjuncts_of_comparison : (column : ColumnName) (op : Op) (side : Side)
    → conjuncts (test.Compare column op side) ≡ test.Compare column op side ∷ []
unfolding conjuncts out-Test denote.Hole.Carrier.out
conjuncts_of_comparison column op side = refl

-- what is no AND is alone
pub conjuncts_alone : (whole : Test) → is_all whole ≡ false → conjuncts whole ≡ whole ∷ []
conjuncts_alone = by_form (λ whole. is_all whole ≡ false → conjuncts whole ≡ whole ∷ [])
    (λ tests no. let yes = is_all_of_all tests in absurd cc) (λ tests no. conjuncts_of_any tests) (λ inner no. conjuncts_of_not inner)
    (λ column op side no. conjuncts_of_comparison column op side)

-- the members of an OR are its tests
pub disjuncts_of_any : (tests : List Test) → disjuncts (test.Any tests) ≡ tests
unfolding disjuncts
disjuncts_of_any tests = rw (outs-Any tests) refl

-- an AND is alone there
disjuncts_of_all : (tests : List Test) → disjuncts (test.All tests) ≡ test.All tests ∷ []
unfolding disjuncts
disjuncts_of_all tests = rw (outs-All tests) refl

-- and a NOT
disjuncts_of_not : (inner : Test) → disjuncts (test.Not inner) ≡ test.Not inner ∷ []
unfolding disjuncts
disjuncts_of_not inner = rw (outs-Not inner) refl

-- and a comparison
disjuncts_of_comparison : (column : ColumnName) (op : Op) (side : Side)
    → disjuncts (test.Compare column op side) ≡ test.Compare column op side ∷ []
unfolding disjuncts out-Test denote.Hole.Carrier.out
disjuncts_of_comparison column op side = refl

-- what is no OR is alone
pub disjuncts_alone : (whole : Test) → is_any whole ≡ false → disjuncts whole ≡ whole ∷ []
disjuncts_alone = by_form (λ whole. is_any whole ≡ false → disjuncts whole ≡ whole ∷ [])
    (λ tests no. disjuncts_of_all tests) (λ tests no. let yes = is_any_of_any tests in absurd cc) (λ inner no. disjuncts_of_not inner)
    (λ column op side no. disjuncts_of_comparison column op side)

-- where a test that is no list of the kind is alone, each of such tests is
each_alone : (f : Test → List Test) (is_list : Test → Bool) → ((one : Test) → is_list one ≡ false → f one ≡ one ∷ [])
    → (tests : List Test) → Each (λ one. is_list one ≡ false) tests → Each (λ one. f one ≡ one ∷ []) tests
each_alone f is_list alone [] each = tt
each_alone f is_list alone (one ∷ tests) each = (alone one each.0, each_alone f is_list alone tests each.1)

-- where each test is its only member, the members of all are the tests
pub flat_alone : (f : Test → List Test) (tests : List Test) → Each (λ one. f one ≡ one ∷ []) tests → flat_map f tests ≡ tests
flat_alone f [] alone = refl
flat_alone f (one ∷ tests) alone = λ i. alone.0 i ++ flat_alone f tests alone.1 i

-- an AND of two or more, none an AND, is its tests joined
pub all_of_members : (tests : List Test) → nat_le 2 (length tests) ≡ true → Each (λ one. is_all one ≡ false) tests
    → test.All tests ≡ all_of tests
all_of_members [] two each = absurd cc
all_of_members (first ∷ []) two each = absurd cc
all_of_members (first ∷ second ∷ tests) two each =
    let whole = first ∷ second ∷ tests in
    ap test.All (sym (flat_alone conjuncts whole (each_alone conjuncts is_all conjuncts_alone whole each)))

-- and so is an OR
pub any_of_members : (tests : List Test) → nat_le 2 (length tests) ≡ true → Each (λ one. is_any one ≡ false) tests
    → test.Any tests ≡ any_of tests
any_of_members [] two each = absurd cc
any_of_members (first ∷ []) two each = absurd cc
any_of_members (first ∷ second ∷ tests) two each =
    let whole = first ∷ second ∷ tests in
    ap test.Any (sym (flat_alone disjuncts whole (each_alone disjuncts is_any disjuncts_alone whole each)))
