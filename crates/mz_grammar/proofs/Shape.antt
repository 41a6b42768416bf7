-- Tests that the grammar spells are normal, and no deeper than the grammar lets them be.
use Rattle.std.proofs.Common.{◌≡◌, ℕ, zero, suc, ◌≤◌, Bool, true, false, not, ◌&&◌, ◌||◌, List, [], ◌∷◌, ◌++◌, length, length-append, inl, inr, refl, sym, ap, subst, ◌∙◌, arith}
use Rattle.std.specs.List.{AllByRecursion as Each, flat_map, list_all}
use Rattle.std.proofs.lemmas.Bool.{leb-true, le-leb}
use Rattle.mz_lex.proofs.ReachLemmas.{both, denied}
use Rattle.mz_statement.specs.declared.condition.Test.{Test}
use Rattle.mz_statement.specs.declared.condition.Test.TheVariants as test
use Rattle.mz_statement.specs.Test.{is_all, is_any, is_joined, is_normal, is_member, depth, closed_depth, deepest_of, greatest_depth}
use Rattle.mz_statement.proofs.TestRules.{is_any_of_all, is_all_of_any, is_all_of_not, is_any_of_not, depth_of_all, depth_of_any, depth_of_not, normal_of_all, normal_of_any, normal_of_not}
use Rattle.mz_grammar.specs.declared.key.Key.{Key}
use Rattle.mz_grammar.specs.declared.key.Key.TheVariants as k
use Rattle.mz_grammar.specs.declared.token.Tok.{Tok}
use Rattle.mz_grammar.specs.declared.token.Tok.TheVariants.{Key as K}
use Rattle.mz_grammar.specs.Joined.{conjuncts, disjuncts, all_of, any_of}
use Rattle.mz_grammar.specs.Grammar.{Rule, IsMore, SpellsComparison, SpellsConjunction, SpellsDisjunction, SpellsAtom, SpellsCondition}
use Rattle.mz_grammar.proofs.Forms.{by_form, conjuncts_of_all, conjuncts_alone, disjuncts_of_any, disjuncts_alone}

-- the test is a list
abbrev pub is_list : Test → Bool
is_list whole = is_all whole || is_any whole

-- a test that is normal, and no deeper than this with parentheses round a list
pub record IsClosedWithin (most : ℕ) (whole : Test) : Type 0 where
  pub normal : is_normal whole ≡ true
  pub shallow : closed_depth (is_list whole) (depth whole) ≤ most

-- the same with parentheses as they stand in a list that is joined by AND, or else by OR
pub record IsWithin (by_and : Bool) (most : ℕ) (whole : Test) : Type 0 where
  pub normal : is_normal whole ≡ true
  pub shallow : closed_depth (by_and && is_any whole) (depth whole) ≤ most

-- and the test is not joined by the same word
pub record IsMemberWithin (by_and : Bool) (most : ℕ) (whole : Test) : Type 0 where
  pub other : is_joined by_and whole ≡ false
  pub normal : is_normal whole ≡ true
  pub shallow : closed_depth (by_and && is_any whole) (depth whole) ≤ most

-- a pair of tests
joined : (a b : Bool) → a ≡ true → b ≡ true → (a && b) ≡ true
joined a b e f i = e i && f i

-- ---- members of a list, and the list

-- the tests of a list that is normal are its members
members : (by_and : Bool) (most : ℕ) (tests : List Test) → list_all (is_member by_and) tests ≡ true → deepest_of by_and tests ≤ most
    → Each (IsMemberWithin by_and most) tests
members by_and most [] normal shallow = tt
members by_and most (one ∷ tests) normal shallow =
    let parts = both _ _ normal in
    let member = both _ _ parts.0 in
    (record { other = denied _ member.0; normal = member.1; shallow = omega arith }, members by_and most tests parts.1 (omega arith))

-- those of an AND
pub all_members : (most : ℕ) (tests : List Test) → is_normal (test.All tests) ≡ true → depth (test.All tests) ≤ most
    → Each (IsMemberWithin true most) tests
all_members most tests normal shallow =
    let deep = depth_of_all tests in members true most tests (both _ _ (sym (normal_of_all tests) ∙ normal)).1 (omega arith)

-- and of an OR
pub any_members : (most : ℕ) (tests : List Test) → is_normal (test.Any tests) ≡ true → depth (test.Any tests) ≤ most
    → Each (IsMemberWithin false most) tests
any_members most tests normal shallow =
    let deep = depth_of_any tests in members false most tests (both _ _ (sym (normal_of_any tests) ∙ normal)).1 (omega arith)

-- members are normal
members_normal : (by_and : Bool) (most : ℕ) (tests : List Test) → Each (IsMemberWithin by_and most) tests
    → list_all (is_member by_and) tests ≡ true
members_normal by_and most [] each = refl
members_normal by_and most (one ∷ tests) each =
    joined _ _ (joined _ _ (ap not each.0.other) each.0.normal) (members_normal by_and most tests each.1)

-- and none is deeper
members_shallow : (by_and : Bool) (most : ℕ) (tests : List Test) → Each (IsMemberWithin by_and most) tests → deepest_of by_and tests ≤ most
members_shallow by_and most [] each = omega arith
members_shallow by_and most (one ∷ tests) each =
    let first = each.0.shallow in
    let more = members_shallow by_and most tests each.1 in omega arith

-- one member at least
record Members (by_and : Bool) (most : ℕ) (tests : List Test) : Type 0 where
  some : 1 ≤ length tests
  each : Each (IsMemberWithin by_and most) tests

-- a test that is no list of the kind is its own member
alone : (by_and : Bool) (most : ℕ) (whole : Test) → is_joined by_and whole ≡ false → IsWithin by_and most whole
    → Members by_and most (whole ∷ [])
alone by_and most whole other is =
    record { some = omega arith; each = (record { other = other; normal = is.normal; shallow = is.shallow }, tt) }

-- as many members as tests at least
record Parts (by_and : Bool) (most count : ℕ) (tests : List Test) : Type 0 where
  some : count ≤ length tests
  each : Each (IsMemberWithin by_and most) tests

-- what holds of the members of each of two lists holds of those of both
pub each_append : {A : Type 0} (P : A → Type 0) (xs ys : List A) → Each P xs → Each P ys → Each P (xs ++ ys)
each_append P [] ys first second = second
each_append P (x ∷ xs) ys first second = (first.0, each_append P xs ys first.1 second)

-- the members of all
parts : (by_and : Bool) (most : ℕ) (f : Test → List Test) (Is : Test → Type 0) → ((one : Test) → Is one → Members by_and most (f one))
    → (tests : List Test) → Each Is tests → Parts by_and most (length tests) (flat_map f tests)
parts by_and most f Is split [] each = record { some = omega arith; each = tt }
parts by_and most f Is split (one ∷ tests) each =
    let first = split one each.0 in
    let others = parts by_and most f Is split tests each.1 in
    let some = first.some in
    let more = others.some in
    record {
      some = omega (arith, length-append (f one) (flat_map f tests));
      each = each_append (IsMemberWithin by_and most) (f one) (flat_map f tests) first.each others.each;
    }

-- ---- AND

-- a depth is no more than with parentheses
less_closed : (is_closed : Bool) (deep : ℕ) {most : ℕ} → closed_depth is_closed deep ≤ most → deep ≤ most
less_closed true deep shallow = omega arith
less_closed false deep shallow = shallow

-- and parentheses are one more
closed_more : (is_closed : Bool) (deep : ℕ) {most : ℕ} → deep ≤ most → closed_depth is_closed deep ≤ suc most
closed_more true deep shallow = omega arith
closed_more false deep shallow = omega arith

-- without the parentheses that an AND has
open_depth : (first second : Bool) (deep : ℕ) {most : ℕ} → closed_depth (first || second) deep ≤ most → closed_depth second deep ≤ most
open_depth true true deep shallow = shallow
open_depth true false deep shallow = omega arith
open_depth false second deep shallow = shallow

-- without parentheses round an AND
opened : (most : ℕ) (whole : Test) → IsClosedWithin most whole → IsWithin true most whole
opened most whole is = record { normal = is.normal; shallow = open_depth (is_all whole) (is_any whole) (depth whole) is.shallow }

-- what is no AND is alone in it
conjuncts_single : (most : ℕ) (whole : Test) → is_all whole ≡ false → IsClosedWithin most whole → Members true most (conjuncts whole)
conjuncts_single most whole other is =
    subst (Members true most) (sym (conjuncts_alone whole other)) (alone true most whole other (opened most whole is))

-- the members that an AND gives to an AND
conjuncts_listed : (most : ℕ) (tests : List Test) → IsClosedWithin most (test.All tests) → Members true most (conjuncts (test.All tests))
conjuncts_listed most tests is =
    let two = leb-true 2 (length tests) (both _ _ (sym (normal_of_all tests) ∙ is.normal)).0 in
    let inside = less_closed (is_list (test.All tests)) (depth (test.All tests)) is.shallow in
    let found : Members true most tests = record { some = omega arith; each = all_members most tests is.normal inside } in
    subst (Members true most) (sym (conjuncts_of_all tests)) found

-- the members that a test gives to an AND
conjuncts_members : (most : ℕ) (whole : Test) → IsClosedWithin most whole → Members true most (conjuncts whole)
conjuncts_members most = by_form (λ whole. IsClosedWithin most whole → Members true most (conjuncts whole))
    (λ tests is. conjuncts_listed most tests is)
    (λ tests is. conjuncts_single most (test.Any tests) (is_all_of_any tests) is)
    (λ inner is. conjuncts_single most (test.Not inner) (is_all_of_not inner) is)
    (λ column op side is. conjuncts_single most (test.Compare column op side) refl is)

-- tests that are joined by AND
all_within : (most : ℕ) (first : Test) (others : List Test) → Each (IsClosedWithin most) (first ∷ others)
    → IsWithin true most (all_of (first ∷ others))
all_within most first [] each = opened most first each.0
all_within most first (second ∷ others) each =
    let whole = first ∷ second ∷ others in
    let found = parts true most conjuncts (IsClosedWithin most) (conjuncts_members most) whole each in
    let some = found.some in
    let deep = depth_of_all (flat_map conjuncts whole) in
    let shallow = members_shallow true most (flat_map conjuncts whole) found.each in
    let bare_depth : depth (test.All (flat_map conjuncts whole)) ≤ most = omega arith in
    let no_or = is_any_of_all (flat_map conjuncts whole) in
    record {
      normal = normal_of_all (flat_map conjuncts whole) ∙ joined _ _ (le-leb 2 _ (omega arith)) (members_normal true most _ found.each);
      shallow = subst (λ b. closed_depth b (depth (test.All (flat_map conjuncts whole))) ≤ most) (sym no_or) bare_depth;
    }

-- ---- OR

-- without any parentheses
bare : (most : ℕ) (whole : Test) → IsWithin true most whole → IsWithin false most whole
bare most whole is = record { normal = is.normal; shallow = less_closed (is_any whole) (depth whole) is.shallow }

-- what is no OR is alone in it
disjuncts_single : (most : ℕ) (whole : Test) → is_any whole ≡ false → IsWithin true most whole → Members false most (disjuncts whole)
disjuncts_single most whole other is =
    subst (Members false most) (sym (disjuncts_alone whole other)) (alone false most whole other (bare most whole is))

-- the members that an OR gives to an OR
disjuncts_listed : (most : ℕ) (tests : List Test) → IsWithin true most (test.Any tests) → Members false most (disjuncts (test.Any tests))
disjuncts_listed most tests is =
    let two = leb-true 2 (length tests) (both _ _ (sym (normal_of_any tests) ∙ is.normal)).0 in
    let inside = less_closed (is_any (test.Any tests)) (depth (test.Any tests)) is.shallow in
    let found : Members false most tests = record { some = omega arith; each = any_members most tests is.normal inside } in
    subst (Members false most) (sym (disjuncts_of_any tests)) found

-- the members that a test gives to an OR
disjuncts_members : (most : ℕ) (whole : Test) → IsWithin true most whole → Members false most (disjuncts whole)
disjuncts_members most = by_form (λ whole. IsWithin true most whole → Members false most (disjuncts whole))
    (λ tests is. disjuncts_single most (test.All tests) (is_any_of_all tests) is)
    (λ tests is. disjuncts_listed most tests is)
    (λ inner is. disjuncts_single most (test.Not inner) (is_any_of_not inner) is)
    (λ column op side is. disjuncts_single most (test.Compare column op side) refl is)

-- tests that are joined by OR
any_within : (most : ℕ) (first : Test) (others : List Test) → Each (IsWithin true most) (first ∷ others)
    → IsWithin false most (any_of (first ∷ others))
any_within most first [] each = bare most first each.0
any_within most first (second ∷ others) each =
    let whole = first ∷ second ∷ others in
    let found = parts false most disjuncts (IsWithin true most) (disjuncts_members most) whole each in
    let some = found.some in
    let deep = depth_of_any (flat_map disjuncts whole) in
    let shallow = members_shallow false most (flat_map disjuncts whole) found.each in
    record {
      normal = normal_of_any (flat_map disjuncts whole) ∙ joined _ _ (le-leb 2 _ (omega arith)) (members_normal false most _ found.each);
      shallow = omega arith;
    }

-- ---- rules

-- what the rule spells is so
abbrev pub Assures : {A : Type 0} → Rule A → (A → Type 0) → Type 0
Assures Is Can = (x : _) (ts rest : List Tok) → Is x ts rest → Can x

-- others, each behind the key
more_each : {A : Type 0} (key : Key) (Is : Rule A) (Can : A → Type 0) → Assures Is Can → Assures (IsMore key Is) (Each Can)
more_each key Is Can one [] ts rest spelled = tt
more_each key Is Can one (x ∷ xs) ts rest (us, vs, e, spelled, others) = (one x us vs spelled, more_each key Is Can one xs vs rest others)

-- atoms joined by AND
conjunction_within : (most : ℕ) (Is : Rule Test) → Assures Is (IsClosedWithin most) → Assures (SpellsConjunction Is) (IsWithin true most)
conjunction_within most Is one x ts rest ([], is, listed) = absurd listed
conjunction_within most Is one x ts rest (y ∷ ys, is, (us, spelled, others)) =
    let each : Each (IsClosedWithin most) (y ∷ ys) = (one y ts us spelled, more_each k.And Is _ one ys us rest others) in
    subst (IsWithin true most) (sym is) (all_within most y ys each)

-- and these joined by OR
disjunction_within : (most : ℕ) (Is : Rule Test) → Assures Is (IsClosedWithin most) → Assures (SpellsDisjunction Is) (IsWithin false most)
disjunction_within most Is one x ts rest ([], is, listed) = absurd listed
disjunction_within most Is one x ts rest (y ∷ ys, is, (us, spelled, others)) =
    let inner = conjunction_within most Is one in
    let each : Each (IsWithin true most) (y ∷ ys) = (inner y ts us spelled, more_each k.Or (SpellsConjunction Is) _ inner ys us rest others) in
    subst (IsWithin false most) (sym is) (any_within most y ys each)

-- a comparison has no depth
comparison_within : (most : ℕ) → Assures SpellsComparison (IsClosedWithin most)
comparison_within most x ts rest (column, op, side, us, is, left, right) =
    subst (IsClosedWithin most) (sym is) (record { normal = refl; shallow = omega arith })

-- a NOT is no list
pub not_single : (inner : Test) → is_list (test.Not inner) ≡ false
not_single inner = λ i. is_all_of_not inner i || is_any_of_not inner i

-- a NOT is one deeper than its test
negated_within : (most : ℕ) (inner : Test) → IsClosedWithin most inner → IsClosedWithin (suc most) (test.Not inner)
negated_within most inner is =
    let shallow = is.shallow in
    let deep = depth_of_not inner in
    record {
      normal = normal_of_not inner ∙ is.normal;
      shallow = subst (λ b. closed_depth b (depth (test.Not inner)) ≤ suc most) (sym (not_single inner)) (omega arith);
    }

-- parentheses make a test one deeper at most
closed_within : (most : ℕ) (whole : Test) → IsWithin false most whole → IsClosedWithin (suc most) whole
closed_within most whole is = record { normal = is.normal; shallow = closed_more (is_list whole) (depth whole) is.shallow }

-- with so many NOTs and parentheses that may still be opened
atom_within : (most : ℕ) → Assures (SpellsAtom most) (IsClosedWithin most)
atom_within zero x ts rest spelled = comparison_within zero x ts rest spelled
atom_within (suc most) x ts rest (inl spelled) = comparison_within (suc most) x ts rest spelled
atom_within (suc most) x ts rest (inr (inl (inner, us, is, e, spelled))) =
    subst (IsClosedWithin (suc most)) (sym is) (negated_within most inner (atom_within most inner us rest spelled))
atom_within (suc most) x ts rest (inr (inr (us, e, spelled))) =
    closed_within most x (disjunction_within most (SpellsAtom most) (atom_within most) x us (K k.Close ∷ rest) spelled)

-- a condition is normal, and no deeper than may be
pub condition_within : Assures SpellsCondition (IsWithin false greatest_depth)
condition_within = disjunction_within greatest_depth (SpellsAtom greatest_depth) (atom_within greatest_depth)
