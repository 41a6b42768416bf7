-- What the definitions over tests say of each form of a test, as code makes and matches it.
-- The definitions match on constructors with an apostrophe, whose arguments lie as in memory, and code
-- on the variants, which take a list or a test. Each rule leads from the second to the first.
use Rattle.std.proofs.Common.{◌≡◌, refl, sym, ◌∙◌, ap, arith, max, ◌+◌, Bool, true, false, ◌&&◌, ◌||◌, List, [], ◌∷◌, length, nat_le}
use Rattle.std.proofs.lemmas.Bool.Decides.{nat_tests}
use Rattle.std.specs.List.{list_all, AllByRecursion as Each}
use Rattle.mz_statement.specs.declared.condition.Test.{Test, All', Any'}
use Rattle.mz_statement.specs.declared.condition.Test.TheVariants.{All, Any, Not}
use Rattle.mz_statement.specs.Test.{is_all, is_any, is_normal, is_member, are_normal, depth, closed_depth, deepest_of, Compares}

-- a list joined by AND is one
pub is_all_of_all : (tests : List Test) → is_all (All tests) ≡ true
unfolding Rattle.mz_statement.specs.declared.condition.Test.TheBlock.hidden-the_row-Test-0 denote.Hole.Carrier.hidden
is_all_of_all tests = refl

-- and is not joined by the other word
pub is_any_of_all : (tests : List Test) → is_any (All tests) ≡ false
unfolding Rattle.mz_statement.specs.declared.condition.Test.TheBlock.hidden-the_row-Test-0 denote.Hole.Carrier.hidden
is_any_of_all tests = refl

-- a list joined by OR is one
pub is_any_of_any : (tests : List Test) → is_any (Any tests) ≡ true
unfolding Rattle.mz_statement.specs.declared.condition.Test.TheBlock.hidden-the_row-Test-0 denote.Hole.Carrier.hidden
is_any_of_any tests = refl

-- and is not joined by the other word
pub is_all_of_any : (tests : List Test) → is_all (Any tests) ≡ false
unfolding Rattle.mz_statement.specs.declared.condition.Test.TheBlock.hidden-the_row-Test-0 denote.Hole.Carrier.hidden
is_all_of_any tests = refl

-- a NOT is no list
pub is_all_of_not : (test : Test) → is_all (Not test) ≡ false
unfolding Rattle.mz_statement.specs.declared.condition.Test.TheBlock.hidden-the_row-Test-1 denote.Hole.Carrier.hidden
is_all_of_not test = refl

-- of neither kind
pub is_any_of_not : (test : Test) → is_any (Not test) ≡ false
unfolding Rattle.mz_statement.specs.declared.condition.Test.TheBlock.hidden-the_row-Test-1 denote.Hole.Carrier.hidden
is_any_of_not test = refl

-- which tests are joined by which word
pub ruleset word_rules = (is_all_of_all, is_any_of_all, is_any_of_any, is_all_of_any, is_all_of_not, is_any_of_not)

-- the depth of an AND is that of its deepest test, an OR closed
pub depth_of_all : (tests : List Test) → depth (All tests) ≡ deepest_of true tests
unfolding Rattle.mz_statement.specs.declared.condition.Test.TheBlock.hidden-the_row-Test-0 denote.Hole.Carrier.hidden
depth_of_all [] = refl
depth_of_all (test ∷ tests) = ap (max _) (depth_of_all tests)

-- the depth of an OR is that of its deepest test, none closed
pub depth_of_any : (tests : List Test) → depth (Any tests) ≡ deepest_of false tests
unfolding Rattle.mz_statement.specs.declared.condition.Test.TheBlock.hidden-the_row-Test-0 denote.Hole.Carrier.hidden
depth_of_any [] = refl
depth_of_any (test ∷ tests) = ap (max _) (depth_of_any tests)

-- a NOT is one deeper than its test with its parentheses
pub depth_of_not : (test : Test) → depth (Not test) ≡ closed_depth (is_all test || is_any test) (depth test) + 1
unfolding Rattle.mz_statement.specs.declared.condition.Test.TheBlock.hidden-the_row-Test-1 denote.Hole.Carrier.hidden
depth_of_not test = refl

-- the depth of each form
pub ruleset depth_rules = (depth_of_all, depth_of_any, depth_of_not)

-- the tests of a list are members of it
abbrev have_members : Test → Bool
have_members (All' shape tests) = are_normal true tests
have_members (Any' shape tests) = are_normal false tests
have_members test = true

-- a list that begins with two has two or more
two_or_more : (first second : Test) (tests : List Test) → nat_le 2 (length (first ∷ second ∷ tests)) ≡ true
two_or_more first second tests = grind (arith, nat_tests)

-- the same with the tests as a list, joined by AND
members_of_all : (tests : List Test) → have_members (All tests) ≡ list_all (is_member true) tests
unfolding Rattle.mz_statement.specs.declared.condition.Test.TheBlock.hidden-the_row-Test-0 denote.Hole.Carrier.hidden
members_of_all [] = refl
members_of_all (test ∷ tests) = ap (λ b. is_member true test && b) (members_of_all tests)

-- an AND is normal where it has two tests or more, and each is a member of it
pub normal_of_all : (tests : List Test) → is_normal (All tests) ≡ (nat_le 2 (length tests) && list_all (is_member true) tests)
unfolding Rattle.mz_statement.specs.declared.condition.Test.TheBlock.hidden-the_row-Test-0 denote.Hole.Carrier.hidden
normal_of_all [] = refl
normal_of_all (first ∷ []) = refl
normal_of_all (first ∷ second ∷ tests) = members_of_all (first ∷ second ∷ tests) ∙ ap (λ b. b && list_all (is_member true) (first ∷ second ∷ tests)) (sym (two_or_more first second tests))

-- and joined by OR
members_of_any : (tests : List Test) → have_members (Any tests) ≡ list_all (is_member false) tests
unfolding Rattle.mz_statement.specs.declared.condition.Test.TheBlock.hidden-the_row-Test-0 denote.Hole.Carrier.hidden
members_of_any [] = refl
members_of_any (test ∷ tests) = ap (λ b. is_member false test && b) (members_of_any tests)

-- and so is an OR
pub normal_of_any : (tests : List Test) → is_normal (Any tests) ≡ (nat_le 2 (length tests) && list_all (is_member false) tests)
unfolding Rattle.mz_statement.specs.declared.condition.Test.TheBlock.hidden-the_row-Test-0 denote.Hole.Carrier.hidden
normal_of_any [] = refl
normal_of_any (first ∷ []) = refl
normal_of_any (first ∷ second ∷ tests) = members_of_any (first ∷ second ∷ tests) ∙ ap (λ b. b && list_all (is_member false) (first ∷ second ∷ tests)) (sym (two_or_more first second tests))

-- a NOT is normal where its test is
pub normal_of_not : (test : Test) → is_normal (Not test) ≡ is_normal test
unfolding Rattle.mz_statement.specs.declared.condition.Test.TheBlock.hidden-the_row-Test-1 denote.Hole.Carrier.hidden
normal_of_not test = refl

-- when each form is normal
pub ruleset normal_rules = (normal_of_all, normal_of_any, normal_of_not)

-- an AND compares names and literals where each of its tests does
pub compares_of_all : (tests : List Test) → Compares (All tests) ≡ Each Compares tests
unfolding Rattle.mz_statement.specs.declared.condition.Test.TheBlock.hidden-the_row-Test-0 denote.Hole.Carrier.hidden
compares_of_all [] = refl
compares_of_all (test ∷ tests) = ap (λ T. Compares test × T) (compares_of_all tests)

-- and so does an OR
pub compares_of_any : (tests : List Test) → Compares (Any tests) ≡ Each Compares tests
unfolding Rattle.mz_statement.specs.declared.condition.Test.TheBlock.hidden-the_row-Test-0 denote.Hole.Carrier.hidden
compares_of_any [] = refl
compares_of_any (test ∷ tests) = ap (λ T. Compares test × T) (compares_of_any tests)

-- a NOT does where its test does
pub compares_of_not : (test : Test) → Compares (Not test) ≡ Compares test
unfolding Rattle.mz_statement.specs.declared.condition.Test.TheBlock.hidden-the_row-Test-1 denote.Hole.Carrier.hidden
compares_of_not test = refl

-- what each form compares
pub ruleset compares_rules = (compares_of_all, compares_of_any, compares_of_not)
