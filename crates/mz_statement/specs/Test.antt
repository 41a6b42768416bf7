-- The normal form of a test, how deep it is as it is printed, and which tests the grammar can spell.
use Rattle.std.specs.Prelude.{ℕ, max, ◌≡◌, ◌≤◌, ◌+◌, Bool, true, false, not, ◌&&◌, ◌||◌, if◌then◌else◌, List, [], ◌∷◌}
use Rattle.mz_statement.specs.declared.condition.Side.{Side}
use Rattle.mz_statement.specs.declared.condition.Side.TheVariants.{Column, Literal}
use Rattle.mz_statement.specs.declared.condition.Test.{Test, All', Any', Not', Compare, Row_of-Test, more_of-Test, end_of-Test}
use Rattle.mz_statement.specs.Reference.{IsColumnName}
use Rattle.mz_statement.specs.Value.{IsLiteral}

-- the test is a list that is joined by AND
abbrev pub is_all : Test → Bool
is_all (All' shape tests) = true
is_all test = false

-- the test is a list that is joined by OR
abbrev pub is_any : Test → Bool
is_any (Any' shape tests) = true
is_any test = false

-- the test is a list that is joined by AND, or else by OR
abbrev pub is_joined : Bool → Test → Bool
is_joined by_and test = if by_and then is_all test else is_any test

-- there are two tests or more
abbrev pub are_two : {m : _} → Row_of-Test m → Bool
are_two (more_of-Test first (more_of-Test second rest)) = true
are_two tests = false

abbrev mutual
  -- the normal form: each list has two tests or more, and none that is joined by the same word
  pub is_normal : Test → Bool
  is_normal (All' shape tests) = are_two tests && are_normal true tests
  is_normal (Any' shape tests) = are_two tests && are_normal false tests
  is_normal (Not' place (more_of-Test test end_of-Test)) = is_normal test
  is_normal (Compare column op side) = true

  -- each of the tests is normal, and none is joined by the word that joins them
  pub are_normal : {m : _} → Bool → Row_of-Test m → Bool
  are_normal by_and end_of-Test = true
  are_normal by_and (more_of-Test test rest) = (not (is_joined by_and test) && is_normal test) && are_normal by_and rest

-- a test may stand in a list: it is normal, and not joined by the word that joins the list
abbrev pub is_member : Bool → Test → Bool
is_member by_and test = not (is_joined by_and test) && is_normal test

-- a depth with the parentheses round it, where there are some
abbrev pub closed_depth : Bool → ℕ → ℕ
closed_depth is_closed depth = if is_closed then depth + 1 else depth

abbrev mutual
  -- how many NOTs and parentheses are open at once where the test is printed. Parentheses stand round
  -- an OR that is under AND or NOT, round an AND that is under NOT, and nowhere else
  pub depth : Test → ℕ
  depth (All' shape tests) = deepest true tests
  depth (Any' shape tests) = deepest false tests
  depth (Not' place (more_of-Test test end_of-Test)) = closed_depth (is_all test || is_any test) (depth test) + 1
  depth (Compare column op side) = 0

  -- the greatest depth of the tests that are joined by AND, or else by OR
  pub deepest : {m : _} → Bool → Row_of-Test m → ℕ
  deepest by_and end_of-Test = 0
  deepest by_and (more_of-Test test rest) = max (closed_depth (by_and && is_any test) (depth test)) (deepest by_and rest)

-- the same of a list
abbrev pub deepest_of : Bool → List Test → ℕ
deepest_of by_and [] = 0
deepest_of by_and (test ∷ tests) = max (closed_depth (by_and && is_any test) (depth test)) (deepest_of by_and tests)

-- a column that is one, or a literal
abbrev pub IsSide : Side → Type 0
IsSide (Column column) = IsColumnName column
IsSide (Literal value) = IsLiteral value

abbrev mutual
  -- each comparison has a column that is one, and a side that is one
  pub Compares : Test → Type 0
  Compares (All' shape tests) = AllCompare tests
  Compares (Any' shape tests) = AllCompare tests
  Compares (Not' place (more_of-Test test end_of-Test)) = Compares test
  Compares (Compare column op side) = IsColumnName column × IsSide side

  -- so it is in each of the tests
  pub AllCompare : {m : _} → Row_of-Test m → Type 0
  AllCompare end_of-Test = Unit {0}
  AllCompare (more_of-Test test rest) = Compares test × AllCompare rest

-- the most NOTs and parentheses that may be open at once
abbrev pub greatest_depth : ℕ
greatest_depth = 64

-- the grammar can spell the test
pub record IsTest (test : Test) : Type 0 where
  pub normal : is_normal test ≡ true
  pub compares : Compares test
  pub shallow : depth test ≤ greatest_depth
