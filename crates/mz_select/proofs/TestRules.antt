-- What the condition of a test is in each form of the test, as code matches it.
use Rattle.std.proofs.Common.{◌≡◌, refl, List, [], ◌∷◌, Ok}
use Rattle.mz_statement.specs.declared.condition.Test.{Test, All', Any'}
use Rattle.mz_statement.specs.declared.condition.Test.TheVariants.{All, Any, Not}
use Rattle.mz_plan.specs.declared.condition.Cond.{Cond}
use Rattle.mz_plan.specs.declared.condition.Cond.TheVariants as cond
use Rattle.mz_resolution.specs.Columns.{Sight}
use Rattle.mz_resolution.specs.Conditions.{listed, tested}
use Rattle.mz_resolution.specs.Steps.{Step, ◌>>=◌, each}

-- the conditions of the tests of a list
abbrev listed_in : Sight → Test → Step (List Cond)
listed_in sight (All' shape tests) = listed sight tests
listed_in sight (Any' shape tests) = listed sight tests
listed_in sight test = Ok []

-- the same with the tests as a list, joined by AND
listed_of_all : (sight : Sight) (tests : List Test) → listed_in sight (All tests) ≡ each (tested sight) tests
unfolding Rattle.mz_statement.specs.declared.condition.Test.TheBlock.hidden-the_row-Test-0 denote.Hole.Carrier.hidden
listed_of_all sight [] = refl
listed_of_all sight (test ∷ tests) = λ i. tested sight test >>= λ first. listed_of_all sight tests i >>= λ others. Ok (first ∷ others)

-- and joined by OR
listed_of_any : (sight : Sight) (tests : List Test) → listed_in sight (Any tests) ≡ each (tested sight) tests
unfolding Rattle.mz_statement.specs.declared.condition.Test.TheBlock.hidden-the_row-Test-0 denote.Hole.Carrier.hidden
listed_of_any sight [] = refl
listed_of_any sight (test ∷ tests) = λ i. tested sight test >>= λ first. listed_of_any sight tests i >>= λ others. Ok (first ∷ others)

-- an AND is the list of its tests' conditions
pub tested_of_all : (sight : Sight) (tests : List Test)
    → tested sight (All tests) ≡ (each (tested sight) tests >>= λ conds. Ok (cond.All conds))
unfolding Rattle.mz_statement.specs.declared.condition.Test.TheBlock.hidden-the_row-Test-0 denote.Hole.Carrier.hidden
tested_of_all sight tests = λ i. listed_of_all sight tests i >>= λ conds. Ok (cond.All conds)

-- and so is an OR
pub tested_of_any : (sight : Sight) (tests : List Test)
    → tested sight (Any tests) ≡ (each (tested sight) tests >>= λ conds. Ok (cond.Any conds))
unfolding Rattle.mz_statement.specs.declared.condition.Test.TheBlock.hidden-the_row-Test-0 denote.Hole.Carrier.hidden
tested_of_any sight tests = λ i. listed_of_any sight tests i >>= λ conds. Ok (cond.Any conds)

-- a NOT is the negation of its test's condition
pub tested_of_not : (sight : Sight) (test : Test) → tested sight (Not test) ≡ (tested sight test >>= λ below. Ok (cond.Not below))
unfolding Rattle.mz_statement.specs.declared.condition.Test.TheBlock.hidden-the_row-Test-1 denote.Hole.Carrier.hidden
tested_of_not sight test = refl

-- each form
pub ruleset tested_rules = (tested_of_all, tested_of_any, tested_of_not)
