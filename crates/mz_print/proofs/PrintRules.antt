-- What the printed pieces of each form of a test are, as code makes and matches it.
-- The definitions match on constructors with an apostrophe, whose arguments lie as in memory, and code
-- on the variants, which take a list or a test. Each rule leads from the second to the first.
use Rattle.std.proofs.Common.{◌≡◌, refl, sym, ap, ◌∙◌, Bool, true, false, ◌&&◌, ◌||◌, List, [], ◌∷◌}
use Rattle.mz_statement.specs.declared.condition.Test.{Test, All', Any'}
use Rattle.mz_statement.specs.declared.condition.Test.TheVariants.{All, Any, Not}
use Rattle.mz_statement.specs.Test.{is_all, is_any}
use Rattle.mz_grammar.specs.declared.key.Key.TheVariants as k
use Rattle.mz_print.specs.Piece.{Piece, Fixed}
use Rattle.mz_print.specs.Print.{Printer, print_more, closed_in, joining, print_test, print_other_tests}
pub use Rattle.mz_print.specs.Joined.{print_member, print_joined}

-- the pieces of the tests behind the first
abbrev behind_first : Bool → Printer Test
behind_first by_and (All' shape tests) ps = print_other_tests by_and tests ps
behind_first by_and (Any' shape tests) ps = print_other_tests by_and tests ps
behind_first by_and test ps = ps

-- the tests behind the first, of an AND
others_of_all : (by_and : Bool) (tests : List Test) (ps : List Piece)
    → behind_first by_and (All tests) ps ≡ print_more (joining by_and) (print_member by_and) tests ps
unfolding Rattle.mz_statement.specs.declared.condition.Test.TheBlock.hidden-the_row-Test-0 denote.Hole.Carrier.hidden
others_of_all by_and [] ps = refl
others_of_all by_and (test ∷ tests) ps =
    ap (λ qs. joining by_and ∷ closed_in (by_and && is_any test) (print_test test) qs) (others_of_all by_and tests ps)

-- the tests behind the first, of an OR
others_of_any : (by_and : Bool) (tests : List Test) (ps : List Piece)
    → behind_first by_and (Any tests) ps ≡ print_more (joining by_and) (print_member by_and) tests ps
unfolding Rattle.mz_statement.specs.declared.condition.Test.TheBlock.hidden-the_row-Test-0 denote.Hole.Carrier.hidden
others_of_any by_and [] ps = refl
others_of_any by_and (test ∷ tests) ps =
    ap (λ qs. joining by_and ∷ closed_in (by_and && is_any test) (print_test test) qs) (others_of_any by_and tests ps)

-- an AND is printed as its tests with AND between
pub print_of_all : (tests : List Test) (ps : List Piece) → print_test (All tests) ps ≡ print_joined true tests ps
unfolding Rattle.mz_statement.specs.declared.condition.Test.TheBlock.hidden-the_row-Test-0 denote.Hole.Carrier.hidden
print_of_all [] ps = refl
print_of_all (test ∷ tests) ps = ap (λ qs. closed_in (true && is_any test) (print_test test) qs) (others_of_all true tests ps)

-- an OR is printed as its tests with OR between
pub print_of_any : (tests : List Test) (ps : List Piece) → print_test (Any tests) ps ≡ print_joined false tests ps
unfolding Rattle.mz_statement.specs.declared.condition.Test.TheBlock.hidden-the_row-Test-0 denote.Hole.Carrier.hidden
print_of_any [] ps = refl
print_of_any (test ∷ tests) ps = ap (λ qs. closed_in (false && is_any test) (print_test test) qs) (others_of_any false tests ps)

-- a NOT is printed with parentheses round a list
pub print_of_not : (test : Test) (ps : List Piece)
    → print_test (Not test) ps ≡ Fixed k.Not ∷ closed_in (is_all test || is_any test) (print_test test) ps
unfolding Rattle.mz_statement.specs.declared.condition.Test.TheBlock.hidden-the_row-Test-1 denote.Hole.Carrier.hidden
print_of_not test ps = refl

-- the pieces of each form
pub ruleset print_rules = (print_of_all, print_of_any, print_of_not)

-- what is printed of a test that is a NOT, whose inner test and its parentheses were found
pub print_of_negated : (test inner found : Test) (is_closed : Bool) (ps : List Piece)
    → test ≡ Not inner → found ≡ inner → is_closed ≡ (is_all found || is_any found)
    → Fixed k.Not ∷ closed_in is_closed (print_test found) ps ≡ print_test test ps
print_of_negated test inner found is_closed ps is same closed =
    ap (λ b. Fixed k.Not ∷ closed_in b (print_test found) ps) closed ∙ sym (print_of_not found ps) ∙ ap (λ t. print_test (Not t) ps) same
    ∙ ap (λ t. print_test t ps) (sym is)
