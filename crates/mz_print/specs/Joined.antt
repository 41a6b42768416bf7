-- Joined tests as a list, as code sees them.
use Rattle.std.specs.Prelude.{Bool, ◌&&◌, List}
use Rattle.mz_statement.specs.declared.condition.Test.{Test}
use Rattle.mz_statement.specs.Test.{is_any}
use Rattle.mz_print.specs.Print.{Printer, print_listed, print_test, closed_in, joining}

-- a test of a list that is joined by AND, or else by OR: in parentheses where it is an OR under AND
abbrev pub print_member : Bool → Printer Test
print_member by_and test ps = closed_in (by_and && is_any test) (print_test test) ps

-- the tests of such a list, with the word between
abbrev pub print_joined : Bool → Printer (List Test)
print_joined by_and tests ps = print_listed (joining by_and) (print_member by_and) tests ps
