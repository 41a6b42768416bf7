-- Whether two tests are one.
use Rattle.std.specs.Prelude.{Bool, true, false, ◌&&◌, ◌==◌}
use base.Stored.{Gv, gnil, gnum, gcons}
use Rattle.mz_statement.specs.declared.condition.Test.{Test}
use Rattle.mz_statement.specs.contracts.condition.Test.{the_row}

-- whether two trees of numbers have the same shape and the same numbers
abbrev pub same_code : Gv → Gv → Bool
same_code gnil gnil = true
same_code (gnum n) (gnum m) = n == m
same_code (gcons a b) (gcons c d) = same_code a c && same_code b d
same_code one other = false

-- whether two tests are one: each test has a tree of numbers of its own
unfoldable pub same_test : Test → Test → Bool
same_test one other = same_code (the_row.coded.code one) (the_row.coded.code other)
