use Rattle.std.proofs.Common.{◌≡◌, List, drop}
use Rattle.mz_print.specs.Piece.{Piece}
use Rattle.mz_print.specs.Print.{print_more, joining}
use Rattle.mz_print.specs.Joined.{print_member}
use Rattle.mz_print.specs.Writer.{written}
use Rattle.mz_print.proofs.condition.+tests.Given as goal

-- with what is still to come, it is what it was to be
abbrev pub invariant-print_joined-others : goal.invariant-print_joined-others
invariant-print_joined-others l = (rest : List Piece)
    → written l.out (print_more (joining l.by_and) (print_member l.by_and) (drop l.test-index l.others) rest)
    ≡ written l.initial.out (print_more (joining l.by_and) (print_member l.by_and) l.others rest)
