use Rattle.std.proofs.Common.{◌≡◌, List, drop}
use Rattle.mz_print.specs.Piece.{Piece, Fixed}
use Rattle.mz_print.specs.Print.{print_more}
use Rattle.mz_print.specs.Writer.{written}
use Rattle.mz_print.proofs.list.print_more.Given as goal

-- with what is still to come, it is what it was to be
abbrev pub invariant-members : goal.invariant-members
invariant-members g l = (rest : List Piece)
    → written l.out (print_more (Fixed l.key) g.T.Print.pieces (drop l.member-index l.members) rest)
    ≡ written l.initial.out (print_more (Fixed l.key) g.T.Print.pieces l.members rest)
