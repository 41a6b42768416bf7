use Rattle.std.proofs.Common.{ap, arith}
use Rattle.std.proofs.lemmas.Bool.Decides.{nat_tests}
use Rattle.mz_books.specs.Holds.{is_of_call, is_peek}
use Rattle.mz_peeks.specs.PeekBook.{PeekBook}
use Rattle.mz_peeks.proofs.Left.{all_left, none_left, other_left}
use Rattle.mz_peeks.proofs.laws.a_peek_leaves_once.Goals as goal

pub returns-clause-gone : goal.returns-clause-gone
returns-clause-gone c = λ peek b. none_left (is_peek peek) b.pending

-- none has both numbers
pub returns-clause-others : goal.returns-clause-others
returns-clause-others c = λ peek other b apart.
    other_left (is_peek peek) (is_peek other) (λ x e. grind (arith, nat_tests, e, apart)) b.pending

pub returns-clause-none : goal.returns-clause-none
returns-clause-none c = λ peek b none. ap {B = PeekBook} (λ xs. record b { pending = xs }) (all_left (is_peek peek) b.pending none)

pub returns-clause-no_call : goal.returns-clause-no_call
returns-clause-no_call c = λ session call b none.
    ap {B = PeekBook} (λ xs. record b { pending = xs }) (all_left (is_of_call session call) b.pending none)
