use Rattle.std.proofs.Common.{◌+◌, ◌++◌, ◌∷◌, [], ap, refl}
use Rattle.mz_books.specs.Holds.{peeks_made, pending}
use Rattle.mz_peeks.specs.PeekBook.{PeekBook}
use Rattle.mz_peeks.proofs.laws.entries_are_steps.Goals as goal

-- a read has the next number
pub returns-clause-read : goal.returns-clause-read
returns-clause-read c = λ log session call peek time statement collection next.
    ap {B = PeekBook} (λ n. record {
      pending = pending log ++ record { peek = n; session = session; call = call; collection = collection; time = time } ∷ [];
      made = peeks_made log + 1;
    }) next

pub returns-clause-finish : goal.returns-clause-finish
returns-clause-finish c = λ log peek rows. refl

pub returns-clause-cancel : goal.returns-clause-cancel
returns-clause-cancel c = λ log session call. refl
