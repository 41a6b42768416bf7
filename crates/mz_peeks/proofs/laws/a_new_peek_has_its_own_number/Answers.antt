use Rattle.std.proofs.Common.{refl}
use Rattle.mz_peeks.specs.PeekBook.{new_peek}
use Rattle.mz_peeks.proofs.Rising.{new_found, none_past}
use Rattle.mz_peeks.proofs.laws.a_new_peek_has_its_own_number.Goals as goal

pub returns-clause-fresh : goal.returns-clause-fresh
returns-clause-fresh c = λ b n. none_past b.made b.pending n.within

pub returns-clause-found : goal.returns-clause-found
returns-clause-found c = λ session call collection time b n.
    new_found b.made b.pending (new_peek session call collection time b) n.within refl
