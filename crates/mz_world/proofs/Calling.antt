-- What calls of a core leave of what is kept.
use Rattle.std.proofs.Common.{Result, Ok, Err, OnOk}

-- what follows of a call that found memory
pub on_ok_then : {A E : Type 0} (P Q : Type 0) (result : Result A E) → OnOk result P → (P → Q) → OnOk result Q
on_ok_then P Q (Ok done) p follows = follows p
on_ok_then P Q (Err fault) p follows = tt
