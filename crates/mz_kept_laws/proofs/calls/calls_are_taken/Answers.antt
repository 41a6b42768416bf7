-- A session of which all this holds may make a call.
use Rattle.mz_kept_laws.proofs.Taking.{took_did}
use Rattle.mz_kept_laws.proofs.calls.calls_are_taken.Goals as goal

pub returns : goal.returns
returns c = λ kept new log session text asked told stands number free room asks plain took.
    took_did kept new log session text asked told (record { stands = stands; number = number; free = free; room = room }) asks plain took
