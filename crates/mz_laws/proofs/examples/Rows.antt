-- Worked rows: the transcripts of scripts, by computation.
use Rattle.std.specs.Fmt.{digits}
use Rattle.std.proofs.Common.{refl}
use Rattle.mz_log.specs.CarriedOut.{seq}
use Rattle.mz_books.specs.States.{query_plan}
use Rattle.mz_books.specs.Answer.{answer}
use Rattle.mz_laws.specs.examples.Stale.{Stale}
use Rattle.mz_laws.specs.examples.Missing.{NoneThere, Ticks}
use Rattle.mz_laws.specs.examples.Cancelled.{Cancelled, Spent}
use Rattle.mz_laws.specs.examples.Twice.{TwoAnswer, Late, Short, Dropped}
use Rattle.mz_laws.specs.examples.Asking.{AsOf, Holds, Refusals}
use Rattle.mz_laws.specs.examples.Crashes.{Rejoined, OtherIncarnation, TooFar}

pub stale : Stale
unfolding digits
stale = refl

pub none_there : NoneThere
unfolding digits
none_there = refl

pub ticks : Ticks
unfolding digits
ticks = refl

pub cancelled : Cancelled
unfolding answer query_plan seq digits
cancelled = refl

pub spent : Spent
unfolding answer query_plan seq digits
spent = refl

pub two_answer : TwoAnswer
unfolding answer query_plan seq digits
two_answer = refl

pub late : Late
unfolding answer query_plan seq digits
late = refl

pub short : Short
unfolding answer query_plan seq digits
short = refl

pub dropped : Dropped
unfolding answer query_plan seq digits
dropped = refl

pub as_of : AsOf
unfolding answer query_plan seq digits
as_of = refl

pub holds : Holds
unfolding digits
holds = refl

pub refusals : Refusals
unfolding answer query_plan seq digits
refusals = refl

pub rejoined : Rejoined
unfolding answer query_plan seq digits
rejoined = refl

pub other_incarnation : OtherIncarnation
other_incarnation = refl

pub too_far : TooFar
too_far = refl
