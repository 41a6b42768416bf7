use Rattle.mz_state_laws.proofs.KindLaws.{asks_by_kind, others_refused, replies_told, told_by_asked}
use Rattle.mz_state_laws.proofs.kinds.kinds_tell_what_is_asked.Goals as goal

pub returns : goal.returns
returns c = record { asked = asks_by_kind; others = others_refused; rows = told_by_asked; replies = replies_told }
