-- Each clause is a lemma; the first is the second with no further lines.
use Rattle.mz_rules.proofs.Again.{reduced_twice, reduced_on}
use Rattle.mz_rules.proofs.stream_laws.reducing_is_final.Goals as goal

pub returns-clause-once : goal.returns-clause-once
returns-clause-once c = reduced_twice

pub returns-clause-on_the_way : goal.returns-clause-on_the_way
returns-clause-on_the_way c = reduced_on
