-- Each clause is a lemma: a policy never goes back.
use Rattle.mz_rules.proofs.Growing.{comes_on, kept_on, gone_on, all_move}
use Rattle.mz_rules.proofs.Numbers.{numbered_map}
use Rattle.mz_rules.proofs.laws.changes_only_move.Goals as goal

pub returns-clause-comes : goal.returns-clause-comes
returns-clause-comes c = comes_on

pub returns-clause-keeps : goal.returns-clause-keeps
returns-clause-keeps c = kept_on

pub returns-clause-goes : goal.returns-clause-goes
returns-clause-goes c = gone_on

pub returns-clause-all : goal.returns-clause-all
returns-clause-all c = all_move

pub returns-clause-numbers : goal.returns-clause-numbers
returns-clause-numbers c = numbered_map
