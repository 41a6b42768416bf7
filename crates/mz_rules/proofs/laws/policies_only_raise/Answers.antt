-- Each clause is a lemma, by cases of the policy.
use Rattle.mz_rules.proofs.Policies.{never_back, within, once, keeps_order}
use Rattle.mz_rules.proofs.laws.policies_only_raise.Goals as goal

pub returns-clause-never_back : goal.returns-clause-never_back
returns-clause-never_back c = never_back

pub returns-clause-within : goal.returns-clause-within
returns-clause-within c = within

pub returns-clause-once : goal.returns-clause-once
returns-clause-once c = once

pub returns-clause-keeps_order : goal.returns-clause-keeps_order
returns-clause-keeps_order c = keeps_order
