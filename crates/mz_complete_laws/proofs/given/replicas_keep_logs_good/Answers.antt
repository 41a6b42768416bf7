-- Each clause is a lemma.
use Rattle.mz_complete_laws.proofs.GivenReplicas.{add_cluster_good, add_good, crash_good, rejoin_good}
use Rattle.mz_complete_laws.proofs.given.replicas_keep_logs_good.Goals as goal

pub returns-clause-crash : goal.returns-clause-crash
returns-clause-crash c = crash_good

pub returns-clause-rejoin : goal.returns-clause-rejoin
returns-clause-rejoin c = rejoin_good

pub returns-clause-add : goal.returns-clause-add
returns-clause-add c = add_good

pub returns-clause-add_cluster : goal.returns-clause-add_cluster
returns-clause-add_cluster c = add_cluster_good
