-- Each clause is a lemma on times that go.
use Rattle.mz_counted.proofs.Multiset.{counts_go, comes_back, fewer_go}
use Rattle.mz_counted.proofs.laws.times_go.Goals as goal

pub returns-clause-counts : goal.returns-clause-counts
returns-clause-counts c = counts_go

pub returns-clause-back : goal.returns-clause-back
returns-clause-back c = comes_back

pub returns-clause-fewer : goal.returns-clause-fewer
returns-clause-fewer c = fewer_go
