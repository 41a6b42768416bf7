use Rattle.std.proofs.Common.{◌≡◌, pos, sym, ◌∙◌, arith}
use Rattle.std.proofs.lemmas.Int.{ints}
use Rattle.mz_seq.proofs.StoredLemmas.{covers_taken, zero_taken}
use Rattle.mz_seq.proofs.UsedLemmas.{gone_used, none_comes}
use Rattle.mz_seq.proofs.counts.let_go.Goals as goal

-- a row that was there with the count 0 counts 0 when it is gone
pub returns-then-get-eq0-clause-counts : goal.returns-then-get-eq0-clause-counts
returns-then-get-eq0-clause-counts c =
    let zero : c.count_of.result ≡ pos 0 = omega (arith, ints) in
    zero_taken c.args.counts.now.entries c.swap_remove.new.self.entries c.args.row.now c.swap_remove.ensures.updates.0 (sym c.count_of.ensures ∙ zero)

-- and the changes count it 0
pub returns-then-get-eq0-clause-covers : goal.returns-then-get-eq0-clause-covers
returns-then-get-eq0-clause-covers c =
    let zero : c.get.result ≡ pos 0 = omega (arith, ints) in
    covers_taken c.args.counts.now.entries c.swap_remove.new.self.entries c.args.row.now c.args.changes.now c.swap_remove.ensures.updates.0
    (sym c.get.ensures.count ∙ zero)

-- it isn't stored
pub returns-then-get-eq0-clause-stays : goal.returns-then-get-eq0-clause-stays
returns-then-get-eq0-clause-stays c = none_comes c.args.counts.now.entries c.swap_remove.new.self.entries c.args.row.now c.swap_remove.ensures.updates.0

pub returns-then-get-eq0-clause-gone : goal.returns-then-get-eq0-clause-gone
returns-then-get-eq0-clause-gone c =
    gone_used c.args.counts.now.entries c.swap_remove.new.self.entries c.args.row.now c.args.changes.now c.swap_remove.ensures.updates.0
