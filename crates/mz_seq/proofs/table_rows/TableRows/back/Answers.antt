use Rattle.std.proofs.Common.{sym, ap, subst, ◌∙◌}
use Rattle.mz_bag.specs.Bag.{map_of}
use Rattle.mz_bag.specs.Weighted.{negation_of}
use Rattle.mz_seq.specs.Stored.{IsTable}
use Rattle.mz_seq.proofs.UsedLemmas.{back_used}
use Rattle.mz_seq.proofs.ViewLemmas.{back_fits, back_covers, covers_none, now_back, marked_kept, then_now}
use Rattle.mz_seq.proofs.table_rows.TableRows.back.Goals as goal

-- the counts of then fit
pub add_each-requires-clause-fits : goal.add_each-requires-clause-fits
add_each-requires-clause-fits c =
    back_fits c.self.inside.counts.entries c.self.inside.changes (map_of c.counts-rows.result.now.entries) c.self.inside.before
    (c.counts-rows.ensures.counts ∙ c.negate.ensures ∙ ap negation_of c.replace-gone.ensures.value) c.self.invariant.then

-- and each row that changed has a place
pub add_each-requires-clause-there : goal.add_each-requires-clause-there
add_each-requires-clause-there c =
    back_covers c.self.inside.counts.entries c.self.inside.changes (map_of c.counts-rows.result.now.entries) (c.counts-rows.ensures.counts ∙ c.negate.ensures ∙ ap negation_of c.replace-gone.ensures.value) c.self.invariant.covers

-- nothing came since, so nothing has to be covered
pub sweep-requires : goal.sweep-requires
sweep-requires c = covers_none c.add_each.new.counts.entries c.replace-gone.new.dest (c.replace-gone.ensures.after ∙ c.empty.ensures)

-- the rows of then are those of now
pub invariant_of-self : goal.invariant_of-self
invariant_of-self c =
    let s = c.self.inside in
    let none = c.replace-gone.new.dest in
    marked_kept c.sweep.new.counts.entries none s.before (c.replace-gone.ensures.after ∙ c.empty.ensures)
    (back_used s.counts.entries c.add_each.new.counts.entries c.sweep.new.counts.entries c.counts-rows.result.now.entries s.changes none (c.replace-gone.ensures.after ∙ c.empty.ensures)
    (c.counts-rows.ensures.counts ∙ c.negate.ensures ∙ ap negation_of c.replace-gone.ensures.value) c.self.invariant.used (λ q. c.add_each.ensures.places q) c.add_each.ensures.counts
    c.sweep.ensures.stays c.sweep.ensures.counts c.sweep.ensures.gone)
    (subst (IsTable s.before) (sym (now_back s.counts.entries c.sweep.new.counts.entries s.changes (map_of c.counts-rows.result.now.entries)
    (c.counts-rows.ensures.counts ∙ c.negate.ensures ∙ ap negation_of c.replace-gone.ensures.value) (λ q. c.sweep.ensures.counts q ∙ c.add_each.ensures.counts q))) c.self.invariant.then)

pub returns-clause-present : goal.returns-clause-present
returns-clause-present c =
    now_back c.self.inside.counts.entries c.sweep.new.counts.entries c.self.inside.changes (map_of c.counts-rows.result.now.entries)
    (c.counts-rows.ensures.counts ∙ c.negate.ensures ∙ ap negation_of c.replace-gone.ensures.value) (λ q. c.sweep.ensures.counts q ∙ c.add_each.ensures.counts q)
    ∙ ap (λ t. t.marked) c.self.view_is

pub returns-clause-marked : goal.returns-clause-marked
returns-clause-marked c =
    then_now c.sweep.new.counts.entries c.replace-gone.new.dest (c.replace-gone.ensures.after ∙ c.empty.ensures)
    ∙ now_back c.self.inside.counts.entries c.sweep.new.counts.entries c.self.inside.changes (map_of c.counts-rows.result.now.entries)
    (c.counts-rows.ensures.counts ∙ c.negate.ensures ∙ ap negation_of c.replace-gone.ensures.value) (λ q. c.sweep.ensures.counts q ∙ c.add_each.ensures.counts q)
    ∙ ap (λ t. t.marked) c.self.view_is
