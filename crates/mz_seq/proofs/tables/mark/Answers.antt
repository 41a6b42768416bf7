use Rattle.std.proofs.Common.{map, ap, ◌∙◌}
use Rattle.mz_seq.specs.Tables.{bags_had, bags_now, bags_then}
use Rattle.mz_seq.proofs.HadLemmas.{settled_had}
use Rattle.mz_seq.proofs.RoundLemmas.{settled_now, settled_then}
use Rattle.mz_seq.proofs.tables.mark.Goals as goal

-- the tables that stay have the rows that they had
pub returns-clause-now : goal.returns-clause-now
returns-clause-now c =
    ap bags_now c.mark_each.ensures ∙ settled_now (λ t. t.rows.present) c.keep_present.new.tables.items
    ∙ ap (map (λ t. (t.number, t.rows.present))) c.keep_present.ensures

-- at the mark too
pub returns-clause-then : goal.returns-clause-then
returns-clause-then c =
    ap bags_then c.mark_each.ensures ∙ settled_then (λ t. t.rows.present) c.keep_present.new.tables.items
    ∙ ap (map (λ t. (t.number, t.rows.present))) c.keep_present.ensures

pub returns-clause-had : goal.returns-clause-had
returns-clause-had c =
    ap bags_had c.mark_each.ensures ∙ settled_had (λ t. t.rows.present) c.keep_present.new.tables.items
    ∙ ap (map (λ t. (t.number, t.rows.present))) c.keep_present.ensures
