use Rattle.std.proofs.Common.{Some, cond, ap, ◌∙◌}
use Rattle.mz_value.specs.Row.{row_eq}
use Rattle.mz_reduce.specs.Totals.{totals_of}
use Rattle.mz_reduce.proofs.TotalsLaws.{not_put, totals_changed}
use Rattle.mz_reduce.proofs.totals.put_back.Goals as goal

-- the key has rows
pub returns-in_ok-insert-in-Some : goal.returns-in_ok-insert-in-Some
returns-in_ok-insert-in-Some c = record {
  put = λ aggregates gone is other.
      totals_changed aggregates c.args.totals.now.entries c.insert.new.self.entries c.args.key (Some c.from_vec.result)
      c.in_ok-insert-in-Some.ensures.updates.0 other
      ∙ ap (λ numbers. cond (row_eq c.args.key other) numbers (totals_of aggregates c.args.totals.now.entries other)) c.from_vec.ensures;
}

-- or none
pub returns-in-None : goal.returns-in-None
returns-in-None c = not_put c.args.groups.now c.args.key c.args.numbers.items c.args.totals.now.entries c.in-None.ensures
