use Rattle.std.proofs.Common.{◌≡◌, Ok, Err, sym, subst, ◌∙◌}
use Rattle.mz_catalog.specs.CatalogState.{CatalogState}
use Rattle.mz_resolution.specs.Resolution.{resolution}
use Rattle.mz_resolve.specs.InCatalog.{scope_in}
use Rattle.mz_kept_laws.proofs.CarryingOut.{query_carried, refused_carried}
use Rattle.mz_plain.proofs.CarryingNext.{command_if}
use Rattle.mz_plain.proofs.carry.carry_out.Goals as goal

-- a query is refused
pub returns-then-is_query-clause-done : goal.returns-then-is_query-clause-done
returns-then-is_query-clause-done c =
    query_carried c.args.seq.now.present c.args.made.now.items c.args.statement.now c.in-Ok.asked (sym c.is_query.ensures ∙ c.if-is_query.true)
    (subst (λ (catalog : CatalogState). resolution (scope_in catalog 0) c.args.statement.now ≡ Ok c.in-Ok.asked) c.catalog.ensures.now c.in-Ok.ensures)

-- what else is asked for is a command over the items
pub carry_out_asked-requires-clause-asked : goal.carry_out_asked-requires-clause-asked
carry_out_asked-requires-clause-asked c = record {
  cluster = 0;
  statement = c.args.statement.now;
  is = subst (λ (catalog : CatalogState). resolution (scope_in catalog 0) c.args.statement.now ≡ Ok c.in-Ok.asked) c.catalog.ensures.now c.in-Ok.ensures;
}

-- which is carried out
pub returns-else-is_query-clause-done : goal.returns-else-is_query-clause-done
returns-else-is_query-clause-done c =
    command_if c.args.seq.now.present c.carry_out_asked.new.seq.present c.args.made.now.items c.carry_out_asked.new.made.items c.args.statement.now
    c.in-Ok.asked c.carry_out_asked.result
    (subst (λ (catalog : CatalogState). resolution (scope_in catalog 0) c.args.statement.now ≡ Ok c.in-Ok.asked) c.catalog.ensures.now c.in-Ok.ensures)
    c.carry_out_asked.ensures.done c.carry_out_asked.ensures.made

-- a statement that doesn't resolve is refused
pub returns-in-Err-Refused-clause-done : goal.returns-in-Err-Refused-clause-done
returns-in-Err-Refused-clause-done c = rw c.in-Err-Refused.field-0-is
    (refused_carried c.args.seq.now.present c.args.made.now.items c.args.statement.now c.in-Err-Refused.refusal
    (subst (λ (catalog : CatalogState). resolution (scope_in catalog 0) c.args.statement.now ≡ Err c.in-Err-Refused.refusal) c.catalog.ensures.now
    (rw c.in-Err-Refused.field-0-is at c.in-Err-Refused.ensures)))
