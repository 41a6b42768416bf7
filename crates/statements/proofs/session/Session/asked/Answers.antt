-- What resolves in the catalog of the sequential object is asked for over its items.
use Rattle.std.proofs.Common.{◌≡◌, ℕ, Result, Ok, Err, subst}
use Rattle.std.specs.Prelude.{IfOk}
use Rattle.mz_statement.specs.declared.statement.Statement.{Statement}
use Rattle.mz_plan.specs.declared.resolved.Resolved.{Resolved}
use Rattle.mz_refusal.specs.declared.fault.CallFault.{CallFault}
use Rattle.mz_catalog.specs.CatalogState.{CatalogState}
use Rattle.mz_log.specs.Sequential.{Database}
use Rattle.mz_resolution.specs.Resolution.{resolution}
use Rattle.mz_select.specs.Gives.{Is}
use Rattle.mz_resolve.specs.InCatalog.{scope_in}
use Rattle.mz_seq.specs.Asked.{IsAsked}
use Rattle.mz_seq.specs.Tables.{catalog_of}
use Rattle.statements.proofs.session.Session.asked.Goals as goal

-- what is found in the catalog of a database
found_there : (database : Database) (cluster : ℕ) (statement : Statement) (catalog : CatalogState) (found : Result Resolved CallFault)
    → catalog ≡ catalog_of database → Is found (resolution (scope_in catalog cluster) statement)
    → IfOk found (λ asked. IsAsked database.items asked)
found_there database cluster statement catalog (Ok asked) same is = record {
  cluster = cluster;
  statement = statement;
  is = subst (λ (c : CatalogState). resolution (scope_in c cluster) statement ≡ Ok asked) same is;
}
found_there database cluster statement catalog (Err fault) same is = tt

-- src/session.rt
pub returns : goal.returns
returns c =
    found_there c.args.self.now.seq.present c.args.self.now.cluster c.args.statement.now c.catalog.result.now c.resolve.result c.catalog.ensures.now c.resolve.ensures
