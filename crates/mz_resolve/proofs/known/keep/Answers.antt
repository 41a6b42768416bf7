use Rattle.std.proofs.Common.{◌∙◌, nat_eq}
use Rattle.indexmap.proofs.CallerLemmas.{insert_entry-new}
use Rattle.mz_resolve.proofs.KnownLemmas.{none_known}
use Rattle.mz_resolve.proofs.known.keep.Goals as goal

-- what isn't known goes last
pub returns-clause-ok : goal.returns-clause-ok
returns-clause-ok c =
    c.in_ok-insert.ensures.entries
    ∙ insert_entry-new nat_eq c.args.known.now c.args.id c.args.kept (none_known c.args.known.now.entries c.args.id c.requires)
