use Rattle.std.proofs.Common.{◌∙◌, bytes_eq}
use Rattle.indexmap.proofs.CallerLemmas.{insert_entry-new}
use Rattle.mz_catalog.proofs.entries.push.Goals as goal

-- a new name goes last
pub returns-clause-ok : goal.returns-clause-ok
returns-clause-ok c = c.in_ok-insert.ensures.entries ∙ insert_entry-new bytes_eq c.args.items.now c.args.name c.args.item c.requires
