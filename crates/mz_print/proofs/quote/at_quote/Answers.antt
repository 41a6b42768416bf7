use Rattle.mz_print.proofs.Writing.{doubled_parts}
use Rattle.mz_print.proofs.quote.at_quote.Goals as goal

-- by the first quote
pub returns-clause-parts : goal.returns-clause-parts
returns-clause-parts c = doubled_parts c.args.text.now c.split_once.result c.split_once.ensures.cases
