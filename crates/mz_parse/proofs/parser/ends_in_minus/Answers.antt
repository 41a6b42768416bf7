use Rattle.std.proofs.Common.{◌∙◌}
use Rattle.mz_parse.proofs.PlaceLemmas.{last_minus}
use Rattle.mz_parse.proofs.parser.ends_in_minus.Goals as goal

-- by the last of the tokens
pub returns-in-len1-up : goal.returns-in-len1-up
returns-in-len1-up c = c.is_minus.ensures ∙ last_minus c.args.tokens.now c.last-item.result c.in-len1-up.len_at_least c.last-item.is
