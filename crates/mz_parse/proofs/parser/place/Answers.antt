use Rattle.mz_parse.proofs.PlaceLemmas.{place_at, place_behind}
use Rattle.mz_parse.proofs.parser.place.Goals as goal

-- the token's start
pub returns-in-Some : goal.returns-in-Some
returns-in-Some c = place_at c.args.text.now c.args.tokens.now c.args.before c.in-Some.token.now c.in-Some.ensures.lookup.3.0 c.in-Some.ensures.lookup.1

-- the text's length
pub returns-in-None : goal.returns-in-None
returns-in-None c = place_behind c.args.text.now c.args.tokens.now c.args.before c.in-None.ensures.lookup.3
