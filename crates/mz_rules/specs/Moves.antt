-- What becomes of one collection: it comes on, gets another policy, or is let go.
use Rattle.std.specs.Prelude.{ℕ}
use Rattle.mz_time.specs.declared.frontier.Frontier.TheVariants.{Done}
use Rattle.mz_statement.specs.declared.statement.Keep.{Keep}
use Rattle.mz_rules.specs.declared.capability.Collection.{Collection}
use Rattle.mz_rules.specs.Policy.{raised}

-- the collection once it has come so far, and its policy had its say
abbrev pub come_to : ℕ → Collection → Collection
come_to upper c = record c { upper = upper; implied = raised c.keep upper c.implied }

-- the collection under another policy, which has its say at once
abbrev pub kept_by : Keep → Collection → Collection
kept_by keep c = record c { keep = keep; implied = raised keep c.upper c.implied }

-- the collection once its item is dropped: nothing is kept for its own sake, and its holds, peeks and readers still hold it back
abbrev pub let_go : Collection → Collection
let_go c = record c { implied = Done }
