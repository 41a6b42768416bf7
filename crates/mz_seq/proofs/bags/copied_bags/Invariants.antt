use Rattle.std.proofs.Common.{◌≡◌, ◌++◌, drop}
use Rattle.mz_seq.specs.Tables.{bags_now}
use Rattle.mz_seq.proofs.bags.copied_bags.Given as goal

-- the tables that are copied, with those to come, make all of them
abbrev pub invariant-tables : goal.invariant-tables
invariant-tables l = l.bags.items ++ bags_now (drop l.table-index l.tables) ≡ bags_now l.tables
