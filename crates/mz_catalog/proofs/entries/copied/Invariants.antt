use Rattle.std.proofs.Common.{◌≡◌, ◌++◌}
use Rattle.mz_catalog.proofs.entries.copied.Given as goal

-- the entries so far are copied, and with those to come they are all
abbrev pub invariant-entries : goal.invariant-entries
invariant-entries l = l.copy.entries ++ l.name-iterator ≡ l.items.entries
