use Rattle.std.proofs.Common.{◌≡◌, length}
use Rattle.mz_seq.specs.Tables.{settled}
use Rattle.mz_seq.proofs.RoundLemmas.{done_to}
use Rattle.mz_seq.proofs.tables.mark_each.Given as goal

-- the tables before the place are done
abbrev pub invariant-places : goal.invariant-places
invariant-places l = record {
  done : l.tables.items ≡ done_to l.place (λ table. settled table.number table.rows.present) l.initial.tables.items;
  same_length : length l.tables.items ≡ length l.initial.tables.items;
}
