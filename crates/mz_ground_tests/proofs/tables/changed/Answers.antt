use Rattle.std.proofs.Common.{◌≡◌, ◌≤◌, SFits, sym, ap, subst, arith}
use Rattle.std.specs.Int.{w32}
use Rattle.std.proofs.lemmas.Int.{ints}
use Rattle.mz_bag.specs.Bag.{count_in}
use Rattle.mz_tables.specs.Table.{table_at}
use Rattle.mz_ground_tests.proofs.tables.changed.Goals as goal

-- small counts have a small sum
pub append-requires-clause-fits : goal.append-requires-clause-fits
append-requires-clause-fits g c = record {
  fits = λ t from later. record {
    fits = λ q.
        let first : SFits w32 (count_in (table_at c.args.store.now.present t) q) = c.requires.small t q (subst (λ n. n ≤ t) c.requires.since from) in
        let second : SFits w32 (count_in c.in_ok-changes.changes q) = c.in_ok-changes.ensures q in
        record { low = omega (arith, ints); high = omega (arith, ints) };
  };
}
