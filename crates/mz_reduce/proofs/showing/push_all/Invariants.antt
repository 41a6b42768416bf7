use Rattle.std.proofs.Common.{◌≡◌, ◌++◌, pos}
use Rattle.std.specs.List.{AllByRecursion}
use Rattle.mz_bag.specs.Bag.{IsBag}
use Rattle.mz_keyed.specs.Keyed.{rows_of}
use Rattle.mz_reduce.specs.Grouping.{all_shown}
use Rattle.mz_reduce.proofs.showing.push_all.Given as goal

-- the rows so far, with those of the keys that are left, are all
abbrev pub invariant-keys : goal.invariant-keys
invariant-keys l = record {
  made : l.out.items ++ all_shown l.aggregates l.groups (pos 1) l.key-iterator ≡ l.initial.out.items ++ all_shown l.aggregates l.groups (pos 1) l.keys.keys;
  bags : AllByRecursion (λ key. IsBag (rows_of l.groups key)) l.key-iterator → AllByRecursion (λ key. IsBag (rows_of l.groups key)) l.keys.keys;
}
