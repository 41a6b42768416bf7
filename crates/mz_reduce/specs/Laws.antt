-- What groups and distinct rows read, and what their loads are.
use Rattle.std.specs.Prelude.{ℕ, ◌+◌, ◌*◌, ◌^◌, List}
use Rattle.std.proofs.Common.{◌∙◌, ap, arith}
use Rattle.mz_bag.specs.Bag.{Counts}
use Rattle.mz_bag.specs.Weighted.{count}
use Rattle.mz_plan.specs.Operators.{distinct, filtered}
use Rattle.mz_plan.specs.declared.aggregate.Aggregate.{Aggregate}
use Rattle.mz_plan_laws.proofs.MeaningLaws.{grouped_same}
use Rattle.mz_plan_laws.proofs.OperatorLaws.{distinct_same, filter_alike}
use Rattle.mz_keyed.specs.Keyed.{Keyed}
use Rattle.mz_keyed.proofs.KeyedLaws.{kept_same}
use Rattle.mz_ops.specs.Change.{IsLoad, Load, ReadsCounts}
use Rattle.mz_reduce.specs.Counting.{IsCountOf}
use Rattle.mz_reduce.specs.Grouping.{grouped_ints, sums_ints}
use Rattle.mz_reduce.specs.Orders.{Orders}
use Rattle.mz_reduce.specs.Totals.{AreKeptGroups, KeyTotals}

-- ---- what is read

-- distinct rows read counts, and stand for rows that are counted
pub distinct_reads : (bag : Counts) → ReadsCounts (λ ls rs. distinct ls) (λ ls rs. IsCountOf bag ls)
distinct_reads bag = record {
  gives = λ ls rs ms ns h k q. ap (count q) (distinct_same ls ms h);
  keeps = λ ls rs ms ns h k s. record { each = λ row. s.each row ∙ h row };
}

-- groups read counts, and stand for rows that are kept by their keys
pub group_reads : (places : List ℕ) (aggregates : List Aggregate) (groups : Keyed) (totals : KeyTotals) (orders : Orders)
    → ReadsCounts (λ ls rs. grouped_ints places aggregates ls) (λ ls rs. AreKeptGroups places aggregates groups totals orders ls)
group_reads places aggregates groups totals orders = record {
  gives = λ ls rs ms ns h k q. ap (count q)
      (grouped_same places aggregates (filtered (sums_ints aggregates) ls) (filtered (sums_ints aggregates) ms)
      (filter_alike (sums_ints aggregates) ls ms h));
  keeps = λ ls rs ms ns h k s. record {
    rows = kept_same places groups (filtered (sums_ints aggregates) ls) (filtered (sums_ints aggregates) ms)
        (filter_alike (sums_ints aggregates) ls ms h) s.rows;
    totals_are = s.totals_are;
    orders_are = s.orders_are;
  };
}

-- ---- loads

-- the masses of both sides and of their changes
abbrev pub kept_load : Load
kept_load a b m n = a + b + m + n

-- which is a load
pub kept_loads : IsLoad kept_load
kept_loads = record {
  covers = λ a b m n. omega arith;
  grows = λ a b m n c d k l f g h i. omega (arith, f, g, h, i);
}

-- and so often the greatest size of an INT
abbrev pub group_load : Load
group_load a b m n = (a + b + m + n) * 2 ^ 31

-- which is one too
pub group_loads : IsLoad group_load
group_loads = record {
  covers = λ a b m n. omega arith;
  grows = λ a b m n c d k l f g h i. omega (arith, f, g, h, i);
}
