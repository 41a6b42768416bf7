-- What the operators read, and what their loads are.
use Rattle.std.specs.Prelude.{ℕ, ◌+◌, ◌*◌, ◌≤◌, ⊤, Bool, List, ◌++◌}
use Rattle.std.proofs.Common.{◌≡◌, mul-le-mul, mul-add, add-mul, arith}
use Rattle.mz_value.specs.declared.datum.Datum.{Datum}
use Rattle.mz_plan.specs.Operators.{filtered, projected, joined}
use Rattle.mz_plan_laws.proofs.OperatorLaws.{filter_alike, projection_alike, union_alike, join_alike}
use Rattle.mz_keyed.specs.Keyed.{Keyed}
use Rattle.mz_keyed.proofs.KeyedLaws.{kept_same}
use Rattle.mz_ops.specs.Change.{IsLoad, Load, ReadsCounts}
use Rattle.mz_ops.specs.Joining.{firsts, seconds, AreBothKept}

-- ---- what is read

-- a filter reads counts, and stands for all rows
pub filter_reads : (keeps : List Datum → Bool) → ReadsCounts (λ ls rs. filtered keeps ls) (λ ls rs. ⊤)
filter_reads keeps = record {
  gives = λ ls rs ms ns h k. filter_alike keeps ls ms h;
  keeps = λ ls rs ms ns h k s. s;
}

-- and a projection
pub projection_reads : (places : List ℕ) → ReadsCounts (λ ls rs. projected places ls) (λ ls rs. ⊤)
projection_reads places = record {
  gives = λ ls rs ms ns h k. projection_alike places ls ms h;
  keeps = λ ls rs ms ns h k s. s;
}

-- and a union
pub union_reads : ReadsCounts (λ ls rs. ls ++ rs) (λ ls rs. ⊤)
union_reads = record {
  gives = λ ls rs ms ns h k. union_alike ls ms rs ns h k;
  keeps = λ ls rs ms ns h k s. s;
}

-- a join reads counts, and stands for rows that are kept
pub join_reads : (pairs : List (ℕ × ℕ)) (lefts rights : Keyed)
    → ReadsCounts (joined pairs) (AreBothKept pairs lefts rights)
join_reads pairs lefts rights = record {
  gives = λ ls rs ms ns h k. join_alike pairs ls ms rs ns h k;
  keeps = λ ls rs ms ns h k s. record {
    left = kept_same (firsts pairs) lefts ls ms h s.left;
    right = kept_same (seconds pairs) rights rs ns k s.right;
  };
}

-- ---- loads

-- the masses of both changes
abbrev pub sum_load : Load
sum_load a b m n = m + n

-- which is a load
pub sum_loads : IsLoad sum_load
sum_loads = record {
  covers = λ a b m n. omega arith;
  grows = λ a b m n c d k l f g h i. omega (arith, h, i);
}

-- the product of both sides with their changes, each with 1 more
abbrev pub product_load : Load
product_load a b m n = (1 + a + m) * (1 + b + n)

-- which is one too
pub product_loads : IsLoad product_load
product_loads = record {
  covers = λ a b m n.
      let parts : (1 + (a + m)) * (1 + (b + n)) ≡ 1 * (1 + (b + n)) + (a + m) * (1 + (b + n)) =
      add-mul 1 (a + m) (1 + (b + n)) in
      let more : (a + m) * (1 + (b + n)) ≡ (a + m) * 1 + (a + m) * (b + n) =
      mul-add (a + m) 1 (b + n) in
      let same : (1 + a + m) * (1 + b + n) ≡ (1 + (a + m)) * (1 + (b + n)) =
      λ i. (plain a m i) * (plain b n i) in
      omega (arith, parts, more, same);
  grows = λ a b m n c d k l f g h i.
      let left : 1 + a + m ≤ 1 + c + k = omega (arith, f, h) in
      let right : 1 + b + n ≤ 1 + d + l = omega (arith, g, i) in
      mul-le-mul left right;
}
  where
    plain : (m n : ℕ) → 1 + m + n ≡ 1 + (m + n)
    plain m n = omega arith
