use Rattle.std.proofs.Common.{SFits, arith}
use Rattle.std.specs.Int.{w32}
use Rattle.std.proofs.lemmas.Int.{ints}
use Rattle.mz_bag.specs.Bag.{count_in}
use Rattle.mz_ground_tests.proofs.bags.a_merge_adds_and_cancels.Goals as goal

-- small counts have a small sum
pub merge-requires : goal.merge-requires
merge-requires g c = record {
  fits = λ q.
      let first : SFits w32 (count_in c.in_ok-all.all q) = c.in_ok-all.ensures q in
      let second : SFits w32 (count_in c.in_ok-more.more q) = c.in_ok-more.ensures q in
      record { low = omega (arith, ints); high = omega (arith, ints) };
}
