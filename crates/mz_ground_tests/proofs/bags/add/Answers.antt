use Rattle.std.proofs.Common.{◌≡◌, Bool, true, false, cond, ℤ, ◌+ℤ◌, List, Result, Ok, Err, OnOk, OnErr, FitsSigned, SFits, sym, subst, rules}
use Rattle.std.specs.Int.{w32, w128}
use Rattle.std.proofs.lemmas.Int.{ints, to_z-of_z}
use Rattle.mz_value.specs.declared.datum.Datum.{Datum}
use Rattle.mz_value.specs.Row.{row_eq}
use Rattle.mz_bag.specs.Bag.{Counts, count_in, with_count}
use Rattle.mz_bag.proofs.BagLaws.{count_in-with_count}
use Rattle.mz_ground_tests.proofs.bags.add.Goals as goal

-- a small count that is set leaves each count small
small_set : {E : Type 0} (r : Result (Unit {0}) E) (old new : Counts) (row : List Datum) (n : ℤ) → OnOk r (new ≡ with_count old row n) → OnErr r (new ≡ old) → FitsSigned w32 n → ((q : List Datum) → FitsSigned w32 (count_in old q)) → (q : List Datum) → FitsSigned w32 (count_in new q)
small_set (Ok u) old new row n ok err fits small q = subst (λ (b : Counts). FitsSigned w32 (count_in b q)) (sym ok) (subst (FitsSigned w32) (sym (count_in-with_count old row n q)) (by (row_eq q row)))
  where
    by : (c : Bool) → FitsSigned w32 (cond c n (count_in old q))
    by true = fits
    by false = small q
small_set (Err e) old new row n ok err fits small q = subst (λ (b : Counts). FitsSigned w32 (count_in b q)) (sym err) (small q)

-- the count that was looked at is small
pub returns : goal.returns
returns g c =
    let ranged : SFits w128 c.from.result = search (rules, ints) in
    let fits : SFits w32 (count_in c.args.bag.now c.args.row +ℤ c.from.result) = search (rules, ints) in
    λ small. small_set c.add.result c.args.bag.now c.add.new.self c.args.row (count_in c.args.bag.now c.args.row +ℤ c.from.result) (rw to_z-of_z at c.add.ensures.ok) c.add.ensures.err fits small
