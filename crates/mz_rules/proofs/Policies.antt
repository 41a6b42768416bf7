-- What a policy makes of the capability before.
use Rattle.std.proofs.Common.{ℕ, ◌≡◌, ◌<◌, ◌≤◌, ◌+◌, ◌-◌, min, max, refl, ap, arith}
use Rattle.mz_time.specs.declared.frontier.Frontier.{Frontier}
use Rattle.mz_time.specs.declared.frontier.Frontier.TheVariants.{At, Done}
use Rattle.mz_time.specs.Frontier.{Le}
use Rattle.mz_statement.specs.declared.statement.Keep.{Keep}
use Rattle.mz_statement.specs.declared.statement.Keep.TheVariants.{Lag, From, Stay}
use Rattle.mz_statement.specs.Statement.{IsKeep}
use Rattle.mz_rules.specs.Frontiers.{IsWithin}
use Rattle.mz_rules.specs.Policy.{raised}

-- a policy never goes back
pub never_back : (keep : Keep) (upper : ℕ) (f : Frontier) → Le f (raised keep upper f)
never_back keep upper Done = tt
never_back keep upper (At old) = omega arith

-- a policy keeps the last readable time at least, or what was kept before
pub within : (keep : Keep) (upper bound : ℕ) (f : Frontier) → IsKeep keep → upper ≤ bound + 1 → IsWithin bound f
    → IsWithin bound (raised keep upper f)
within keep upper bound Done k h p = tt
within (Lag n) upper bound (At old) k h p = omega (arith, k.low)
within (From t) upper bound (At old) k h p = omega arith
within Stay upper bound (At old) k h p = omega arith

-- applied again at the same upper, it changes nothing
pub once : (keep : Keep) (upper : ℕ) (f : Frontier) → raised keep upper (raised keep upper f) ≡ raised keep upper f
once keep upper Done = refl
once (Lag n) upper (At old) = let same : max (max old (upper - n)) (upper - n) ≡ max old (upper - n) = omega arith in ap At same
once (From t) upper (At old) =
    let same : max (max old (min t (upper - 1))) (min t (upper - 1)) ≡ max old (min t (upper - 1)) = omega arith in ap At same
once Stay upper (At old) = let same : max (max old old) (max old old) ≡ max old old = omega arith in ap At same

-- a later upper, or a later capability before, gives no earlier one
pub keeps_order : (keep : Keep) (upper later : ℕ) (f g : Frontier) → upper ≤ later → Le f g → Le (raised keep upper f) (raised keep later g)
keeps_order keep upper later Done (At u) h p = absurd p
keeps_order keep upper later Done Done h p = tt
keeps_order (Lag n) upper later (At t) (At u) h p = omega arith
keeps_order (From v) upper later (At t) (At u) h p = omega arith
keeps_order Stay upper later (At t) (At u) h p = omega arith
keeps_order keep upper later (At t) Done h p = tt

-- a lag comes to so many times behind the upper, where nothing later was kept
pub comes_lag : (n upper old : ℕ) → old ≤ upper - n → raised (Lag n) upper (At old) ≡ At (upper - n)
comes_lag n upper old h = let same : max old (upper - n) ≡ upper - n = omega arith in ap At same

-- a fixed time is kept once it is readable
pub comes_from : (t upper old : ℕ) → t < upper → old ≤ t → raised (From t) upper (At old) ≡ At t
comes_from t upper old p h = let same : max old (min t (upper - 1)) ≡ t = omega arith in ap At same

-- and what stays is what was kept
pub comes_stay : (upper : ℕ) (f : Frontier) → raised Stay upper f ≡ f
comes_stay upper Done = refl
comes_stay upper (At old) = let same : max old old ≡ old = omega arith in ap At same
