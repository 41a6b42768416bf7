-- The bags of tables, of which no two have one number.
use Rattle.std.proofs.Common.{◌≡◌, ℕ, ◌==◌, Bool, true, false, ◌||◌, cond, not, [], ◌∷◌, ◌++◌, refl, ap, ◌∙◌}
use Rattle.mz_bag.specs.Bag.{Counts}
use Rattle.mz_bag.specs.Weighted.{Weighted}
use Rattle.mz_log.specs.Sequential.{Bags, added, bag_at, with_rows, without_bag}
use Rattle.mz_seq.specs.Tables.{has_bag, AreApart}

-- neither of two
pub neither : (b c : Bool) → (b || c) ≡ false → (b ≡ false) × (c ≡ false)
neither true c h = cc
neither false c h = (refl, h)

-- ---- bags of other numbers

rows_not : (n : ℕ) (ws : Weighted) (bags : Bags) → has_bag n bags ≡ false → with_rows n ws bags ≡ bags
rows_not n ws [] lacks = refl
rows_not n ws (bag ∷ bags) lacks =
    let other = neither (bag.0 == n) (has_bag n bags) lacks in
    λ i. cond (other.0 i) (bag.0, added bag.1 ws) bag ∷ rows_not n ws bags other.1 i

stays : (n : ℕ) (bags : Bags) → has_bag n bags ≡ false → without_bag n bags ≡ bags
stays n [] lacks = refl
stays n (bag ∷ bags) lacks =
    let other = neither (bag.0 == n) (has_bag n bags) lacks in
    (λ i. cond (not (other.0 i)) (bag ∷ without_bag n bags) (without_bag n bags)) ∙ ap (λ rest. bag ∷ rest) (stays n bags other.1)

-- ---- a bag among others

pub at_among : (n : ℕ) (bag : ℕ × Counts) (bs cs : Bags) → has_bag n bs ≡ false → bag.0 == n ≡ true → bag_at (bs ++ bag ∷ cs) n ≡ bag.1
at_among n bag [] cs lacks here = ap (λ b. cond b bag.1 (bag_at cs n)) here
at_among n bag (b ∷ bs) cs lacks here =
    let other = neither (b.0 == n) (has_bag n bs) lacks in
    ap (λ t. cond t b.1 (bag_at (bs ++ bag ∷ cs) n)) other.0 ∙ at_among n bag bs cs other.1 here

pub rows_among : (n : ℕ) (ws : Weighted) (bag : ℕ × Counts) (bs cs : Bags) → has_bag n bs ≡ false → has_bag n cs ≡ false → bag.0 == n ≡ true
    → with_rows n ws (bs ++ bag ∷ cs) ≡ bs ++ (bag.0, added bag.1 ws) ∷ cs
rows_among n ws bag [] cs lacks behind here = λ i. cond (here i) (bag.0, added bag.1 ws) bag ∷ rows_not n ws cs behind i
rows_among n ws bag (b ∷ bs) cs lacks behind here =
    let other = neither (b.0 == n) (has_bag n bs) lacks in
    λ i. cond (other.0 i) (b.0, added b.1 ws) b ∷ rows_among n ws bag bs cs other.1 behind here i

pub without_among : (n : ℕ) (bag : ℕ × Counts) (bs cs : Bags) → has_bag n bs ≡ false → has_bag n cs ≡ false → bag.0 == n ≡ true
    → without_bag n (bs ++ bag ∷ cs) ≡ bs ++ cs
without_among n bag [] cs lacks behind here =
    ap (λ b. cond (not b) (bag ∷ without_bag n cs) (without_bag n cs)) here ∙ stays n cs behind
without_among n bag (b ∷ bs) cs lacks behind here =
    let other = neither (b.0 == n) (has_bag n bs) lacks in
    ap (λ t. cond (not t) (b ∷ without_bag n (bs ++ bag ∷ cs)) (without_bag n (bs ++ bag ∷ cs))) other.0
    ∙ ap (λ rest. b ∷ rest) (without_among n bag bs cs other.1 behind here)

-- no bag behind one has its number
pub apart_behind : (bag : ℕ × Counts) (bs cs : Bags) → AreApart (bs ++ bag ∷ cs) → has_bag bag.0 cs ≡ false
apart_behind bag [] cs apart = apart.0
apart_behind bag (b ∷ bs) cs apart = apart_behind bag bs cs apart.1

-- a bag of no number goes nowhere
pub stays_all : (n : ℕ) (bags : Bags) → has_bag n bags ≡ false → without_bag n bags ≡ bags
stays_all n bags lacks = stays n bags lacks
