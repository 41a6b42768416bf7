-- Marks that are set and gone back to, table after table.
use Rattle.std.proofs.Common.{◌≡◌, ℕ, zero, suc, ◌+◌, ◌<◌, List, [], ◌∷◌, map, length, slice_index_or, slice_set, refl, ap, subst, ◌∙◌, arith}
use Rattle.mz_bag.specs.Bag.{Counts}
use Rattle.mz_seq.specs.Tables.{bags_now, bags_then, settled}
use Rattle.mz_seq.specs.declared.tables.Table.{Table}

-- the tables of which the first are done
abbrev pub done_to : ℕ → (Table → Table) → List Table → List Table
done_to zero f ts = ts
done_to (suc n) f [] = []
done_to (suc n) f (t ∷ ts) = f t ∷ done_to n f ts

-- they are as many
pub done_length : (n : ℕ) (f : Table → Table) (ts : List Table) → length (done_to n f ts) ≡ length ts
done_length zero f ts = refl
done_length (suc n) f [] = refl
done_length (suc n) f (t ∷ ts) = ap suc (done_length n f ts)

-- one more is done
one_done : (n : ℕ) (f : Table → Table) (ts : List Table) (t : Table) → n < length ts → t ≡ slice_index_or (done_to n f ts) n t
    → slice_set (done_to n f ts) n (f t) ≡ done_to (suc n) f ts
one_done n f [] t within is = absurd (omega (arith, within))
one_done zero f (x ∷ xs) t within is = ap (λ y. f y ∷ xs) is
one_done (suc n) f (x ∷ xs) t within is = ap (λ ys. f x ∷ ys) (one_done n f xs t (omega (arith, within)) is)

pub next_done : (n : ℕ) (f : Table → Table) (ts now : List Table) (t y : Table) → n < length now → now ≡ done_to n f ts → t ≡ slice_index_or now n t → y ≡ f t
    → slice_set now n y ≡ done_to (n + 1) f ts
next_done n f ts now t y within is at to =
    (λ i. slice_set (is i) n (to i))
    ∙ one_done n f ts t (subst (λ k. n < k) (ap length is ∙ done_length n f ts) within) (at ∙ ap (λ xs. slice_index_or xs n t) is)
    ∙ ap (λ k. done_to k f ts) (one_more n)
  where
    one_more : (n : ℕ) → suc n ≡ n + 1
    one_more n = grind arith

-- all are done
pub all_done : (f : Table → Table) (ts : List Table) → done_to (length ts) f ts ≡ map f ts
all_done f [] = refl
all_done f (t ∷ ts) = ap (λ ys. f t ∷ ys) (all_done f ts)

-- tables that are settled are there, now and at the mark
pub settled_now : (g : Table → Counts) (ts : List Table) → bags_now (map (λ t. settled t.number (g t)) ts) ≡ map (λ t. (t.number, g t)) ts
settled_now g [] = refl
settled_now g (t ∷ ts) = ap (λ bags. (t.number, g t) ∷ bags) (settled_now g ts)

pub settled_then : (g : Table → Counts) (ts : List Table) → bags_then (map (λ t. settled t.number (g t)) ts) ≡ map (λ t. (t.number, g t)) ts
settled_then g [] = refl
settled_then g (t ∷ ts) = ap (λ bags. (t.number, g t) ∷ bags) (settled_then g ts)
