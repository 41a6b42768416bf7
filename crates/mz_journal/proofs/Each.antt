-- What holds of each call of a list.
use Rattle.std.proofs.Common.{ℕ, zero, suc, ◌<◌, List, [], ◌∷◌, ◌++◌, length, slice_index_or, arith}
use Rattle.mz_log.specs.declared.journal.CallEntry.{CallEntry}

-- P holds of each call
abbrev pub Each : (CallEntry → Type 0) → List CallEntry → Type 0
Each P [] = Unit {0}
Each P (call ∷ calls) = P call × Each P calls

-- of two lists in a row
pub each_append : (P : CallEntry → Type 0) (xs ys : List CallEntry) → Each P xs → Each P ys → Each P (xs ++ ys)
each_append P [] ys p q = q
each_append P (x ∷ xs) ys p q = (p.0, each_append P xs ys p.1 q)

-- of what follows
pub each_map : (P Q : CallEntry → Type 0) → ((x : CallEntry) → P x → Q x) → (xs : List CallEntry) → Each P xs → Each Q xs
each_map P Q f [] p = tt
each_map P Q f (x ∷ xs) p = (f x p.0, each_map P Q f xs p.1)

-- at each place
pub each_index : (P : CallEntry → Type 0) (xs : List CallEntry) → Each P xs → (k : ℕ) (d : CallEntry) → k < length xs → P (slice_index_or xs k d)
each_index P [] e k d h = absurd (omega arith)
each_index P (x ∷ xs) e zero d h = e.0
each_index P (x ∷ xs) e (suc k) d h = each_index P xs e.1 k d (omega arith)

-- from each place
pub each_from_index : (P : CallEntry → Type 0) (xs : List CallEntry) → ((k : ℕ) (d : CallEntry) → k < length xs → P (slice_index_or xs k d)) → Each P xs
each_from_index P [] f = tt
each_from_index P (x ∷ xs) f = (f 0 x (omega arith), each_from_index P xs (λ k d h. f (suc k) d (omega arith)))
