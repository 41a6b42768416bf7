-- The calls of a longer log: those of a shorter one, and more.
use Rattle.std.proofs.Common.{◌≡◌, false, List, [], ◌∷◌, ◌++◌, length, map, drop, refl, ap, ◌∙◌, inl, inr}
use Rattle.std.specs.List.{AllByRecursion as Each}
use Rattle.mz_rules.proofs.Each.{each_map, each_of, each_one}
use Rattle.mz_books.specs.Calls.{Call, is_waiting}
use Rattle.mz_call_laws.specs.Members.{Has}
use Rattle.mz_call_laws.specs.RealTime.{StandsBefore}
use Rattle.mz_call_laws.proofs.Lists.{each_has}
use Rattle.mz_call_laws.proofs.Places.{has_drop}

-- the calls xs are still there, those with a reply unchanged, and of all that follow P holds
abbrev pub Grown : (Call → Type 0) → List Call → List Call → Type 0
Grown P [] ys = Each P ys
Grown P (x ∷ xs) [] = ⊥
Grown P (x ∷ xs) (y ∷ ys) = (is_waiting x ≡ false → y ≡ x) × Grown P xs ys

-- the same calls
pub grown_same : (P : Call → Type 0) (xs : List Call) → Grown P xs xs
grown_same P [] = tt
grown_same P (x ∷ xs) = ((λ _. refl), grown_same P xs)

-- what follows from P
pub grown_of : (P Q : Call → Type 0) → ((c : Call) → P c → Q c) → (xs ys : List Call) → Grown P xs ys → Grown Q xs ys
grown_of P Q f [] ys g = each_of P Q f ys g
grown_of P Q f (x ∷ xs) [] g = elim g [ ]
grown_of P Q f (x ∷ xs) (y ∷ ys) g = (g.0, grown_of P Q f xs ys g.1)

-- one more call
pub grown_one : (P : Call → Type 0) (xs ys : List Call) (c : Call) → P c → Grown P xs ys → Grown P xs (ys ++ c ∷ [])
grown_one P [] ys c p g = each_one P ys c g p
grown_one P (x ∷ xs) [] c p g = elim g [ ]
grown_one P (x ∷ xs) (y ∷ ys) c p g = (g.0, grown_one P xs ys c p g.1)

-- replies to calls that wait
pub grown_map : (P Q : Call → Type 0) (change : Call → Call) → ((c : Call) → P c → Q (change c))
    → ((c : Call) → is_waiting c ≡ false → change c ≡ c) → (xs ys : List Call) → Grown P xs ys → Grown Q xs (map change ys)
grown_map P Q change f stays [] ys g = each_map P Q change f ys g
grown_map P Q change f stays (x ∷ xs) [] g = elim g [ ]
grown_map P Q change f stays (x ∷ xs) (y ∷ ys) g =
    ((λ done. let same = g.0 done in stays y (ap is_waiting same ∙ done) ∙ same), grown_map P Q change f stays xs ys g.1)

-- a call that has its reply is still there
pub grown_has : (P : Call → Type 0) (c : Call) (xs ys : List Call) → Grown P xs ys → is_waiting c ≡ false → Has c xs → Has c ys
grown_has P c [] ys g done h = elim h [ ]
grown_has P c (x ∷ xs) [] g done h = elim g [ ]
grown_has P c (x ∷ xs) (y ∷ ys) g done (inl same) = inl (g.0 (ap is_waiting same ∙ done) ∙ same)
grown_has P c (x ∷ xs) (y ∷ ys) g done (inr later) = inr (grown_has P c xs ys g.1 done later)

-- a later call stands after it
pub grown_before : (P : Call → Type 0) (first second : Call) (xs ys : List Call) → Grown P xs ys → is_waiting first ≡ false → Has first xs
    → Has second (drop (length xs) ys) → StandsBefore first second ys
grown_before P first second [] ys g done h later = elim h [ ]
grown_before P first second (x ∷ xs) [] g done h later = elim g [ ]
grown_before P first second (x ∷ xs) (y ∷ ys) g done (inl same) later =
    inl (g.0 (ap is_waiting same ∙ done) ∙ same, has_drop second (length xs) ys later)
grown_before P first second (x ∷ xs) (y ∷ ys) g done (inr rest) later = inr (grown_before P first second xs ys g.1 done rest later)

-- and P holds of it
pub grown_since : (P : Call → Type 0) (second : Call) (xs ys : List Call) → Grown P xs ys → Has second (drop (length xs) ys) → P second
grown_since P second [] ys g later = each_has P second ys g later
grown_since P second (x ∷ xs) [] g later = elim g [ ]
grown_since P second (x ∷ xs) (y ∷ ys) g later = grown_since P second xs ys g.1 later
