-- Rows that begin with the values of a key stand side by side in the order of rows, from the key on.
use Rattle.std.proofs.Common.{◌≡◌, ℕ, ℤ, zero, suc, ◌&&◌, Bool, true, false, cond, List, [], ◌∷◌, ◌++◌, length, take, filter, refl, sym, ap, subst, ◌∙◌, true≢false}
use Rattle.std.proofs.lemmas.List.{append-nil, append_assoc}
use Rattle.std.specs.Bool.{⊤}
use Rattle.std.specs.List.{AllByRecursion as Each}
use Rattle.std.specs.List.Sorted.{IsStrictlySortedBy}
use Rattle.std.specs.Map.{keys_of}
use Rattle.std.specs.Ordering.{is_eq, is_le, ordering_reverse, ordering_then}
use Rattle.std.specs.declared.cmp.Ordering.{Ordering}
use Rattle.std.specs.declared.cmp.Ordering.TheVariants.{Less, Equal, Greater}
use Rattle.mz_value.specs.declared.datum.Datum.{Datum}
use Rattle.mz_value.specs.Datum.{datum_cmp}
use Rattle.mz_value.specs.Row.{row_cmp, row_eq}
use Rattle.mz_value.specs.RowOrder.{row_eq-Decides, row_total}
use Rattle.mz_bag.specs.Weighted.{Weighted}
use Rattle.mz_updates.specs.declared.update.Update.{Update}
use Rattle.mz_updates.specs.Contents.{stamp, stamped}
use Rattle.mz_arrange.specs.Arranged.{begins_with, of_key}

-- ---- rows

-- rows that are cut at one length keep their order
cut_le : (n : ℕ) (a b : List Datum) → is_le (row_cmp a b) ≡ true → is_le (row_cmp (take n a) (take n b)) ≡ true
cut_le zero a b h = refl
cut_le (suc n) [] [] h = refl
cut_le (suc n) [] (y ∷ b) h = refl
cut_le (suc n) (x ∷ a) [] h = absurd (true≢false (sym h))
cut_le (suc n) (x ∷ a) (y ∷ b) h = by (datum_cmp x y) (cut_le n a b) h
  where
    by : (o : Ordering) → (is_le (row_cmp a b) ≡ true → is_le (row_cmp (take n a) (take n b)) ≡ true)
        → is_le (ordering_then o (row_cmp a b)) ≡ true → is_le (ordering_then o (row_cmp (take n a) (take n b))) ≡ true
    by Less rest k = refl
    by Equal rest k = rest k
    by Greater rest k = k

-- a row that is cut at its own length is whole
cut_whole : (key : List Datum) → take (length key) key ≡ key
cut_whole [] = refl
cut_whole (x ∷ key) = ap (λ row. x ∷ row) (cut_whole key)

-- two rows, of which neither stands behind the other, are one
both_le : (a b : List Datum) → is_le (row_cmp a b) ≡ true → is_le (row_cmp b a) ≡ true → row_eq a b ≡ true
both_le a b h k = by (row_cmp a b) (row_cmp b a) (row_total.antisymm a b) h k
  where
    by : (o p : Ordering) → o ≡ ordering_reverse p → is_le o ≡ true → is_le p ≡ true → is_eq o ≡ true
    by Equal p e f g = refl
    by Greater p e f g = absurd (true≢false (sym f))
    by Less Greater e f g = absurd (true≢false (sym g))
    by Less Equal e f g = absurd (true≢false (sym (ap is_eq e)))
    by Less Less e f g = absurd (true≢false (ap is_le e))

-- a row that begins with the key doesn't stand before it
key_first : (key row : List Datum) → begins_with key row ≡ true → is_le (row_cmp key row) ≡ true
key_first [] [] h = refl
key_first [] (y ∷ row) h = refl
key_first (x ∷ key) [] h = h
key_first (x ∷ key) (y ∷ row) h = by (datum_cmp x y) (key_first key row) h
  where
    by : (o : Ordering) → (begins_with key row ≡ true → is_le (row_cmp key row) ≡ true)
        → is_eq (ordering_then o (row_cmp key (take (length key) row))) ≡ true → is_le (ordering_then o (row_cmp key row)) ≡ true
    by Less rest k = refl
    by Equal rest k = rest k
    by Greater rest k = k

-- from the key on, no row behind one that doesn't begin with it begins with it
none_behind : (key row next : List Datum) → is_le (row_cmp key row) ≡ true → begins_with key row ≡ false → is_le (row_cmp row next) ≡ true → begins_with key next ≡ false
none_behind key row next from not le = by (begins_with key next) refl
  where
    by : (c : Bool) → begins_with key next ≡ c → c ≡ false
    by false e = refl
    by true e =
        let same : key ≡ take (length key) next = (row_eq-Decides key (take (length key) next)).0 e in
        let first : is_le (row_cmp key (take (length key) row)) ≡ true =
        subst (λ k. is_le (row_cmp k (take (length key) row)) ≡ true) (cut_whole key) (cut_le (length key) key row from) in
        let second : is_le (row_cmp (take (length key) row) key) ≡ true =
        subst (λ k. is_le (row_cmp (take (length key) row) k) ≡ true) (sym same) (cut_le (length key) row next le) in
        sym (both_le key (take (length key) row) first second) ∙ not

-- ---- lists of rows in order

-- each row stands before those behind it
abbrev pub AreInOrder : Weighted → Type 0
AreInOrder [] = ⊤
AreInOrder (w ∷ ws) = Each (λ v. row_cmp w.0 v.0 ≡ Less) ws × AreInOrder ws

-- what is left of rows in order, of which none stands before the key
pub record IsRest (key : List Datum) (rest : Weighted) : Type 0 where
  pub from : Each (λ w. is_le (row_cmp key w.0) ≡ true) rest
  pub order : AreInOrder rest

-- a row less is left
pub rest_next : (key : List Datum) (all : Weighted) (w : List Datum × ℤ) (rest : Weighted) → all ≡ w ∷ rest → IsRest key all → IsRest key rest
rest_next key all w rest h is = by (subst (IsRest key) h is)
  where
    by : IsRest key (w ∷ rest) → IsRest key rest
    by k = record { from = k.from.1; order = k.order.1 }

-- where the first that is left doesn't begin with the key, none does
pub none_left : (key : List Datum) (all : Weighted) (w : List Datum × ℤ) (rest : Weighted) → all ≡ w ∷ rest → IsRest key all → begins_with key w.0 ≡ false → of_key key all ≡ []
none_left key all w rest h is not =
    ap (of_key key) h
    ∙ ap (λ b. cond b (w ∷ of_key key rest) (of_key key rest)) not
    ∙ by rest (subst (IsRest key) h is).order.0
  where
    from : is_le (row_cmp key w.0) ≡ true
    from = (subst (IsRest key) h is).from.0

    by : (ws : Weighted) → Each (λ v. row_cmp w.0 v.0 ≡ Less) ws → of_key key ws ≡ []
    by [] k = refl
    by (v ∷ ws) k = ap (λ b. cond b (v ∷ of_key key ws) (of_key key ws)) (none_behind key w.0 v.0 from not (ap is_le k.0)) ∙ by ws k.1

-- ---- the rows from the key on

-- those of a list
abbrev pub from_key : List Datum → Weighted → Weighted
from_key key ws = filter (λ w. is_le (row_cmp key w.0) && true) ws

-- what holds of all holds of them
each_from : (P : List Datum × ℤ → Type 0) (key : List Datum) (ws : Weighted) → Each P ws → Each P (from_key key ws)
each_from P key [] h = tt
each_from P key (w ∷ ws) h = by (is_le (row_cmp key w.0) && true) (each_from P key ws h.1)
  where
    by : (c : Bool) → Each P (from_key key ws) → Each P (cond c (w ∷ from_key key ws) (from_key key ws))
    by true rest = (h.0, rest)
    by false rest = rest

-- none of them stands before the key
each_at : (key : List Datum) (ws : Weighted) → Each (λ w. is_le (row_cmp key w.0) ≡ true) (from_key key ws)
each_at key [] = tt
each_at key (w ∷ ws) = by (is_le (row_cmp key w.0)) refl (each_at key ws)
  where
    by : (c : Bool) → is_le (row_cmp key w.0) ≡ c → Each (λ v. is_le (row_cmp key v.0) ≡ true) (from_key key ws)
        → Each (λ v. is_le (row_cmp key v.0) ≡ true) (cond (c && true) (w ∷ from_key key ws) (from_key key ws))
    by true e rest = (e, rest)
    by false e rest = rest

-- they are in order
order_from : (key : List Datum) (ws : Weighted) → AreInOrder ws → AreInOrder (from_key key ws)
order_from key [] h = tt
order_from key (w ∷ ws) h = by (is_le (row_cmp key w.0) && true) (order_from key ws h.1)
  where
    by : (c : Bool) → AreInOrder (from_key key ws) → AreInOrder (cond c (w ∷ from_key key ws) (from_key key ws))
    by true rest = (each_from (λ v. row_cmp w.0 v.0 ≡ Less) key ws h.0, rest)
    by false rest = rest

-- as those of a tree are
order_keys : (ws : Weighted) → IsStrictlySortedBy row_cmp (keys_of ws) → AreInOrder ws
unfolding IsStrictlySortedBy
order_keys [] h = tt
order_keys (w ∷ ws) h = (by ws h.0, order_keys ws h.1)
  where
    by : (vs : Weighted) → Each (λ k. row_cmp w.0 k ≡ Less) (keys_of vs) → Each (λ v. row_cmp w.0 v.0 ≡ Less) vs
    by [] k = tt
    by (v ∷ vs) k = (k.0, by vs k.1)

pub rest_whole : (key : List Datum) (ws : Weighted) → IsStrictlySortedBy row_cmp (keys_of ws) → IsRest key (from_key key ws)
rest_whole key ws h = record { from = each_at key ws; order = order_from key ws (order_keys ws h) }

-- and all that begin with the key are among them
pub of_key-from : (key : List Datum) (ws : Weighted) → of_key key (from_key key ws) ≡ of_key key ws
of_key-from key [] = refl
of_key-from key (w ∷ ws) = by (begins_with key w.0) (is_le (row_cmp key w.0)) refl refl (of_key-from key ws)
  where
    by : (c d : Bool) → begins_with key w.0 ≡ c → is_le (row_cmp key w.0) ≡ d → of_key key (from_key key ws) ≡ of_key key ws
        → of_key key (cond (d && true) (w ∷ from_key key ws) (from_key key ws)) ≡ cond c (w ∷ of_key key ws) (of_key key ws)
    by true true e f rest = ap (λ b. cond b (w ∷ of_key key (from_key key ws)) (of_key key (from_key key ws))) e ∙ ap (λ vs. w ∷ vs) rest
    by false true e f rest = ap (λ b. cond b (w ∷ of_key key (from_key key ws)) (of_key key (from_key key ws))) e ∙ rest
    by false false e f rest = rest
    by true false e f rest = absurd (true≢false (sym (key_first key w.0 e) ∙ f))

-- ---- what is copied

-- where the first that is left begins with the key, it stands before those of the key behind it
found_next : (key : List Datum) (all : Weighted) (w : List Datum × ℤ) (rest : Weighted) → all ≡ w ∷ rest → begins_with key w.0 ≡ true → of_key key all ≡ w ∷ of_key key rest
found_next key all w rest h is = ap (of_key key) h ∙ ap (λ b. cond b (w ∷ of_key key rest) (of_key key rest)) is

-- with it copied, what is copied and what is left of the key are what they were
pub copied_next : (key : List Datum) (all : Weighted) (w : List Datum × ℤ) (rest : Weighted) (old new wanted : List Update) → all ≡ w ∷ rest → begins_with key w.0 ≡ true
    → new ≡ old ++ stamp 0 w ∷ [] → old ++ stamped 0 (of_key key all) ≡ wanted → new ++ stamped 0 (of_key key rest) ≡ wanted
copied_next key all w rest old new wanted h is pushed made =
    ap (λ us. us ++ stamped 0 (of_key key rest)) pushed
    ∙ append_assoc old (stamp 0 w ∷ []) (stamped 0 (of_key key rest))
    ∙ ap (λ (ws : Weighted). old ++ stamped 0 ws) (sym (found_next key all w rest h is))
    ∙ made

-- and where none is left of the key, all is copied
pub copied_all : (key : List Datum) (all : Weighted) (old wanted : List Update) → of_key key all ≡ [] → old ++ stamped 0 (of_key key all) ≡ wanted → old ≡ wanted
copied_all key all old wanted none made = sym (append-nil old) ∙ ap (λ (ws : Weighted). old ++ stamped 0 ws) (sym none) ∙ made
