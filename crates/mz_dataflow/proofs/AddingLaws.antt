-- Rows that are added up in a bag, one after another.
use Rattle.std.proofs.Common.{◌≡◌, ℤ, ◌+ℤ◌, ◌+◌, ◌≤◌, nat_abs, List, [], ◌∷◌, ◌++◌, sym, ap, subst, ◌∙◌, append_assoc, arith}
use Rattle.std.proofs.lemmas.List.{append-nil}
use Rattle.std.specs.FinMap.{empty, entries}
use Rattle.mz_value.specs.declared.datum.Datum.{Datum}
use Rattle.mz_bag.specs.Bag.{Counts, Fits, count_in, with_count}
use Rattle.mz_bag.specs.Mass.{IsLight, mass}
use Rattle.mz_bag.specs.Weighted.{Weighted, bag_of, count}
use Rattle.mz_bag.proofs.BagLaws.{bag_of-push, count-entries, count_in-bag_of}
use Rattle.mz_bag.proofs.MassLaws.{mass_append, size_count, size_fits, size_sum}
use Rattle.mz_plan_laws.specs.Alike.{Alike}

-- some of the rows were added up, and these are left
pub record IsAdding (bag : Counts) (all rest : Weighted) : Type 0 where
  pub done : Weighted
  pub whole : done ++ rest ≡ all
  pub is : bag ≡ bag_of done

-- at first all are left
pub adding_begun : (bag : Counts) (all rest : Weighted) → bag ≡ empty → rest ≡ all → IsAdding bag all rest
adding_begun bag all rest none same = record { done = []; whole = same; is = none }

-- the next one may be added
pub next_fits : (bag : Counts) (all : Weighted) (row : List Datum) (diff : ℤ) (rest : Weighted) → IsLight all
    → IsAdding bag all ((row, diff) ∷ rest) → Fits (count_in bag row +ℤ diff)
next_fits bag all row diff rest light h =
    let before : count_in bag row ≡ count row h.done = ap (λ b. count_in b row) h.is ∙ count_in-bag_of h.done row in
    let size : nat_abs (count row h.done +ℤ diff) ≤ nat_abs (count row h.done) + nat_abs diff = size_sum (count row h.done) diff in
    let weight : mass h.done + (nat_abs diff + mass rest) ≡ mass all = sym (mass_append h.done ((row, diff) ∷ rest)) ∙ ap mass h.whole in
    subst Fits (sym (ap (λ z. z +ℤ diff) before))
    (size_fits (count row h.done +ℤ diff) (omega (arith, size, size_count row h.done, weight, light.within)))

-- and is
pub next_added : (bag more : Counts) (all : Weighted) (row : List Datum) (diff : ℤ) (rest : Weighted)
    → more ≡ with_count bag row (count_in bag row +ℤ diff) → IsAdding bag all ((row, diff) ∷ rest) → IsAdding more all rest
next_added bag more all row diff rest made h = record {
  done = h.done ++ (row, diff) ∷ [];
  whole = append_assoc h.done ((row, diff) ∷ []) rest ∙ h.whole;
  is = made ∙ ap (λ b. with_count b row (count_in b row +ℤ diff)) h.is ∙ sym (bag_of-push h.done row diff);
}

-- till none is left
pub all_added : (bag : Counts) (all rest : Weighted) → rest ≡ [] → IsAdding bag all rest → bag ≡ bag_of all
all_added bag all rest none h =
    h.is ∙ ap bag_of (sym (append-nil h.done) ∙ ap (λ ws. h.done ++ ws) (sym none) ∙ h.whole)

-- rows that are taken from the bag of a list count as the list does
pub added_alike : (bag : Counts) (ws rows once : Weighted) → bag ≡ bag_of ws → ws ≡ rows → once ≡ entries bag → Alike once rows
added_alike bag ws rows once is same made = λ q.
    ap (count q) made ∙ count-entries bag q ∙ ap (λ b. count_in b q) is ∙ count_in-bag_of ws q ∙ ap (count q) same
