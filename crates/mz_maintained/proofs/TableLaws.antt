-- Tables that change: what their rows count, and how much they weigh.
use Rattle.std.proofs.Common.{◌≡◌, ◌==◌, ℕ, ◌+◌, ◌<◌, ◌≤◌, ◌^◌, Bool, true, false, cond, nat_eq, Some, unwrap_or, ◌+ℤ◌, Option, None, Result, Ok, Err, List, [], ◌∷◌, ◌++◌, take, get_or, length, refl, sym, ap, subst, ◌∙◌, le_trans, append_assoc, arith}
use Rattle.std.specs.Prelude.{IfOk, IfSome}
use Rattle.std.specs.FinMap.{empty, entries}
use Rattle.std.specs.Map.{lookup}
use Rattle.std.proofs.lemmas.Bool.{eqb-true}
use Rattle.std.proofs.lemmas.List.{append-nil, take_more}
use Rattle.mz_bag.specs.Bag.{count_in, Counts}
use Rattle.mz_bag.specs.Mass.{mass}
use Rattle.mz_bag.specs.Weighted.{Weighted, bag_of, count}
use Rattle.mz_bag.proofs.MassLaws.{light_fits}
use Rattle.mz_bag.proofs.BagLaws.{count-append, count-entries, count_in-bag_of}
use Rattle.mz_plan.specs.Meaning.{Leaves}
use Rattle.mz_plan.specs.Small.{most_rows}
use Rattle.mz_plan_laws.specs.Alike.{Alike}
use Rattle.mz_updates.specs.declared.update.Update.{Update}
use Rattle.mz_updates.specs.Contents.{contents, stamped, weights, FitsAt}
use Rattle.mz_updates.proofs.ContentsLaws.{contents-before, weights-append}
use Rattle.mz_updates.proofs.LightLists.{light_contents}
use Rattle.mz_ops.proofs.TimeLaws.{IsBefore-append, IsBefore-stamped, weights-stamped}
use Rattle.mz_maintained.specs.Tables.{bag_at, rows_of, told_of, AreChanged, IsFitting, IsGrown, Tables}

-- the bag of a list of rows counts as they do, and so does one that is the same
pub alike_bag : (bag : Counts) (ws : Weighted) → bag ≡ bag_of ws → Alike (entries bag) ws
alike_bag bag ws is q = count-entries bag q ∙ ap (λ b. count_in b q) is ∙ count_in-bag_of ws q

-- a bag of the rows of another and others, which fits, is that one grown
pub grown_fits : (bag made found : Counts) (rows : Weighted) → made ≡ bag_of (entries bag ++ rows) → IsFitting made found → IsGrown bag rows found
grown_fits bag made found rows is fits = record {
  alike = alike_bag found (entries bag ++ rows) (fits.same ∙ is);
  within = fits.within;
}

-- where there is one
pub grown_found : (E : Type 0) (bag made : Counts) (rows : Weighted) (found : Result (Option Counts) E) → made ≡ bag_of (entries bag ++ rows)
    → IfOk found (λ one. IfSome one (IsFitting made)) → IfOk found (λ one. IfSome one (IsGrown bag rows))
grown_found E bag made rows (Ok (Some one)) is fits = grown_fits bag made one rows is fits
grown_found E bag made rows (Ok None) is fits = tt
grown_found E bag made rows (Err fault) is fits = tt

-- tables that nothing was told of
pub told_none : (tables : Tables) → AreChanged (told_of []) tables tables
told_none tables = record { alike = λ item q. ap (count q) (sym (append-nil (rows_of tables item))); within = λ h. h }

-- one that grew, and no other
pub one_grown : (table : ℕ) (rows : Weighted) (old new : Tables) (bag : Counts) → IsGrown (bag_at old table) rows bag
    → ((item : ℕ) → bag_at new item ≡ cond (table == item) bag (bag_at old item)) → AreChanged (told_of ((table, rows) ∷ [])) old new
one_grown table rows old new bag grown put = record {
  alike = λ item. subst (λ b. Alike (entries b) (rows_of old item ++ told_of ((table, rows) ∷ []) item)) (sym (put item)) (by item (table == item) refl);
  within = λ h. record { within = λ item. subst (λ b. mass (entries b) ≤ most_rows) (sym (put item)) (few item (table == item) (h.within item)) };
}
  where
    by : (item : ℕ) (c : Bool) → (table == item) ≡ c
        → Alike (entries (cond c bag (bag_at old item))) (rows_of old item ++ cond c (rows ++ []) [])
    by item true same q =
        subst (λ n. count q (entries bag) ≡ count q (rows_of old n ++ (rows ++ []))) (eqb-true table item same)
        (grown.alike q ∙ ap (λ ws. count q (rows_of old table ++ ws)) (sym (append-nil rows)))
    by item false other q = ap (count q) (sym (append-nil (rows_of old item)))

    few : (item : ℕ) (c : Bool) → mass (rows_of old item) ≤ most_rows → mass (entries (cond c bag (bag_at old item))) ≤ most_rows
    few item true h = grown.within
    few item false h = h

-- what changes list for a table, with one change more
pub told-push : (cs : List (ℕ × Weighted)) (c : ℕ × Weighted) (item : ℕ) → told_of (cs ++ c ∷ []) item ≡ told_of cs item ++ told_of (c ∷ []) item
told-push [] c item = refl
told-push (d ∷ cs) c item = by (d.0 == item) (told-push cs c item)
  where
    by : (b : Bool) → told_of (cs ++ c ∷ []) item ≡ told_of cs item ++ told_of (c ∷ []) item
        → cond b (d.1 ++ told_of (cs ++ c ∷ []) item) (told_of (cs ++ c ∷ []) item) ≡ cond b (d.1 ++ told_of cs item) (told_of cs item) ++ told_of (c ∷ []) item
    by true h = ap (λ ws. d.1 ++ ws) h ∙ sym (append_assoc d.1 (told_of cs item) (told_of (c ∷ []) item))
    by false h = h

-- so it is with those up to a place
pub told_next : (cs : List (ℕ × Weighted)) (i : ℕ) (c : ℕ × Weighted) (item : ℕ) → i < length cs → c ≡ get_or cs i c
    → told_of (take (i + 1) cs) item ≡ told_of (take i cs) item ++ told_of (c ∷ []) item
told_next cs i c item within is =
    ap (λ ds. told_of ds item) (take_more cs i c within ∙ ap (λ d. take i cs ++ d ∷ []) (sym is)) ∙ told-push (take i cs) c item

-- tables that change once more
pub changed_then : (first second both : Leaves) (old mid new : Tables) → ((item : ℕ) → both item ≡ first item ++ second item)
    → AreChanged first old mid → AreChanged second mid new → AreChanged both old new
changed_then first second both old mid new is h k = record {
  alike = λ item q.
      k.alike item q ∙ count-append q (rows_of mid item) (second item) ∙ ap (λ z. z +ℤ count q (second item)) (h.alike item q)
      ∙ sym (count-append q (rows_of old item ++ first item) (second item))
      ∙ ap (count q) (append_assoc (rows_of old item) (first item) (second item) ∙ ap (λ ws. rows_of old item ++ ws) (sym (is item)));
  within = λ w. k.within (h.within w);
}

-- the bags where a table was given one
pub bag_put : (old new : Tables) (table : ℕ) (bag : Counts)
    → ((item : ℕ) → lookup (nat_eq item) new ≡ cond (nat_eq table item) (Some bag) (lookup (nat_eq item) old))
    → (item : ℕ) → bag_at new item ≡ cond (table == item) bag (bag_at old item)
bag_put old new table bag h item = ap (λ found. unwrap_or found empty) (h item) ∙ by (table == item)
  where
    by : (b : Bool) → unwrap_or (cond b (Some bag) (lookup (nat_eq item) old)) empty ≡ cond b bag (bag_at old item)
    by true = refl
    by false = refl

-- rows at time 0, which are small
pub rows_fit : (us : List Update) → mass (weights us) ≤ 2 ^ 40 → FitsAt 0 us
rows_fit us small = record {
  fits = λ row. light_fits (contents 0 us) row ((light_contents 0 us (record { within = le_trans small (omega arith) })).light 0 (omega arith));
}

-- those of two lists are both
pub rows_both : (us : List Update) (first second : Weighted) → us ≡ stamped 0 first ++ stamped 0 second → contents 0 us ≡ first ++ second
rows_both us first second is =
    ap (contents 0) is
    ∙ contents-before 0 1 (stamped 0 first ++ stamped 0 second) (IsBefore-append 1 (stamped 0 first) (stamped 0 second) (IsBefore-stamped 0 1 first (omega arith)) (IsBefore-stamped 0 1 second (omega arith))) (omega arith)
    ∙ weights-append (stamped 0 first) (stamped 0 second) ∙ (λ i. weights-stamped 0 first i ++ weights-stamped 0 second i)

-- the rows of a bag at a time weigh as its entries do
pub stamped_fits : (us : List Update) (bag : Counts) → us ≡ stamped 0 (entries bag) → mass (weights us) ≤ most_rows → IsFitting bag bag
stamped_fits us bag is few = record { same = refl; within = subst (λ ws. mass ws ≤ most_rows) (ap weights is ∙ weights-stamped 0 (entries bag)) few }
