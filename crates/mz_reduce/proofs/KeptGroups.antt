-- What kept rows tell of their groups, and how the groups go through a change row by row.
use Rattle.std.proofs.Common.{◌≡◌, ℕ, ◌+◌, ◌≤◌, ℤ, pos, negsuc, nat_abs, ◌+ℤ◌, Bool, true, false, cond, ◌||◌, List, [], ◌∷◌, ◌++◌, length, refl, sym, ap, subst, ◌∙◌, append_assoc, true≢false, arith}
use Rattle.std.proofs.lemmas.List.{append-nil, length-map}
use Rattle.std.proofs.lemmas.List.Folds.{list_any-append}
use Rattle.std.proofs.lemmas.Grind.{flat_map-append}
use Rattle.std.specs.FinMap.{entries}
use Rattle.std.specs.List.{list_any, AllByRecursion}
use Rattle.mz_value.specs.Row.{row_eq}
use Rattle.mz_value.specs.RowOrder.{row_eq-Decides}
use Rattle.mz_value.specs.declared.datum.Datum.{Datum}
use Rattle.mz_bag.specs.Bag.{count_in, with_count, IsBag}
use Rattle.mz_bag.specs.Mass.{mass}
use Rattle.mz_bag.specs.Weighted.{Weighted, count}
use Rattle.mz_bag.proofs.BagLaws.{count_in-bag_of, same_counts, IsBag-bag_of}
use Rattle.mz_bag.proofs.MassLaws.{mass_append}
use Rattle.mz_plan.specs.Operators.{filtered, has_key, group_at, grouped}
use Rattle.mz_plan.specs.Value.{cells, value_at}
use Rattle.mz_plan.specs.declared.aggregate.Aggregate.{Aggregate}
use Rattle.mz_plan_laws.specs.Alike.{Alike}
use Rattle.mz_keyed.specs.Keyed.{Keyed, rows_of, AreKept, IsAdded}
use Rattle.mz_keyed.proofs.KeyedLaws.{kept_more}
use Rattle.mz_reduce.specs.Grouping.{all_shown, shown, AreIn, AreRegrouped, IsRowIn}
use Rattle.mz_reduce.proofs.RegroupLaws.{regroup_law, shown_at}

-- ---- kept rows

-- the kept rows of a key are its group
kept_group : (places : List ℕ) (groups : Keyed) (ws : Weighted) (key : List Datum) → AreKept places groups ws
    → IsBag (rows_of groups key) → entries (rows_of groups key) ≡ group_at places key ws
kept_group places groups ws key h is = ap entries (same_counts _ _ is (IsBag-bag_of (filtered (has_key places key) ws))
    (λ q. h.each key q ∙ sym (count_in-bag_of (filtered (has_key places key) ws) q)))

-- so what is shown of them is what their groups show
kept_shown : (places : List ℕ) (aggregates : List Aggregate) (groups : Keyed) (ws : Weighted) (weight : ℤ) (keys : List (List Datum))
    → AreKept places groups ws → AllByRecursion (λ key. IsBag (rows_of groups key)) keys
    → all_shown aggregates groups weight keys ≡ shown_at places aggregates ws weight keys
kept_shown places aggregates groups ws weight [] h bags = refl
kept_shown places aggregates groups ws weight (key ∷ keys) h bags =
    λ i. shown aggregates key weight (kept_group places groups ws key h bags.0 i) ++ kept_shown places aggregates groups ws weight keys h bags.1 i

-- a group shows one row at most
mass_shown : (aggregates : List Aggregate) (groups : Keyed) (weight : ℤ) (keys : List (List Datum)) → nat_abs weight ≤ 1
    → mass (all_shown aggregates groups weight keys) ≤ length keys
mass_shown aggregates groups weight [] h = omega arith
mass_shown aggregates groups weight (key ∷ keys) h =
    omega (
      arith,
      mass_append (shown aggregates key weight (entries (rows_of groups key))) (all_shown aggregates groups weight keys),
      one (entries (rows_of groups key)),
      mass_shown aggregates groups weight keys h,
    )
  where
    one : (es : Weighted) → mass (shown aggregates key weight es) ≤ 1
    one [] = omega arith
    one (e ∷ es) = omega (arith, h)

-- ---- rows one after another

-- one more at the end
each_more : (P : List Datum → Type 0) (keys : List (List Datum)) (key : List Datum) → AllByRecursion P keys → P key
    → AllByRecursion P (keys ++ key ∷ [])
each_more P [] key h p = (p, tt)
each_more P (other ∷ keys) key h p = (h.0, each_more P keys key h.1 p)

-- neither of two
neither : (a b : Bool) → (a || b) ≡ false → (a ≡ false) × (b ≡ false)
neither false false h = (refl, refl)
neither true b h = absurd (true≢false h)
neither false true h = absurd (true≢false h)

-- no row came in
pub none_in : (places : List ℕ) (aggregates : List Aggregate) (groups : Keyed) (out : Weighted) (touched : List (List Datum))
    → out ≡ [] → touched ≡ [] → AreIn places aggregates groups groups [] touched out
none_in places aggregates groups out touched none untouched =
    subst (λ ks. AreIn places aggregates groups groups [] ks out) (sym untouched) (record {
      keeps = λ ws h. subst (AreKept places groups) (sym (append-nil ws)) h;
      rest = λ key h. refl;
      long = tt;
      bags = tt;
      few = omega arith;
      made = none;
    })

-- the group of a key that no row touches stays
still : (places : List ℕ) (now more : Keyed) (key row : List Datum) (diff : ℤ) → IsAdded (cells places row) row diff now more
    → row_eq (cells places row) key ≡ false → rows_of more key ≡ rows_of now key
still places now more key row diff added other =
    added.rows key
    ∙ ap (λ c. cond c (with_count (rows_of now (cells places row)) row (count_in (rows_of now (cells places row)) row +ℤ diff)) (rows_of now key)) other

-- one more came in, whose key is touched already
again_in : (places : List ℕ) (aggregates : List Aggregate) (groups now more : Keyed) (done : Weighted) (touched others : List (List Datum))
    (out new : Weighted) (row : List Datum) (diff : ℤ) → AreIn places aggregates groups now done touched out
    → IsAdded (cells places row) row diff now more → list_any (row_eq (cells places row)) touched ≡ true → others ≡ touched → new ≡ out
    → AreIn places aggregates groups more (done ++ (row, diff) ∷ []) others new
again_in places aggregates groups now more done touched others out new row diff h added is same none =
    subst (λ ks. AreIn places aggregates groups more (done ++ (row, diff) ∷ []) ks new) (sym same) (record {
      keeps = λ ws k. subst (AreKept places more) (append_assoc ws done ((row, diff) ∷ []))
          (kept_more places now more (ws ++ done) row diff (h.keeps ws k) added);
      rest = λ key out_of. still places now more key row diff added (by key out_of (row_eq (cells places row) key) refl) ∙ h.rest key out_of;
      long = h.long;
      bags = h.bags;
      few = omega (arith, h.few, longer done);
      made = none ∙ h.made;
    })
  where
    longer : (ws : Weighted) → length (ws ++ (row, diff) ∷ []) ≡ length ws + 1
    longer [] = refl
    longer (w ∷ ws) = omega (arith, longer ws)

    by : (key : List Datum) → list_any (row_eq key) touched ≡ false → (c : Bool) → row_eq (cells places row) key ≡ c → c ≡ false
    by key out_of false e = refl
    by key out_of true e = absurd (true≢false (
        sym is ∙ ap (λ k. list_any (row_eq k) touched) ((row_eq-Decides (cells places row) key).0 e) ∙ out_of
        ))

-- or whose key was not
first_in : (places : List ℕ) (aggregates : List Aggregate) (groups now more : Keyed) (done : Weighted) (touched others : List (List Datum))
    (out new : Weighted) (row : List Datum) (diff : ℤ) → AreIn places aggregates groups now done touched out
    → IsAdded (cells places row) row diff now more → list_any (row_eq (cells places row)) touched ≡ false
    → others ≡ touched ++ cells places row ∷ []
    → new ≡ out ++ shown aggregates (cells places row) (negsuc 0) (entries (rows_of now (cells places row)))
    → IsBag (rows_of now (cells places row)) → AreIn places aggregates groups more (done ++ (row, diff) ∷ []) others new
first_in places aggregates groups now more done touched others out new row diff h added is same pushed bag =
    subst (λ ks. AreIn places aggregates groups more (done ++ (row, diff) ∷ []) ks new) (sym same) (record {
      keeps = λ ws k. subst (AreKept places more) (append_assoc ws done ((row, diff) ∷ []))
          (kept_more places now more (ws ++ done) row diff (h.keeps ws k) added);
      rest = λ key out_of.
          let parts = neither (list_any (row_eq key) touched) (row_eq key (cells places row) || false)
          (sym (list_any-append (row_eq key) touched (cells places row ∷ [])) ∙ out_of) in
          let apart = neither (row_eq key (cells places row)) false parts.1 in
          still places now more key row diff added (turned key (row_eq (cells places row) key) refl apart.0) ∙ h.rest key parts.0;
      long = each_more (λ key. length key ≡ length places) touched (cells places row) h.long (length-map places (value_at row));
      bags = each_more (λ key. IsBag (rows_of groups key)) touched (cells places row) h.bags (subst IsBag before bag);
      few = omega (arith, h.few, longer done, further touched);
      made = pushed ∙ (λ i. h.made i ++ shown aggregates (cells places row) (negsuc 0) (entries (before i)))
          ∙ sym (flat_map-append (λ key. shown aggregates key (negsuc 0) (entries (rows_of groups key))) touched (cells places row ∷ [])
          ∙ ap (λ ws. all_shown aggregates groups (negsuc 0) touched ++ ws)
          (append-nil (shown aggregates (cells places row) (negsuc 0) (entries (rows_of groups (cells places row))))));
    })
  where
    before : rows_of now (cells places row) ≡ rows_of groups (cells places row)
    before = h.rest (cells places row) is

    longer : (ws : Weighted) → length (ws ++ (row, diff) ∷ []) ≡ length ws + 1
    longer [] = refl
    longer (w ∷ ws) = omega (arith, longer ws)

    further : (keys : List (List Datum)) → length (keys ++ cells places row ∷ []) ≡ length keys + 1
    further [] = refl
    further (key ∷ keys) = omega (arith, further keys)

    turned : (key : List Datum) (c : Bool) → row_eq (cells places row) key ≡ c → row_eq key (cells places row) ≡ false → c ≡ false
    turned key false e f = refl
    turned key true e f = absurd (true≢false (
        sym ((row_eq-Decides key (cells places row)).1 (sym ((row_eq-Decides (cells places row) key).0 e))) ∙ f
        ))

-- one more row
pub one_in : (places : List ℕ) (aggregates : List Aggregate) (groups now more : Keyed) (done : Weighted) (touched others : List (List Datum))
    (out new : Weighted) (row : List Datum) (diff : ℤ) → AreIn places aggregates groups now done touched out
    → IsRowIn places aggregates now more row diff touched others out new
    → AreIn places aggregates groups more (done ++ (row, diff) ∷ []) others new
one_in places aggregates groups now more done touched others out new row diff h one = by (list_any (row_eq (cells places row)) touched) refl
  where
    by : (c : Bool) → list_any (row_eq (cells places row)) touched ≡ c → AreIn places aggregates groups more (done ++ (row, diff) ∷ []) others new
    by true e =
        let same = one.touched_key.again e in
        again_in places aggregates groups now more done touched others out new row diff h one.added e same.0 same.1
    by false e =
        let came = one.touched_key.first e in
        first_in places aggregates groups now more done touched others out new row diff h one.added e came.0 came.1 came.2

-- ---- what came in

-- at every other key the rows count as before
pub rest_alike : (places : List ℕ) (groups now : Keyed) (before after : Weighted) (key : List Datum) → AreKept places groups before
    → AreKept places now after → rows_of now key ≡ rows_of groups key
    → Alike (filtered (has_key places key) before) (filtered (has_key places key) after)
rest_alike places groups now before after key h k same q =
    sym (h.each key q) ∙ ap (λ bag. count_in bag q) (sym same) ∙ k.each key q

-- the groups of the rows with those that came in
pub regrouped_gives : (places : List ℕ) (aggregates : List Aggregate) (groups now : Keyed) (rows out ws : Weighted)
    → AreRegrouped places aggregates groups now rows out → AreKept places groups ws
    → Alike (grouped places aggregates (ws ++ rows)) (grouped places aggregates ws ++ out)
regrouped_gives places aggregates groups now rows out ws h kept q =
    let after : AreKept places now (ws ++ rows) = h.came.keeps ws kept in
    regroup_law places aggregates h.touched ws (ws ++ rows) h.once h.came.long
    (λ key out_of. rest_alike places groups now ws (ws ++ rows) key kept after (h.came.rest key out_of)) q
    ∙ sym (ap (λ vs. count q (grouped places aggregates ws ++ vs))
    (h.made ∙ (λ i. (h.came.made ∙ kept_shown places aggregates groups ws (negsuc 0) h.touched kept h.came.bags) i
    ++ kept_shown places aggregates now (ws ++ rows) (pos 1) h.touched after h.bags i)))

-- weigh little
pub regrouped_mass : (places : List ℕ) (aggregates : List Aggregate) (groups now : Keyed) (rows out : Weighted)
    → AreRegrouped places aggregates groups now rows out → mass out ≤ length rows + length rows
regrouped_mass places aggregates groups now rows out h =
    omega (
      arith,
      ap mass h.made,
      ap mass h.came.made,
      mass_append h.back (all_shown aggregates now (pos 1) h.touched),
      mass_shown aggregates groups (negsuc 0) h.touched (omega arith),
      mass_shown aggregates now (pos 1) h.touched (omega arith),
      h.came.few,
    )
