-- Where only rows with some keys change, only the groups of these keys do.
use Rattle.std.proofs.Common.{◌≡◌, ◌≢◌, ℕ, ◌≤◌, ℤ, pos, negsuc, ◌+ℤ◌, Bool, true, false, cond, ◌&&◌, ◌||◌, List, [], ◌∷◌, ◌++◌, take, length, map, flat_map, refl, sym, ap, ◌∙◌, true≢false, arith}
use Rattle.std.proofs.lemmas.Int.{ints}
use Rattle.std.proofs.lemmas.List.{append-nil}
use Rattle.std.proofs.Math.Seq.{take-append_seam}
use Rattle.std.specs.Cmp.{signed_Decides}
use Rattle.std.specs.FinMap.{empty, entries}
use Rattle.std.specs.List.{list_any, IsDistinct, AllByRecursion}
use Rattle.std.specs.Ordering.{int_eq}
use Rattle.mz_value.specs.Row.{row_eq}
use Rattle.mz_value.specs.RowOrder.{row_eq-Decides}
use Rattle.mz_value.specs.declared.datum.Datum.{Datum}
use Rattle.mz_bag.specs.Weighted.{Weighted, count, bag_of}
use Rattle.mz_bag.proofs.BagLaws.{count-append, count-entries, count_in-bag_of, count_in-empty, entries-empty, same_counts, IsBag-bag_of, IsBag-empty}
use Rattle.mz_plan.specs.Aggregate.{aggregate_of}
use Rattle.mz_plan.specs.Value.{cells}
use Rattle.mz_plan.specs.Operators.{filtered, has_key, group_at, group_row, grouped}
use Rattle.mz_plan.specs.declared.aggregate.Aggregate.{Aggregate}
use Rattle.mz_plan_laws.specs.Alike.{Alike, one_if, is_group}
use Rattle.mz_plan_laws.proofs.GroupLaws.{count_grouped, group_has, group_local, has_group, row_local, Bearer}
use Rattle.mz_plan_laws.proofs.Weighing.{count_filtered}
use Rattle.mz_reduce.specs.Grouping.{shown}

-- ---- which groups there are

-- a row that is there with the key is among those of the group
counted_there : (places : List ℕ) (ws : Weighted) (key : List Datum) (bearer : Bearer places key ws)
    → count bearer.0 (group_at places key ws) ≢ pos 0
counted_there places ws key bearer none = bearer.1 (
    sym (ap (λ c. cond c (count bearer.0 ws) (pos 0)) ((row_eq-Decides (cells places bearer.0) key).1 bearer.2))
    ∙ sym (count_filtered (has_key places key) bearer.0 ws)
    ∙ sym (count-entries (bag_of (filtered (has_key places key) ws)) bearer.0 ∙ count_in-bag_of (filtered (has_key places key) ws) bearer.0)
    ∙ none
    )

-- so a group has rows
group_some : (places : List ℕ) (ws : Weighted) (key : List Datum) → is_group places ws key ≡ true → group_at places key ws ≢ []
group_some places ws key is none =
    let bearer : Bearer places key ws = group_has places key ws is in
    counted_there places ws key bearer (ap (count bearer.0) none)

-- and where there is none, there are no rows
group_none : (places : List ℕ) (ws : Weighted) (key : List Datum) → is_group places ws key ≡ false → group_at places key ws ≡ []
group_none places ws key is =
    let bare : bag_of (filtered (has_key places key) ws) ≡ empty =
    same_counts (bag_of (filtered (has_key places key) ws)) empty (IsBag-bag_of (filtered (has_key places key) ws)) IsBag-empty
    (λ q. count_in-bag_of (filtered (has_key places key) ws) q ∙ count_filtered (has_key places key) q ws
    ∙ zero q (has_key places key q) (int_eq (count q ws) (pos 0)) refl refl ∙ sym (count_in-empty q)) in
    ap entries bare ∙ entries-empty
  where
    zero : (q : List Datum) (c d : Bool) → has_key places key q ≡ c → int_eq (count q ws) (pos 0) ≡ d → cond c (count q ws) (pos 0) ≡ pos 0
    zero q false d e f = refl
    zero q true true e f = (signed_Decides (count q ws) (pos 0)).0 f
    zero q true false e f =
        let bearer : Bearer places key ws =
        (q, (λ z. true≢false (sym ((signed_Decides (count q ws) (pos 0)).1 z) ∙ f)), (row_eq-Decides (cells places q) key).0 e) in
        absurd (true≢false (sym (has_group places key ws bearer) ∙ is))

-- ---- one group

-- a group is shown exactly where it is there
shown_group : (places : List ℕ) (aggregates : List Aggregate) (ws : Weighted) (key : List Datum) (weight : ℤ)
    → shown aggregates key weight (group_at places key ws)
    ≡ cond (is_group places ws key) ((group_row places aggregates ws key, weight) ∷ []) []
shown_group places aggregates ws key weight = by (is_group places ws key) (group_at places key ws) refl refl
  where
    by : (c : Bool) (es : Weighted) → is_group places ws key ≡ c → group_at places key ws ≡ es
        → shown aggregates key weight es ≡ cond c ((key ++ map (aggregate_of es) aggregates, weight) ∷ []) []
    by true (e ∷ es) is at = refl
    by false [] is at = refl
    by true [] is at = absurd (group_some places ws key is at)
    by false (e ∷ es) is at =
        let none : e ∷ es ≡ [] = sym at ∙ group_none places ws key is in
        absurd (filled e es none)
      where
        filled : (e : List Datum × ℤ) (es : Weighted) → e ∷ es ≢ []
        filled e es none = cc

-- a group with rows is shown by its row
pub shown_some : (aggregates : List Aggregate) (key : List Datum) (weight : ℤ) (group : Weighted) → 1 ≤ length group
    → shown aggregates key weight group ≡ (key ++ map (aggregate_of group) aggregates, weight) ∷ []
shown_some aggregates key weight [] some = absurd (omega (arith, some))
shown_some aggregates key weight (e ∷ group) some = refl

-- one without rows isn't
pub shown_none : (aggregates : List Aggregate) (key : List Datum) (weight : ℤ) (group out : Weighted) → length group ≡ 0
    → out ≡ out ++ shown aggregates key weight group
shown_none aggregates key weight [] out none = sym (append-nil out)
shown_none aggregates key weight (e ∷ group) out none = absurd (omega (arith, none))

-- a row is the group's whose key it begins with
abbrev is_shown : List ℕ → List Aggregate → Weighted → List Datum → List Datum → Bool
is_shown places aggregates ws q key = is_group places ws key && row_eq q (group_row places aggregates ws key)

-- the front of a group's row is its key
front : (places : List ℕ) (aggregates : List Aggregate) (ws : Weighted) (key : List Datum) → length key ≡ length places
    → take (length places) (group_row places aggregates ws key) ≡ key
front places aggregates ws key h =
    ap (λ m. take m (group_row places aggregates ws key)) (sym h)
    ∙ take-append_seam key (map (aggregate_of (group_at places key ws)) aggregates)

-- what a group shows counts its row alone
count_shown : (places : List ℕ) (aggregates : List Aggregate) (ws : Weighted) (key q : List Datum) (weight : ℤ)
    → length key ≡ length places
    → count q (shown aggregates key weight (group_at places key ws))
    ≡ cond (row_eq (take (length places) q) key) (cond (is_shown places aggregates ws q (take (length places) q)) weight (pos 0)) (pos 0)
count_shown places aggregates ws key q weight h =
    ap (count q) (shown_group places aggregates ws key weight)
    ∙ by (is_group places ws key) (row_eq q (group_row places aggregates ws key)) (row_eq (take (length places) q) key) refl refl refl
  where
    one : (c : Bool) (n : ℤ) → cond c n (pos 0) +ℤ pos 0 ≡ cond c n (pos 0)
    one true n = omega (arith, ints)
    one false n = refl

    at : (c e : Bool) → is_group places ws key ≡ c → row_eq q (group_row places aggregates ws key) ≡ e
        → row_eq (take (length places) q) key ≡ true
        → cond (is_shown places aggregates ws q (take (length places) q)) weight (pos 0) ≡ cond (c && e) weight (pos 0)
    at c e is own is_key =
        ap (λ k. cond (is_shown places aggregates ws q k) weight (pos 0)) ((row_eq-Decides (take (length places) q) key).0 is_key)
        ∙ (λ i. cond (is i && own i) weight (pos 0))

    by : (c e d : Bool) → is_group places ws key ≡ c → row_eq q (group_row places aggregates ws key) ≡ e
        → row_eq (take (length places) q) key ≡ d
        → count q (cond c ((group_row places aggregates ws key, weight) ∷ []) [])
        ≡ cond d (cond (is_shown places aggregates ws q (take (length places) q)) weight (pos 0)) (pos 0)
    by true e true is own is_key =
        ap (λ b. cond b weight (pos 0) +ℤ pos 0) own ∙ one e weight ∙ sym (at true e is own is_key)
    by false e true is own is_key = sym (at false e is own is_key)
    by true true false is own is_key =
        let other : take (length places) q ≡ key =
        ap (take (length places)) ((row_eq-Decides q (group_row places aggregates ws key)).0 own) ∙ front places aggregates ws key h in
        absurd (true≢false (sym ((row_eq-Decides (take (length places) q) key).1 other) ∙ is_key))
    by true false false is own is_key = ap (λ b. cond b weight (pos 0) +ℤ pos 0) own
    by false e false is own is_key = refl

-- ---- the groups of some keys

-- a row among none of the keys
none_among : (row : List Datum) (rows : List (List Datum)) → AllByRecursion (λ other. row_eq row other ≡ false) rows
    → list_any (row_eq row) rows ≡ false
none_among row [] h = refl
none_among row (other ∷ rows) h = ap (λ c. c || list_any (row_eq row) rows) h.0 ∙ none_among row rows h.1

-- what the groups of some keys show, over rows
abbrev pub shown_at : List ℕ → List Aggregate → Weighted → ℤ → List (List Datum) → Weighted
shown_at places aggregates ws weight keys = flat_map (λ key. shown aggregates key weight (group_at places key ws)) keys

-- it counts the rows that begin with one of the keys
count_shown_at : (places : List ℕ) (aggregates : List Aggregate) (ws : Weighted) (weight : ℤ) (keys : List (List Datum)) (q : List Datum)
    → IsDistinct row_eq keys → AllByRecursion (λ key. length key ≡ length places) keys
    → count q (shown_at places aggregates ws weight keys)
    ≡ cond (list_any (row_eq (take (length places) q)) keys)
    (cond (is_shown places aggregates ws q (take (length places) q)) weight (pos 0)) (pos 0)
unfolding IsDistinct
count_shown_at places aggregates ws weight [] q once long = refl
count_shown_at places aggregates ws weight (key ∷ keys) q once long =
    count-append q (shown aggregates key weight (group_at places key ws)) (shown_at places aggregates ws weight keys)
    ∙ (λ i. count_shown places aggregates ws key q weight long.0 i +ℤ count_shown_at places aggregates ws weight keys q once.1 long.1 i)
    ∙ by (row_eq (take (length places) q) key) refl (cond (is_shown places aggregates ws q (take (length places) q)) weight (pos 0))
  where
    by : (c : Bool) → row_eq (take (length places) q) key ≡ c → (n : ℤ)
        → cond c n (pos 0) +ℤ cond (list_any (row_eq (take (length places) q)) keys) n (pos 0)
        ≡ cond (c || list_any (row_eq (take (length places) q)) keys) n (pos 0)
    by true is n =
        let none : list_any (row_eq (take (length places) q)) keys ≡ false =
        ap (λ k. list_any (row_eq k) keys) ((row_eq-Decides (take (length places) q) key).0 is) ∙ none_among key keys once.0 in
        let rest : cond (list_any (row_eq (take (length places) q)) keys) n (pos 0) ≡ pos 0 = ap (λ b. cond b n (pos 0)) none in
        omega (arith, ints, rest)
    by false is n = omega (arith, ints)

-- a row that went and one that came
went_and_came : (before after : Bool) → one_if after ≡ one_if before +ℤ (cond before (negsuc 0) (pos 0) +ℤ cond after (pos 1) (pos 0))
went_and_came true true = refl
went_and_came true false = refl
went_and_came false true = refl
went_and_came false false = refl

-- the groupings differ in the groups of these keys alone
pub regroup_law : (places : List ℕ) (aggregates : List Aggregate) (keys : List (List Datum)) (before after : Weighted)
    → IsDistinct row_eq keys → AllByRecursion (λ key. length key ≡ length places) keys
    → ((key : List Datum) → list_any (row_eq key) keys ≡ false
    → Alike (filtered (has_key places key) before) (filtered (has_key places key) after))
    → Alike (grouped places aggregates after) (grouped places aggregates before
    ++ (shown_at places aggregates before (negsuc 0) keys ++ shown_at places aggregates after (pos 1) keys))
regroup_law places aggregates keys before after once long others q =
    count_grouped places aggregates after q
    ∙ by (list_any (row_eq (take (length places) q)) keys) refl
    ∙ sym (count-append q (grouped places aggregates before)
    (shown_at places aggregates before (negsuc 0) keys ++ shown_at places aggregates after (pos 1) keys)
    ∙ (λ i. count_grouped places aggregates before q i
    +ℤ count-append q (shown_at places aggregates before (negsuc 0) keys) (shown_at places aggregates after (pos 1) keys) i)
    ∙ (λ i. one_if (is_shown places aggregates before q (take (length places) q))
    +ℤ (count_shown_at places aggregates before (negsuc 0) keys q once long i
    +ℤ count_shown_at places aggregates after (pos 1) keys q once long i)))
  where
    by : (c : Bool) → list_any (row_eq (take (length places) q)) keys ≡ c
        → one_if (is_shown places aggregates after q (take (length places) q))
        ≡ one_if (is_shown places aggregates before q (take (length places) q))
        +ℤ (cond (list_any (row_eq (take (length places) q)) keys)
        (cond (is_shown places aggregates before q (take (length places) q)) (negsuc 0) (pos 0)) (pos 0)
        +ℤ cond (list_any (row_eq (take (length places) q)) keys)
        (cond (is_shown places aggregates after q (take (length places) q)) (pos 1) (pos 0)) (pos 0))
    by true is =
        went_and_came (is_shown places aggregates before q (take (length places) q)) (is_shown places aggregates after q (take (length places) q))
        ∙ sym (ap (λ b. one_if (is_shown places aggregates before q (take (length places) q))
        +ℤ (cond b (cond (is_shown places aggregates before q (take (length places) q)) (negsuc 0) (pos 0)) (pos 0)
        +ℤ cond b (cond (is_shown places aggregates after q (take (length places) q)) (pos 1) (pos 0)) (pos 0))) is)
    by false is =
        let same : one_if (is_shown places aggregates after q (take (length places) q))
        ≡ one_if (is_shown places aggregates before q (take (length places) q)) =
        sym (λ i. one_if (group_local places (take (length places) q) before after (others (take (length places) q) is) i
        && row_eq q (row_local places aggregates (take (length places) q) before after (others (take (length places) q) is) i))) in
        let none : (n : ℤ) → cond (list_any (row_eq (take (length places) q)) keys) n (pos 0) ≡ pos 0 = λ n. ap (λ b. cond b n (pos 0)) is in
        let gone = none (cond (is_shown places aggregates before q (take (length places) q)) (negsuc 0) (pos 0)) in
        let came = none (cond (is_shown places aggregates after q (take (length places) q)) (pos 1) (pos 0)) in
        same ∙ omega (arith, ints, gone, came)
