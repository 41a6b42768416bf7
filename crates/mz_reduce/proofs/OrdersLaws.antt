-- Orders go with the rows of their groups.
use Rattle.std.proofs.Common.{◌≡◌, ℕ, ◌<◌, ◌+◌, Bool, true, false, cond, ◌&&◌, ◌||◌, nat_eq, ℤ, ◌+ℤ◌, List, [], ◌∷◌, take, length, get_or, Option, None, Some, refl, sym, ap, subst, ◌∙◌, true≢false}
use Rattle.std.proofs.lemmas.Bool.{eq-eqb, eqb-true}
use Rattle.std.proofs.lemmas.List.{take_more}
use Rattle.std.proofs.lemmas.List.Folds.{list_any-append}
use Rattle.std.specs.BTreeSet.{BTreeSet}
use Rattle.std.specs.Map.{lookup}
use Rattle.mz_value.specs.Row.{row_eq}
use Rattle.mz_value.specs.RowOrder.{row_eq-Decides, row_equiv}
use Rattle.mz_value.specs.declared.datum.Datum.{Datum}
use Rattle.mz_bag.specs.Bag.{Counts, count_in, with_count}
use Rattle.mz_bag.proofs.BagLaws.{count_in-empty, count_in-with_count}
use Rattle.mz_plan.specs.declared.aggregate.Aggregate.{Aggregate}
use Rattle.mz_plan_laws.proofs.Weighing.{row_itself}
use Rattle.mz_keyed.specs.Keyed.{Keyed, rows_of, IsAdded}
use Rattle.mz_reduce.specs.Counting.{is_there}
use Rattle.mz_reduce.specs.Orders.{are_ranked, behind, fronted, is_among, order_of, ranks, rows_in, same_spot, AreOrders, IsOrder, IsTurned, Orders}

-- ---- look-ups

-- a choice of orders is one of their rows
rows_choice : (c : Bool) (o p : Option (BTreeSet (List Datum))) → rows_in (cond c o p) ≡ cond c (rows_in o) (rows_in p)
rows_choice true o p = refl
rows_choice false o p = refl

-- where one look-up changes, its order does
pub order_changed : (old new : Orders) (spot : ℕ × List Datum) (o : Option (BTreeSet (List Datum)))
    → ((q : ℕ × List Datum) → lookup (same_spot q) new ≡ cond (same_spot spot q) o (lookup (same_spot q) old))
    → (q : ℕ × List Datum) → order_of new q ≡ cond (same_spot spot q) (rows_in o) (order_of old q)
order_changed old new spot o h q = ap rows_in (h q) ∙ rows_choice (same_spot spot q) o (lookup (same_spot q) old)

-- a place and a key are themselves
spot_itself : (spot : ℕ × List Datum) → same_spot spot spot ≡ true
spot_itself spot = λ i. eq-eqb spot.0 spot.0 refl i && row_itself spot.1 i

-- and where they are those, they are one
spot_is : (spot other : ℕ × List Datum) → same_spot spot other ≡ true → spot ≡ other
spot_is spot other h = by (nat_eq spot.0 other.0) (row_eq spot.1 other.1) refl refl h
  where
    by : (c d : Bool) → nat_eq spot.0 other.0 ≡ c → row_eq spot.1 other.1 ≡ d → (c && d) ≡ true → spot ≡ other
    by true true e f k = λ i. (eqb-true spot.0 other.0 e i, (row_eq-Decides spot.1 other.1).0 f i)
    by true false e f k = absurd (true≢false (sym k))
    by false d e f k = absurd (true≢false (sym k))

-- an order that was found is that of its place and key
pub order_found : (orders : Orders) (place : ℕ) (key own : List Datum) (order : BTreeSet (List Datum)) → own ≡ key
    → Some order ≡ lookup (same_spot (place, own)) orders → order.keys ≡ order_of orders (place, key)
order_found orders place key own order same found = ap rows_in found ∙ ap (λ k. order_of orders (place, k)) same

-- and one that wasn't has no rows
pub order_missed : (orders : Orders) (place : ℕ) (key own : List Datum) → own ≡ key → None ≡ lookup (same_spot (place, own)) orders
    → order_of orders (place, key) ≡ []
order_missed orders place key own same missed = sym (ap rows_in missed ∙ ap (λ k. order_of orders (place, k)) same)

-- what was taken out is gone
pub order_gone : (old new : Orders) (spot : ℕ × List Datum)
    → ((other : ℕ × List Datum) → order_of new other ≡ cond (same_spot spot other) [] (order_of old other)) → order_of new spot ≡ []
order_gone old new spot h = h spot ∙ ap (λ c. cond c [] (order_of old spot)) (spot_itself spot)

-- an order without rows isn't put
pub not_ordered : (orders : Orders) (spot : ℕ × List Datum) (rows : List (List Datum)) → order_of orders spot ≡ [] → rows ≡ []
    → (other : ℕ × List Datum) → order_of orders other ≡ cond (same_spot spot other) rows (order_of orders other)
not_ordered orders spot rows gone none other = by (same_spot spot other) refl
  where
    by : (c : Bool) → same_spot spot other ≡ c → order_of orders other ≡ cond c rows (order_of orders other)
    by true e = ap (order_of orders) (sym (spot_is spot other e)) ∙ gone ∙ sym none
    by false e = refl

-- ---- a row turned

-- nothing turns where no place is ranked
pub none_turned : (key row : List Datum) (is : Bool) (orders : Orders) → IsTurned (λ place. false) key row is orders orders
none_turned key row is orders = record { each = λ place other q. refl }

-- a row turned at the places of an aggregate under another name
pub turned_for : (aggregate one : Aggregate) (key row : List Datum) (is : Bool) (old new : Orders) → aggregate ≡ one
    → IsTurned (λ place. ranks place one) key row is old new → IsTurned (λ place. ranks place aggregate) key row is old new
turned_for aggregate one key row is old new same h = subst (λ a. IsTurned (λ place. ranks place a) key row is old new) (sym same) h

-- or for a key under another name, and by another test
pub turned_own : (places : ℕ → Bool) (key own row : List Datum) (is stands : Bool) (old new : Orders) → own ≡ key → stands ≡ is
    → IsTurned places own row stands old new → IsTurned places key row is old new
turned_own places key own row is stands old new same tells h =
    subst (λ k. IsTurned places k row is old new) same (subst (λ b. IsTurned places own row b old new) tells h)

-- a row turned at one place: its key's order was taken out there, and put back with it or without it
pub turned_at : (place : ℕ) (key row front : List Datum) (is : Bool) (old mid new : Orders) (own next : List (List Datum))
    → front ≡ fronted place row → own ≡ order_of old (place, key)
    → ((other : ℕ × List Datum) → order_of mid other ≡ cond (same_spot (place, key) other) [] (order_of old other))
    → ((q : List Datum) → is_among q next ≡ cond (row_eq front q) is (is_among q own))
    → ((other : ℕ × List Datum) → order_of new other ≡ cond (same_spot (place, key) other) next (order_of mid other))
    → IsTurned (nat_eq place) key row is old new
turned_at place key row front is old mid new own next same was gone turned put = record {
  each = λ p other q.
      ap (is_among q) (put (p, other) ∙ ap (cond (same_spot (place, key) (p, other)) next) (gone (p, other)))
      ∙ by p other q (nat_eq place p) (row_eq key other) refl refl;
}
  where
    by : (p : ℕ) (other q : List Datum) (c d : Bool) → nat_eq place p ≡ c → row_eq key other ≡ d
        → is_among q (cond (c && d) next (cond (c && d) [] (order_of old (p, other))))
        ≡ cond (c && (d && row_eq (fronted p row) q)) is (is_among q (order_of old (p, other)))
    by p other q true true e f =
        turned q ∙ (λ i. cond (row_eq (same i) q) is (is_among q (was i)))
        ∙ (λ i. cond (row_eq (fronted (eqb-true place p e i) row) q) is
        (is_among q (order_of old (eqb-true place p e i, (row_eq-Decides key other).0 f i))))
    by p other q true false e f = refl
    by p other q false d e f = refl

-- one choice after another is the choice of either
twice : (a b x is old : Bool) → cond (b && x) is (cond (a && x) is old) ≡ cond ((a || (b || false)) && x) is old
twice true true true is old = refl
twice true true false is old = refl
twice true false x is old = refl
twice false true x is old = refl
twice false false x is old = refl

-- a row turned at the places of some aggregates, and then at that of one more
pub turned_more : (aggregates : List Aggregate) (place : ℕ) (one : Aggregate) (key row : List Datum) (is : Bool) (old mid new : Orders)
    → place < length aggregates → IsTurned (λ p. are_ranked p (take place aggregates)) key row is old mid
    → IsTurned (λ p. ranks p (get_or aggregates place one)) key row is mid new
    → IsTurned (λ p. are_ranked p (take (place + 1) aggregates)) key row is old new
turned_more aggregates place one key row is old mid new within first second = record {
  each = λ p other q.
      second.each p other q
      ∙ ap (cond (ranks p (get_or aggregates place one) && (row_eq key other && row_eq (fronted p row) q)) is) (first.each p other q)
      ∙ twice (are_ranked p (take place aggregates)) (ranks p (get_or aggregates place one)) (row_eq key other && row_eq (fronted p row) q)
      is (is_among q (order_of old (p, other)))
      ∙ ap (λ c. cond (c && (row_eq key other && row_eq (fronted p row) q)) is (is_among q (order_of old (p, other))))
      (sym (ap (are_ranked p) (take_more aggregates place one within)
      ∙ list_any-append (ranks p) (take place aggregates) (get_or aggregates place one ∷ [])));
}

-- ---- orders of rows

-- an order of the same rows
order_kept : (place : ℕ) (bag more : Counts) (rows next : List (List Datum)) → IsOrder place bag rows → more ≡ bag
    → ((q : List Datum) → is_among q next ≡ is_among q rows) → IsOrder place more next
order_kept place bag more rows next h is same = record {
  each = λ q. same (fronted place q) ∙ h.each q ∙ ap (λ (b : Counts). is_there (count_in b q)) (sym is);
  front = λ q among. h.front q (sym (same q) ∙ among);
}

-- rows behind their values are one where the rows are
fronted_eq : (place : ℕ) (row q : List Datum) → row_eq (fronted place row) (fronted place q) ≡ row_eq row q
fronted_eq place row q = by (row_eq (fronted place row) (fronted place q)) (row_eq row q) refl refl
  where
    by : (c d : Bool) → row_eq (fronted place row) (fronted place q) ≡ c → row_eq row q ≡ d → c ≡ d
    by true true e f = refl
    by false false e f = refl
    by true false e f = absurd (true≢false (
        sym ((row_eq-Decides row q).1 (ap behind ((row_eq-Decides (fronted place row) (fronted place q)).0 e))) ∙ f
        ))
    by false true e f = absurd (true≢false (
        sym ((row_eq-Decides (fronted place row) (fronted place q)).1 (ap (fronted place) ((row_eq-Decides row q).0 f))) ∙ e
        ))

-- an order with a row that has another count
order_turned : (place : ℕ) (bag more : Counts) (row : List Datum) (n : ℤ) (rows next : List (List Datum)) → IsOrder place bag rows
    → more ≡ with_count bag row n
    → ((q : List Datum) → is_among q next ≡ cond (row_eq (fronted place row) q) (is_there n) (is_among q rows)) → IsOrder place more next
order_turned place bag more row n rows next h is turned = record {
  each = λ q.
      turned (fronted place q) ∙ (λ i. cond (fronted_eq place row q i) (is_there n) (h.each q i))
      ∙ choice (row_eq row q) (count_in bag q)
      ∙ sym (ap is_there (ap (λ (b : Counts). count_in b q) is ∙ count_in-with_count bag row n q
      ∙ ap (λ c. cond c n (count_in bag q)) (row_equiv.symm q row)));
  front = λ q among. by q (row_eq (fronted place row) q) refl (sym (turned q) ∙ among);
}
  where
    choice : (c : Bool) (m : ℤ) → cond c (is_there n) (is_there m) ≡ is_there (cond c n m)
    choice true m = refl
    choice false m = refl

    by : (q : List Datum) (c : Bool) → row_eq (fronted place row) q ≡ c → cond c (is_there n) (is_among q rows) ≡ true
        → q ≡ fronted place (behind q)
    by q true e k = subst (λ r. r ≡ fronted place (behind r)) ((row_eq-Decides (fronted place row) q).0 e) refl
    by q false e k = h.front q k

-- ---- the orders of all keys

-- without a row there are none
pub none_ordered : (aggregates : List Aggregate) (groups : Keyed) (orders : Orders) → groups ≡ [] → orders ≡ []
    → AreOrders aggregates groups orders
none_ordered aggregates groups orders none no_order = record {
  each = λ place key ranked. record {
    each = λ q.
        ap (λ os. is_among (fronted place q) (order_of os (place, key))) no_order
        ∙ sym (ap (λ es. is_there (count_in (rows_of es key) q)) none ∙ ap is_there (count_in-empty q));
    front = λ q among. absurd (true≢false (sym among ∙ ap (λ os. is_among q (order_of os (place, key))) no_order));
  };
}

-- with one row more, turned in its key's orders
pub one_ordered : (aggregates : List Aggregate) (groups now : Keyed) (old new : Orders) (key row : List Datum) (diff : ℤ)
    → AreOrders aggregates groups old → IsAdded key row diff groups now
    → IsTurned (λ place. are_ranked place aggregates) key row (is_there (count_in (rows_of groups key) row +ℤ diff)) old new
    → AreOrders aggregates now new
one_ordered aggregates groups now old new key row diff h added turned = record {
  each = λ place other ranked. by place other ranked (row_eq key other) refl;
}
  where
    by : (place : ℕ) (other : List Datum) → are_ranked place aggregates ≡ true → (c : Bool) → row_eq key other ≡ c
        → IsOrder place (rows_of now other) (order_of new (place, other))
    by place other ranked true e =
        order_turned place (rows_of groups other) (rows_of now other) row (count_in (rows_of groups key) row +ℤ diff)
        (order_of old (place, other)) (order_of new (place, other)) (h.each place other ranked)
        (added.rows other
        ∙ ap (λ c. cond c (with_count (rows_of groups key) row (count_in (rows_of groups key) row +ℤ diff)) (rows_of groups other)) e
        ∙ ap (λ k. with_count (rows_of groups k) row (count_in (rows_of groups key) row +ℤ diff)) ((row_eq-Decides key other).0 e))
        (λ q. turned.each place other q ∙ (λ i. cond (ranked i && (e i && row_eq (fronted place row) q))
        (is_there (count_in (rows_of groups key) row +ℤ diff)) (is_among q (order_of old (place, other)))))
    by place other ranked false e =
        order_kept place (rows_of groups other) (rows_of now other)
        (order_of old (place, other)) (order_of new (place, other)) (h.each place other ranked)
        (added.rows other
        ∙ ap (λ c. cond c (with_count (rows_of groups key) row (count_in (rows_of groups key) row +ℤ diff)) (rows_of groups other)) e)
        (λ q. turned.each place other q ∙ (λ i. cond (ranked i && (e i && row_eq (fronted place row) q))
        (is_there (count_in (rows_of groups key) row +ℤ diff)) (is_among q (order_of old (place, other)))))
