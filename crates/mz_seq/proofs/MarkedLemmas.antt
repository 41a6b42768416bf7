-- What tables had at the mark, through commands and rounds.
use Rattle.std.proofs.Common.{◌≡◌, ◌≤◌, ◌<◌, ℕ, zero, suc, ◌==◌, Bool, true, false, ◌||◌, cond, not, List, [], ◌∷◌, ◌++◌, map, filter, Option, None, Some, Result, Ok, Err, IfOk, OnErr, refl, sym, ap, subst, ◌∙◌, true≢false, arith}
use Rattle.std.proofs.lemmas.Bool.{eq-eqb, ne_eqb}
use Rattle.std.proofs.lemmas.List.{map-append}
use Rattle.std.specs.FinMap.{empty}
use Rattle.std.specs.List.{list_any, All}
use Rattle.mz_bag.specs.Bag.{Counts}
use Rattle.mz_bag.specs.Weighted.{Weighted}
use Rattle.mz_plan.specs.Items.{is_table}
use Rattle.mz_plan.specs.declared.item.Item.{Item}
use Rattle.mz_refusal.specs.declared.refusal.Refusal.{Refusal}
use Rattle.mz_catalog.specs.CatalogState.{CatalogState, IsCatalog}
use Rattle.mz_log.specs.Sequential.{Bags, Database, added, bag_at, with_rows, without_bag}
use Rattle.mz_log.specs.declared.reply.SeqReply.{SeqReply}
use Rattle.mz_seq.specs.Tables.{before_of, catalog_of, gone_bags, has_bag, made_bags, tables_of, AreApart, IsDatabase}
use Rattle.mz_seq.specs.Told.{ComesTo, IsMade, IsRemoved}
use Rattle.mz_seq.proofs.BagLemmas.{neither}
use Rattle.mz_seq.proofs.DatabaseLemmas.{has_number}

-- ---- numbers that are still to come have no bag

at_none : (n : ℕ) (bags : Bags) → has_bag n bags ≡ false → bag_at bags n ≡ empty
at_none n [] lacks = refl
at_none n (bag ∷ bags) lacks =
    let other = neither (bag.0 == n) (has_bag n bags) lacks in
    ap (λ b. cond b bag.1 (bag_at bags n)) other.0 ∙ at_none n bags other.1

below_none : (n next : ℕ) (items : List Item) → All (λ item. item.id < next) items → next ≤ n → list_any (λ k. k == n) (tables_of items) ≡ false
below_none n next [] below le = refl
below_none n next (item ∷ items) below le = by (is_table item.kind) (below_none n next items (λ k d within. below (suc k) d (omega arith)) le)
  where
    by : (c : Bool) → list_any (λ k. k == n) (tables_of items) ≡ false
        → list_any (λ k. k == n) (map (λ item. item.id) (cond c (item ∷ filter (λ item. is_table item.kind) items) (filter (λ item. is_table item.kind) items))) ≡ false
    by true rest =
        let first : item.id < next = below zero item (omega arith) in
        ap (λ b. b || list_any (λ k. k == n) (tables_of items)) (ne_eqb item.id n (λ e. omega arith)) ∙ rest
    by false rest = rest

pub to_come : (d : Database) → IsDatabase d → IsCatalog (catalog_of d) → (n : ℕ) → d.next ≤ n → bag_at d.bags n ≡ empty
to_come d is catalog n le =
    at_none n d.bags (has_number n d.bags ∙ ap (list_any (λ k. k == n)) is.numbers ∙ below_none n d.next d.items catalog.below le)

pub made_next : (why : Option Refusal) (item : Item) (catalog after : CatalogState) (reply : SeqReply) → IsMade why item catalog after reply → catalog.next ≤ after.next
made_next None item catalog after reply h = subst (λ n. catalog.next ≤ n) (sym (ap (λ c. c.next) h.1)) (omega arith)
made_next (Some why) item catalog after reply h = subst (λ n. catalog.next ≤ n) (sym (ap (λ c. c.next) h.1)) (omega arith)

pub gone_next : (why : Option Refusal) (id : ℕ) (catalog after : CatalogState) (reply : SeqReply) → IsRemoved why id catalog after reply → after.next ≡ catalog.next
gone_next None id catalog after reply h = ap (λ c. c.next) h.1
gone_next (Some why) id catalog after reply h = ap (λ c. c.next) h.1

-- ---- what stood under the numbers of bags

before_moved : (before : Bags) (table : ℕ) (ws : Weighted) (bags : Bags) → before_of before (with_rows table ws bags) ≡ before_of before bags
before_moved before table ws [] = refl
before_moved before table ws (bag ∷ bags) = by (bag.0 == table) (before_moved before table ws bags)
  where
    by : (b : Bool) → before_of before (with_rows table ws bags) ≡ before_of before bags
        → before_of before (cond b (bag.0, added bag.1 ws) bag ∷ with_rows table ws bags) ≡ (bag.0, bag_at before bag.0) ∷ before_of before bags
    by true rest = ap (λ bs. (bag.0, bag_at before bag.0) ∷ bs) rest
    by false rest = ap (λ bs. (bag.0, bag_at before bag.0) ∷ bs) rest

before_without : (before : Bags) (id : ℕ) (bags : Bags) → before_of before (without_bag id bags) ≡ without_bag id (before_of before bags)
before_without before id [] = refl
before_without before id (bag ∷ bags) = by (bag.0 == id) (before_without before id bags)
  where
    by : (b : Bool) → before_of before (without_bag id bags) ≡ without_bag id (before_of before bags)
        → before_of before (cond (not b) (bag ∷ without_bag id bags) (without_bag id bags))
        ≡ cond (not b) ((bag.0, bag_at before bag.0) ∷ without_bag id (before_of before bags)) (without_bag id (before_of before bags))
    by true rest = rest
    by false rest = ap (λ bs. (bag.0, bag_at before bag.0) ∷ bs) rest

pub had_moved : {E : Type 0} (result : Result SeqReply E) (why : Option Refusal) (told : SeqReply) (before bags after had : Bags) (table : ℕ) (ws : Weighted)
    → had ≡ before_of before bags → IfOk result (λ reply. ComesTo why told (with_rows table ws bags) bags after reply) → OnErr result (after ≡ bags)
    → had ≡ before_of before after
had_moved (Ok reply) None told before bags after had table ws is h err = is ∙ sym (ap (before_of before) h.1 ∙ before_moved before table ws bags)
had_moved (Ok reply) (Some why) told before bags after had table ws is h err = is ∙ sym (ap (before_of before) h.1)
had_moved (Err e) why told before bags after had table ws is h err = is ∙ sym (ap (before_of before) err)

pub had_gone_too : (why : Option Refusal) (id : ℕ) (catalog next : CatalogState) (before bags had : Bags) (reply : SeqReply) → IsRemoved why id catalog next reply
    → had ≡ before_of before bags → gone_bags reply id had ≡ before_of before (gone_bags reply id bags)
had_gone_too None id catalog next before bags had reply h is =
    ap (λ r. gone_bags r id had) h.0 ∙ ap (without_bag id) is ∙ sym (ap (λ r. before_of before (gone_bags r id bags)) h.0 ∙ before_without before id bags)
had_gone_too (Some why) id catalog next before bags had reply h is =
    ap (λ r. gone_bags r id had) h.0 ∙ is ∙ sym (ap (λ r. before_of before (gone_bags r id bags)) h.0)

pub had_made : (why : Option Refusal) (item : Item) (catalog next : CatalogState) (before bags had : Bags) (b : Bool) (reply : SeqReply) → IsMade why item catalog next reply
    → bag_at before catalog.next ≡ empty → had ≡ before_of before bags → had ++ made_bags b reply ≡ before_of before (bags ++ made_bags b reply)
had_made why item catalog next before bags had b reply h none is =
    (λ i. is i ++ sym (new why b h) i) ∙ sym (map-append (λ bag. (bag.0, bag_at before bag.0)) bags (made_bags b reply))
  where
    new : (why : Option Refusal) (b : Bool) → IsMade why item catalog next reply → before_of before (made_bags b reply) ≡ made_bags b reply
    new None true h = ap (λ r. before_of before (made_bags true r)) h.0 ∙ (λ i. (catalog.next, none i) ∷ []) ∙ sym (ap (made_bags true) h.0)
    new None false h = refl
    new (Some why) true h = ap (λ r. before_of before (made_bags true r)) h.0 ∙ sym (ap (made_bags true) h.0)
    new (Some why) false h = refl

-- ---- what stands under its own number

skip : (b : ℕ × Counts) (bs cs : Bags) → has_bag b.0 cs ≡ false → before_of (b ∷ bs) cs ≡ before_of bs cs
skip b bs [] lacks = refl
skip b bs (c ∷ cs) lacks =
    let other = neither (c.0 == b.0) (has_bag b.0 cs) lacks in
    let apart : b.0 == c.0 ≡ false = ne_eqb b.0 c.0 (λ e. true≢false (sym (eq-eqb c.0 b.0 (sym e)) ∙ other.0)) in
    λ i. (c.0, cond (apart i) b.1 (bag_at bs c.0)) ∷ skip b bs cs other.1 i

pub own_bags : (bags : Bags) → AreApart bags → bags ≡ before_of bags bags
own_bags [] apart = refl
own_bags (b ∷ bs) apart =
    let here : b.0 == b.0 ≡ true = eq-eqb b.0 b.0 refl in
    λ i. (b.0, sym (ap (λ t. cond t b.1 (bag_at bs b.0)) here) i) ∷ (own_bags bs apart.1 ∙ sym (skip b bs bs apart.0)) i
