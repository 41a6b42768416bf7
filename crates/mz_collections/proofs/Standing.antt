-- What holds of the collections that are kept, as they are made, change, are settled and taken back.
use Rattle.std.proofs.Common.{◌≡◌, ℕ, zero, suc, ◌+◌, ◌-◌, ◌<◌, ◌≤◌, true, cond, List, [], ◌∷◌, ◌++◌, take, length, map, slice_get, refl, sym, ap, subst, ◌∙◌, arith}
use Rattle.std.proofs.Math.Seq.{take-length}
use Rattle.std.proofs.lemmas.List.{length-append, length-take-le, take-append-le}
use Rattle.std.specs.List.{AllByRecursion as Each}
use Rattle.mz_time.specs.declared.frontier.Frontier.{Frontier}
use Rattle.mz_time.specs.declared.frontier.Frontier.TheVariants.{Done}
use Rattle.mz_rules.specs.declared.capability.Collection.{Collection}
use Rattle.mz_rules.specs.declared.capability.Settled.{Settled}
use Rattle.mz_rules.specs.Capabilities.{Capability}
use Rattle.mz_rules.specs.Frontiers.{is_at}
use Rattle.mz_rules.specs.Numbering.{Numbered}
use Rattle.mz_rules.specs.Since.{settle}
use Rattle.mz_rules.proofs.Each.{each_append, each_both, each_of, each_take}
use Rattle.mz_rules.proofs.Exact.{settled_are}
use Rattle.mz_collections.specs.CollectionBook.{changed, collections_of, IsMade}
use Rattle.mz_collections.specs.Kept.{live_of, passed_found, passed_to, AreIdle, AreKept, AreMarked, IsOlder, ReadOlderOnes}
use Rattle.mz_collections.proofs.Parts.{older_same, same_length}
use Rattle.mz_collections.proofs.Changing.{Keeps, like}
use Rattle.mz_collections.proofs.Settling.{live_both, live_here}
use Rattle.mz_collections.proofs.Under.{numbered_changed, length_changed, numbered_take, numbered_one}

-- ---- one changed

live_changed : (f : Collection → Collection) → Keeps f → (n : ℕ) (ss : List Settled) → live_of (map (changed n f) ss) ≡ live_of ss
live_changed f k n [] = refl
live_changed f k n (x ∷ ss) =
    let l = like f k n x in
    λ i. cond (is_at (l.since i)) (l.number i ∷ live_changed f k n ss i) (live_changed f k n ss i)

older_changed : (f : Collection → Collection) → Keeps f → (n : ℕ) (ss : List Settled) → ReadOlderOnes ss → ReadOlderOnes (map (changed n f) ss)
older_changed f k n [] p = tt
older_changed f k n (x ∷ ss) p =
    let l = like f k n x in
    (subst (λ (q : ℕ × List ℕ). Each (IsOlder q.0) q.1) (λ i. (sym l.number i, sym l.inputs i)) p.0, older_changed f k n ss p.1)

idle_changed : (f : Collection → Collection) → Keeps f → (n : ℕ) (over : List Frontier) (ss : List Settled) → AreIdle over ss → AreIdle over (map (changed n f) ss)
idle_changed f k n over [] p = tt
idle_changed f k n over (x ∷ ss) p =
    let l = like f k n x in
    (subst (λ (q : Frontier × ℕ). is_at q.0 ≡ true → passed_to q.1 over ≡ Done) (λ i. (sym l.since i, sym l.number i)) p.0, idle_changed f k n over ss p.1)

pub kept_changed : (f : Collection → Collection) → Keeps f → (n : ℕ) (all new : List Settled) (told over : List Frontier) (live : List ℕ)
    → AreKept all told over live → new ≡ map (changed n f) all → AreKept new told over live
kept_changed f keeps n all new told over live k e = record {
  numbered = subst (λ ss. Numbered 1 (collections_of ss)) (sym e) (numbered_changed f keeps.number 1 n all k.numbered);
  as_many_told = k.as_many_told ∙ sym (ap length e ∙ length_changed f n all);
  as_many_over = k.as_many_over ∙ sym (ap length e ∙ length_changed f n all);
  older = subst ReadOlderOnes (sym e) (older_changed f keeps n all k.older);
  listed = k.listed ∙ sym (ap live_of e ∙ live_changed f keeps n all);
  idle = subst (AreIdle over) (sym e) (idle_changed f keeps n over all k.idle);
}

pub kept_told : (all : List Settled) (told new over : List Frontier) (live : List ℕ) → AreKept all told over live → length new ≡ length told → AreKept all new over live
kept_told all told new over live k e = record {
  numbered = k.numbered;
  as_many_told = e ∙ k.as_many_told;
  as_many_over = k.as_many_over;
  older = k.older;
  listed = k.listed;
  idle = k.idle;
}

-- ---- all settled

pub kept_settled : (kept : List Capability) (all new : List Settled) (told over over' : List Frontier) (live live' : List ℕ) → AreKept all told over live
    → new ≡ settle kept (collections_of all) → length over' ≡ length over → live' ≡ live_of new → AreIdle over' new → AreKept new told over' live'
kept_settled kept all new told over over' live live' k e many listed idle =
    let same : collections_of new ≡ collections_of all = ap collections_of e ∙ settled_are kept (collections_of all) in
    record {
      numbered = subst (Numbered 1) (sym same) k.numbered;
      as_many_told = k.as_many_told ∙ sym (same_length new all same);
      as_many_over = many ∙ k.as_many_over ∙ sym (same_length new all same);
      older = older_same all new (sym same) k.older;
      listed = listed;
      idle = idle;
    }

-- ---- one more

numbers_upto : (k : ℕ) (ss : List Settled) → Numbered k (collections_of ss) → Each (λ s. (k ≤ s.collection.number) × (s.collection.number < k + length ss)) ss
numbers_upto k [] n = tt
numbers_upto k (x ∷ ss) n = (
  (omega (arith, n.0), omega (arith, n.0)),
  each_of (λ s. (k + 1 ≤ s.collection.number) × (s.collection.number < k + 1 + length ss)) (λ s. (k ≤ s.collection.number) × (s.collection.number < k + length (x ∷ ss)))
      (λ s p. (omega (arith, p.0), omega (arith, p.1))) ss (numbers_upto (k + 1) ss n.1),
)

found_before : (p : ℕ) (fs gs : List Frontier) → p < length fs → slice_get (fs ++ gs) p ≡ slice_get fs p
found_before p [] gs h = absurd (omega (arith, h))
found_before zero (f ∷ fs) gs h = refl
found_before (suc p) (f ∷ fs) gs h = found_before p fs gs (omega (arith, h))

found_last : (fs : List Frontier) (f : Frontier) → passed_found (slice_get (fs ++ f ∷ []) (length fs)) ≡ f
found_last [] f = refl
found_last (g ∷ fs) f = found_last fs f

input_older : (all : List Settled) (number : ℕ) (inputs : List ℕ) → number ≡ length all + 1 → Each (IsMade all) inputs → Each (IsOlder number) inputs
input_older all number inputs e p = each_of (IsMade all) (IsOlder number) (λ input m. record { low = m.low; high = omega (arith, m.high, e) }) inputs p

pub kept_made : (all new : List Settled) (told new_told over new_over : List Frontier) (live new_live : List ℕ) (s : Settled) (f : Frontier) → AreKept all told over live
    → s.collection.number ≡ length all + 1 → is_at s.since ≡ true → Each (IsMade all) s.collection.inputs
    → new ≡ all ++ s ∷ [] → new_told ≡ told ++ f ∷ [] → new_over ≡ over ++ Done ∷ [] → new_live ≡ live ++ s.collection.number ∷ [] → AreKept new new_told new_over new_live
kept_made all new told new_told over new_over live new_live s f k q at made e g h l =
    let many : length new ≡ length all + 1 = ap length e ∙ length-append all (s ∷ []) in
    let number_many = k.as_many_over in
    let idle : AreIdle (over ++ Done ∷ []) (all ++ s ∷ [])
    = each_append (λ x. is_at x.since ≡ true → passed_to x.collection.number (over ++ Done ∷ []) ≡ Done) all (s ∷ [])
    (each_both (λ x. (1 ≤ x.collection.number) × (x.collection.number < 1 + length all)) (λ x. is_at x.since ≡ true → passed_to x.collection.number over ≡ Done)
    (λ x. is_at x.since ≡ true → passed_to x.collection.number (over ++ Done ∷ []) ≡ Done)
    (λ x p i a. ap passed_found (found_before (x.collection.number - 1) over (Done ∷ []) (omega (arith, p.0, p.1, k.as_many_over))) ∙ i a)
    all (numbers_upto 1 all k.numbered) k.idle) (
      (λ a. let place : s.collection.number - 1 ≡ length over = omega (arith, q, k.as_many_over) in
          ap (λ p. passed_found (slice_get (over ++ Done ∷ []) p)) place ∙ found_last over Done),
      tt,
    ) in
    record {
      numbered = subst (λ ss. Numbered 1 (collections_of ss)) (sym e) (numbered_one 1 all s k.numbered (omega (arith, q)));
      as_many_told = omega (arith, many, ap length g, length-append told (f ∷ []), k.as_many_told);
      as_many_over = omega (arith, many, ap length h, length-append over (Done ∷ []), k.as_many_over);
      older = subst ReadOlderOnes (sym e) (each_append (λ x. Each (IsOlder x.collection.number) x.collection.inputs) all (s ∷ []) k.older
          (input_older all s.collection.number s.collection.inputs q made, tt));
      listed = l ∙ ap (λ ns. ns ++ s.collection.number ∷ []) k.listed ∙ ap (λ ns. live_of all ++ ns) (sym (live_here s [] at)) ∙ sym (live_both all (s ∷ [])) ∙ sym (ap live_of e);
      idle = subst (λ (p : List Frontier × List Settled). AreIdle p.0 p.1) (λ i. (sym h i, sym e i)) idle;
    }

-- ---- taken back

found_taken : (p m : ℕ) (fs : List Frontier) → p < m → slice_get (take m fs) p ≡ slice_get fs p
found_taken p zero fs h = absurd (omega (arith, h))
found_taken p (suc m) [] h = refl
found_taken zero (suc m) (f ∷ fs) h = refl
found_taken (suc p) (suc m) (f ∷ fs) h = found_taken p m fs (omega (arith, h))

pub kept_taken : (m n : ℕ) (all : List Settled) (told over : List Frontier) (live : List ℕ) → AreKept all told over live → AreMarked all live m n
    → AreKept (take m all) (take m told) (take m over) (take n live)
kept_taken m n all told over live k w =
    let many : length (take m all) ≡ m = length-take-le m all w.within in
    let numbered = numbered_take 1 m all k.numbered in
    record {
      numbered = numbered;
      as_many_told = length-take-le m told (omega (arith, k.as_many_told, w.within)) ∙ sym many;
      as_many_over = length-take-le m over (omega (arith, k.as_many_over, w.within)) ∙ sym many;
      older = each_take (λ x. Each (IsOlder x.collection.number) x.collection.inputs) m all k.older;
      listed = w.listed;
      idle = each_both (λ x. (1 ≤ x.collection.number) × (x.collection.number < 1 + length (take m all))) (λ x. is_at x.since ≡ true → passed_to x.collection.number over ≡ Done)
          (λ x. is_at x.since ≡ true → passed_to x.collection.number (take m over) ≡ Done)
          (λ x p i a. ap passed_found (found_taken (x.collection.number - 1) m over (omega (arith, p.0, p.1, many))) ∙ i a)
          (take m all) (numbers_upto 1 (take m all) numbered) (each_take (λ x. is_at x.since ≡ true → passed_to x.collection.number over ≡ Done) m all k.idle);
    }

-- ---- marks

pub marked_none : (all : List Settled) (live : List ℕ) → AreMarked all live 0 0
marked_none all live = record { within = omega arith; live_within = omega arith; listed = refl }

pub marked_whole : (all : List Settled) (live : List ℕ) → live ≡ live_of all → AreMarked all live (length all) (length live)
marked_whole all live e = record { within = omega arith; live_within = omega arith; listed = take-length live ∙ e ∙ sym (ap live_of (take-length all)) }

pub marked_made : (all : List Settled) (live : List ℕ) (m n : ℕ) (s : Settled) (number : ℕ) → AreMarked all live m n → AreMarked (all ++ s ∷ []) (live ++ number ∷ []) m n
marked_made all live m n s number w = record {
  within = omega (arith, w.within, length-append all (s ∷ []));
  live_within = omega (arith, w.live_within, length-append live (number ∷ []));
  listed = take-append-le n live (number ∷ []) w.live_within ∙ w.listed ∙ sym (ap live_of (take-append-le m all (s ∷ []) w.within));
}

pub kept_back : (m n : ℕ) (all new_all : List Settled) (told new_told over new_over : List Frontier) (live new_live : List ℕ) → AreKept all told over live → AreMarked all live m n
    → new_all ≡ take m all → new_told ≡ take m told → new_over ≡ take m over → new_live ≡ take n live → AreKept new_all new_told new_over new_live
kept_back m n all new_all told new_told over new_over live new_live k w e f g h =
    subst (λ (p : List Settled × List Frontier × List Frontier × List ℕ). AreKept p.0 p.1 p.2 p.3) (λ i. (sym e i, sym f i, sym g i, sym h i)) (kept_taken m n all told over live k w)

pub marked_grown : (all new : List Settled) (live new_live : List ℕ) (m n : ℕ) (s : Settled) (number : ℕ) → AreMarked all live m n → new ≡ all ++ s ∷ [] → new_live ≡ live ++ number ∷ []
    → AreMarked new new_live m n
marked_grown all new live new_live m n s number w e h =
    subst (λ (p : List Settled × List ℕ). AreMarked p.0 p.1 m n) (λ i. (sym e i, sym h i)) (marked_made all live m n s number w)
