-- The pass: what is settled, from the newest down.
use Rattle.std.proofs.Common.{◌≡◌, ℕ, ◌+◌, ◌-◌, ◌<◌, ◌≤◌, ◌==◌, Bool, true, false, Some, List, [], ◌∷◌, ◌++◌, length, get_or, set, slice_get, refl, sym, ap, subst, ◌∙◌, arith}
use Rattle.std.proofs.lemmas.Bool.Decides.{nat_tests}
use Rattle.std.proofs.lemmas.Bool.{false≢true}
use Rattle.std.proofs.lemmas.List.{length-append, append_assoc}
use Rattle.std.specs.List.{list_any, remove, AllByRecursion as Each}
use Rattle.mz_time.specs.declared.frontier.Frontier.{Frontier}
use Rattle.mz_time.specs.declared.frontier.Frontier.TheVariants.{Done}
use Rattle.mz_time.specs.Frontier.{meet}
use Rattle.mz_rules.specs.declared.capability.Settled.{Settled}
use Rattle.mz_rules.specs.Capabilities.{Capability}
use Rattle.mz_rules.specs.Frontiers.{is_at}
use Rattle.mz_rules.specs.Numbering.{Numbered}
use Rattle.mz_rules.specs.Since.{least_reader, own, settle}
use Rattle.mz_rules.proofs.Each.{each_append, each_both, each_left, each_of, each_right}
use Rattle.mz_rules.proofs.Exact.{settled_are}
use Rattle.mz_collections.specs.CollectionBook.{collections_of}
use Rattle.mz_collections.specs.Kept.{live_of, passed_to, passed_on, put_at, AreAtRest, AreIdle, IsOlder, ReadOlderOnes}
use Rattle.mz_collections.specs.Pass.{at_since, CanSettle, IsHalfway, IsSettledAt, since_at}
use Rattle.mz_collections.proofs.Stays.{done_readers, stay_behind, at_rest_behind, rest_settled}
use Rattle.mz_collections.proofs.LastLive.{LastLive, last_live}
use Rattle.mz_collections.proofs.Parts.{there, set_there, remove_there, number_there, numbers_below, numbers_above, reads_no_newer, coll_both, append_none, same_length, older_same}
use Rattle.mz_collections.proofs.Settling.{at_done, live_here, live_later, live_both, all_done}
use Rattle.mz_collections.proofs.Under.{is_it, is_other}

pub halfway_start : (kept : List Capability) (all : List Settled) (over : List Frontier) (live : List ℕ) (place : ℕ) → live ≡ live_of all → AreIdle over all → place ≡ length live
    → IsHalfway kept all all over live place
halfway_start kept all over live place l idle p = record {
  older = all;
  were = [];
  newer = [];
  was = sym (append_none all);
  is = sym (append_none all);
  settled = refl;
  stay = tt;
  passed = idle;
  idle = tt;
  listed = l ∙ sym (append_none (live_of all));
  here = p ∙ ap length l;
}

pub same_collections : (kept : List Capability) (before all : List Settled) (over : List Frontier) (live : List ℕ) (place : ℕ) → IsHalfway kept before all over live place
    → collections_of all ≡ collections_of before
same_collections kept before all over live place h =
    let tail : collections_of h.newer ≡ collections_of h.were = ap collections_of h.settled ∙ settled_are kept (collections_of h.were) in
    ap collections_of h.is ∙ coll_both h.older h.newer ∙ ap (λ cs. collections_of h.older ++ cs) tail ∙ sym (coll_both h.older h.were) ∙ sym (ap collections_of h.was)

-- the next one, seen in all of them
pub record Next (before all : List Settled) (number : ℕ) (l : Settled) (pre behind : List Settled) : Type 0 where
  pub parts : all ≡ pre ++ l ∷ behind
  pub number_is : l.collection.number ≡ number
  pub at : number ≡ length pre + 1

next_at : (kept : List Capability) (before all : List Settled) (over : List Frontier) (live : List ℕ) (place number : ℕ) (h : IsHalfway kept before all over live (place + 1))
    → Numbered 1 (collections_of before) → (l : LastLive h.older place number) → Next before all number l.s l.pre (l.post ++ h.newer)
next_at kept before all over live place number h num l =
    let parts : all ≡ l.pre ++ l.s ∷ (l.post ++ h.newer) = h.is ∙ ap (λ xs. xs ++ h.newer) l.is ∙ append_assoc l.pre (l.s ∷ l.post) h.newer in
    let numbered : Numbered 1 (collections_of (l.pre ++ l.s ∷ (l.post ++ h.newer)))
    = subst (λ ss. Numbered 1 (collections_of ss)) parts (subst (Numbered 1) (sym (same_collections kept before all over live (place + 1) h)) num) in
    record { parts = parts; number_is = l.number_is; at = omega (arith, l.number_is, number_there 1 l.pre l.s (l.post ++ h.newer) numbered) }

pub can_settle : (kept : List Capability) (before all : List Settled) (over : List Frontier) (live : List ℕ) (place number : ℕ) (h : IsHalfway kept before all over live (place + 1))
    → Numbered 1 (collections_of before) → ReadOlderOnes before → length over ≡ length before → LastLive h.older place number → CanSettle number all over
can_settle kept before all over live place number h num older many l =
    let n = next_at kept before all over live place number h num l in
    let same = same_collections kept before all over live (place + 1) h in
    record {
      low = omega (arith, n.at);
      high = omega (arith, n.at, ap length n.parts, length-append l.pre (l.s ∷ (l.post ++ h.newer)));
      as_many = many ∙ sym (same_length all before same);
      numbered = subst (Numbered 1) (sym same) num;
      older = older_same before all (sym same) older;
    }

pub next_live : (kept : List Capability) (before all : List Settled) (over : List Frontier) (live : List ℕ) (place number d : ℕ) (h : IsHalfway kept before all over live (place + 1))
    → number ≡ get_or live place d → LastLive h.older place number
next_live kept before all over live place number d h e =
    last_live h.older place number (live_of h.newer) d (sym h.here) (e ∙ ap (λ ns. get_or ns place d) h.listed)

pub next_found : (kept : List Capability) (before all : List Settled) (over : List Frontier) (live : List ℕ) (place number : ℕ) (h : IsHalfway kept before all over live (place + 1))
    → Numbered 1 (collections_of before) → (l : LastLive h.older place number) → slice_get all (number - 1) ≡ Some l.s
next_found kept before all over live place number h num l =
    let n = next_at kept before all over live place number h num l in
    let place : number - 1 ≡ length l.pre = omega (arith, n.at) in
    (λ i. slice_get (n.parts i) (place i)) ∙ there l.pre l.s (l.post ++ h.newer)

-- the numbers that are left
list_next : (hs ps : List Capability) (before all : List Settled) (over : List Frontier) (live live' : List ℕ) (place number : ℕ) (still : Bool)
    (h : IsHalfway (hs ++ ps) before all over live (place + 1)) (l : LastLive h.older place number) → still ≡ is_at (since_at (hs ++ ps) number l.s over)
    → ((still ≡ true → live' ≡ live) × (still ≡ false → live' ≡ remove live place))
    → live' ≡ live_of l.pre ++ live_of (at_since l.s (since_at (hs ++ ps) number l.s over) ∷ (l.post ++ h.newer))
list_next hs ps before all over live live' place number still h l test listed =
    let since = since_at (hs ++ ps) number l.s over in
    let split : live ≡ live_of l.pre ++ l.s.collection.number ∷ live_of h.newer
    = h.listed ∙ ap (λ xs. live_of xs ++ live_of h.newer) l.is
    ∙ ap (λ ns. ns ++ live_of h.newer) (live_both l.pre (l.s ∷ l.post) ∙ ap (λ ns. live_of l.pre ++ ns) (live_here l.s l.post l.live ∙ ap (λ ns. l.s.collection.number ∷ ns) l.rest))
    ∙ append_assoc (live_of l.pre) (l.s.collection.number ∷ []) (live_of h.newer) in
    let tail : live_of (l.post ++ h.newer) ≡ live_of h.newer = live_both l.post h.newer ∙ ap (λ ns. ns ++ live_of h.newer) l.rest in
    by (is_at since) refl split tail
  where
    by : (c : Bool) → is_at (since_at (hs ++ ps) number l.s over) ≡ c → live ≡ live_of l.pre ++ l.s.collection.number ∷ live_of h.newer → live_of (l.post ++ h.newer) ≡ live_of h.newer
        → live' ≡ live_of l.pre ++ live_of (at_since l.s (since_at (hs ++ ps) number l.s over) ∷ (l.post ++ h.newer))
    by true k split tail =
        listed.0 (test ∙ k) ∙ split
        ∙ ap (λ ns. live_of l.pre ++ ns) (sym (live_here (at_since l.s (since_at (hs ++ ps) number l.s over)) (l.post ++ h.newer) k ∙ ap (λ ns. l.s.collection.number ∷ ns) tail))
    by false k split tail =
        listed.1 (test ∙ k) ∙ (λ i. remove (split i) (l.here i)) ∙ remove_there (live_of l.pre) l.s.collection.number (live_of h.newer)
        ∙ ap (λ ns. live_of l.pre ++ ns) (sym (live_later (at_since l.s (since_at (hs ++ ps) number l.s over)) (l.post ++ h.newer) k ∙ tail))

-- one more is settled
pub halfway_step : (hs ps : List Capability) (before all new : List Settled) (over passed : List Frontier) (live live' : List ℕ) (place number : ℕ) (still : Bool)
    (h : IsHalfway (hs ++ ps) before all over live (place + 1)) → Numbered 1 (collections_of before) → ReadOlderOnes before → AreAtRest hs ps before
    → (l : LastLive h.older place number) → IsSettledAt (hs ++ ps) number l.s all over still new passed
    → ((still ≡ true → live' ≡ live) × (still ≡ false → live' ≡ remove live place))
    → IsHalfway (hs ++ ps) before new passed live' place
halfway_step hs ps before all new over passed live live' place number still h num older rest l done listed =
    let kept = hs ++ ps in
    let since = since_at kept number l.s over in
    let n = next_at kept before all over live place number h num l in
    let same = same_collections kept before all over live (place + 1) h in
    let numbered : Numbered 1 (collections_of (l.pre ++ l.s ∷ (l.post ++ h.newer))) = subst (λ ss. Numbered 1 (collections_of ss)) n.parts (subst (Numbered 1) (sym same) num) in
    let behind = l.post ++ h.newer in
    let gone = all_done l.post l.rest in
    let was : before ≡ l.pre ++ l.s ∷ (l.post ++ h.were) = h.was ∙ ap (λ xs. xs ++ h.were) l.is ∙ append_assoc l.pre (l.s ∷ l.post) h.were in
    let rests = at_rest_behind hs ps (l.pre ++ l.s ∷ []) (l.post ++ h.were)
    (subst (AreAtRest hs ps) (was ∙ sym (append_assoc l.pre (l.s ∷ []) (l.post ++ h.were))) rest) in
    let tail = rest_settled hs ps l.post h.were h.newer rests gone h.stay h.settled in
    let passed_old : Each (λ s. is_at s.since ≡ true → passed_to s.collection.number over ≡ least_reader s.collection.number h.newer) (l.pre ++ l.s ∷ l.post)
    = subst (Each (λ s. is_at s.since ≡ true → passed_to s.collection.number over ≡ least_reader s.collection.number h.newer)) l.is h.passed in
    let mine : passed_to number over ≡ least_reader l.s.collection.number behind
    = ap (λ m. passed_to m over) (sym l.number_is) ∙ (each_right _ l.pre (l.s ∷ l.post) passed_old).0 l.live ∙ sym (done_readers l.s.collection.number l.post h.newer gone) in
    let is : since ≡ meet (own kept l.s.collection) (least_reader l.s.collection.number behind) = ap (meet (own kept l.s.collection)) mine in
    let place_is : number - 1 ≡ length l.pre = omega (arith, n.at) in
    let older_inputs : Each (IsOlder l.s.collection.number) l.s.collection.inputs
    = (each_right _ l.pre (l.s ∷ (l.post ++ h.were)) (subst ReadOlderOnes was older)).0 in
    let untouched : (m : ℕ) → number ≤ m → list_any (λ input. input == m) l.s.collection.inputs ≡ false
    = λ m k. reads_no_newer m l.s.collection.number l.s.collection.inputs older_inputs (omega (arith, k, l.number_is)) in
    record {
      older = l.pre;
      were = l.s ∷ (l.post ++ h.were);
      newer = at_since l.s since ∷ behind;
      was = was;
      is = done.put ∙ (λ i. set (n.parts i) (place_is i) (at_since l.s since)) ∙ set_there l.pre l.s (at_since l.s since) behind;
      settled = λ i. at_since l.s ((is ∙ ap (λ ss. meet (own kept l.s.collection) (least_reader l.s.collection.number ss)) (sym tail)) i) ∷ sym tail i;
      stay = ((refl, λ d. absurd (at_done l.s.since l.live d)), stay_behind l.post h.were h.newer h.stay);
      passed = each_both (λ x. (0 < x.collection.number) × (x.collection.number < l.s.collection.number))
          (λ x. is_at x.since ≡ true → passed_to x.collection.number over ≡ least_reader x.collection.number h.newer)
          (λ x. is_at x.since ≡ true → passed_to x.collection.number passed ≡ least_reader x.collection.number (at_since l.s since ∷ behind))
          (λ x k q at.
          let other : (number == x.collection.number) ≡ false = grind (arith, nat_tests, k.1, l.number_is) in
          done.on x.collection.number k.0
          ∙ ap (passed_on since l.s.collection.inputs x.collection.number)
          (is_other (number == x.collection.number) Done (passed_to x.collection.number over) other ∙ q at ∙ sym (done_readers x.collection.number l.post h.newer gone)))
          l.pre (numbers_below 1 l.pre l.s behind numbered (omega arith)) (each_left _ l.pre (l.s ∷ l.post) passed_old);
      idle = (
        (λ at.
            let m = l.s.collection.number in
            let own_test : (number == m) ≡ true = grind (arith, nat_tests, l.number_is) in
            done.on m (omega (arith, l.number_is, n.at))
            ∙ is_other (list_any (λ input. input == m) l.s.collection.inputs) (meet since (put_at Done number m (passed_to m over))) (put_at Done number m (passed_to m over)) (untouched m (omega (arith, l.number_is)))
            ∙ is_it (number == m) Done (passed_to m over) own_test),
        each_append (λ y. is_at y.since ≡ true → passed_to y.collection.number passed ≡ Done) l.post h.newer
            (each_of (λ y. is_at y.since ≡ false) (λ y. is_at y.since ≡ true → passed_to y.collection.number passed ≡ Done) (λ y k at. absurd (false≢true (sym k ∙ at))) l.post gone)
            (each_both (λ y. l.s.collection.number < y.collection.number) (λ y. is_at y.since ≡ true → passed_to y.collection.number over ≡ Done)
            (λ y. is_at y.since ≡ true → passed_to y.collection.number passed ≡ Done)
            (λ y k q at.
            let m = y.collection.number in
            let other : (number == m) ≡ false = grind (arith, nat_tests, k, l.number_is) in
            done.on m (omega (arith, k))
            ∙ is_other (list_any (λ input. input == m) l.s.collection.inputs) (meet since (put_at Done number m (passed_to m over))) (put_at Done number m (passed_to m over)) (untouched m (omega (arith, k, l.number_is)))
            ∙ is_other (number == m) Done (passed_to m over) other ∙ q at)
            h.newer (each_right _ l.post h.newer (numbers_above 1 l.pre l.s behind numbered)) h.idle),
      );
      listed = list_next hs ps before all over live live' place number still h l done.test listed;
      here = l.here;
    }

-- all is settled
pub record Ended (kept : List Capability) (before all : List Settled) (over : List Frontier) (live : List ℕ) : Type 0 where
  pub settled : all ≡ settle kept (collections_of before)
  pub listed : live ≡ live_of all
  pub idle : AreIdle over all

pub halfway_end : (hs ps : List Capability) (before all : List Settled) (over : List Frontier) (live : List ℕ) (place : ℕ) → AreAtRest hs ps before
    → IsHalfway (hs ++ ps) before all over live place → place ≡ 0 → Ended (hs ++ ps) before all over live
halfway_end hs ps before all over live place rest h z =
    let none : live_of h.older ≡ [] = empty (live_of h.older) (sym h.here ∙ z) in
    let gone = all_done h.older none in
    record {
      settled = h.is ∙ sym (ap (λ ss. settle (hs ++ ps) (collections_of ss)) h.was
          ∙ rest_settled hs ps h.older h.were h.newer (subst (AreAtRest hs ps) h.was rest) gone h.stay h.settled);
      listed = h.listed ∙ sym (live_both h.older h.newer) ∙ ap live_of (sym h.is);
      idle = subst (AreIdle over) (sym h.is) (each_append (λ y. is_at y.since ≡ true → passed_to y.collection.number over ≡ Done) h.older h.newer
          (each_of (λ y. is_at y.since ≡ false) (λ y. is_at y.since ≡ true → passed_to y.collection.number over ≡ Done) (λ y k at. absurd (false≢true (sym k ∙ at))) h.older gone) h.idle);
    }
  where
    empty : (ns : List ℕ) → length ns ≡ 0 → ns ≡ []
    empty [] e = refl
    empty (n ∷ ns) e = absurd (omega (arith, e))
