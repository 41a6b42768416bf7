-- What stands behind the places of slots, as calls are put down and answered.
use Rattle.std.proofs.Common.{◌≡◌, ℕ, zero, suc, ◌<◌, ◌%◌, ◌==◌, ◌||◌, ◌&&◌, Bool, true, false, List, [], ◌∷◌, ◌++◌, length, drop, slice_index_or, slice_set, is_none, refl, sym, ap, ◌∙◌, arith}
use Rattle.std.specs.List.{list_any}
use Rattle.std.proofs.lemmas.Bool.{eqb-true, eqb-false, or_parts, or_from}
use Rattle.std.proofs.lemmas.List.{drop_all, get_or-set_other}
use Rattle.std.proofs.lemmas.List.Folds.{list_any-append}
use Rattle.std.proofs.lemmas.Grind.{get_or-set_at}
use Rattle.std.proofs.lemmas.List.{length-append}
use Rattle.mz_log.specs.declared.journal.CallEntry.{CallEntry}
use Rattle.mz_log.specs.declared.reply.Reply.{Reply}
use Rattle.mz_journal.specs.Journal.{is_waiting}
use Rattle.mz_journal.specs.Slots.{most_slots, is_in, ArePlaces, IsLast, replied_at}

-- where none of the calls behind a place passes a test, none does once a call is put down that doesn't
any_pushed : (test : CallEntry → Bool) (n : ℕ) (calls : List CallEntry) (call : CallEntry) → list_any test (drop n calls) ≡ false → test call ≡ false
    → list_any test (drop n (calls ++ call ∷ [])) ≡ false
any_pushed test zero calls call none other =
    list_any-append test calls (call ∷ []) ∙ or_from (list_any test calls) (test call || false) none (ap (λ b. b || false) other)
any_pushed test (suc n) [] call none other = ap (list_any test) (drop_all n [] (omega arith))
any_pushed test (suc n) (c ∷ cs) call none other = any_pushed test n cs call none other

-- behind the place of the call that is put down stands nothing, and behind the places of other slots none of theirs
behind_pushed : (places : List ℕ) (calls : List CallEntry) (call : CallEntry) (slot : ℕ) → slot < length places
    → list_any (is_in slot) (drop (suc (slice_index_or places slot 0)) calls) ≡ false → (b : Bool) → is_in slot call ≡ b
    → list_any (is_in slot) (drop (suc (slice_index_or (slice_set places (call.session % most_slots) (length calls)) slot 0)) (calls ++ call ∷ [])) ≡ false
behind_pushed places calls call slot within none true e =
    let same : slot ≡ call.session % most_slots = sym (eqb-true (call.session % most_slots) slot e) in
    ap (λ k. list_any (is_in slot) (drop (suc k) (calls ++ call ∷ []))) (get_or-set_at places (call.session % most_slots) slot (length calls) 0 same (omega arith))
    ∙ ap (list_any (is_in slot)) (drop_all (suc (length calls)) (calls ++ call ∷ []) (omega (arith, length-append calls (call ∷ []))))
behind_pushed places calls call slot within none false e =
    ap (λ k. list_any (is_in slot) (drop (suc k) (calls ++ call ∷ [])))
    (get_or-set_other places (call.session % most_slots) slot (length calls) 0 (λ same. eqb-false (call.session % most_slots) slot e (sym same)))
    ∙ any_pushed (is_in slot) (suc (slice_index_or places slot 0)) calls call none e

-- the places once a call is put down, whose slot has its place
pub places_pushed : (places : List ℕ) (calls : List CallEntry) (call : CallEntry) → length places ≡ most_slots → ArePlaces places calls
    → ArePlaces (slice_set places (call.session % most_slots) (length calls)) (calls ++ call ∷ [])
places_pushed places calls call sized are = record {
  none_behind = λ slot within. behind_pushed places calls call slot (omega arith) (are.none_behind slot within) (is_in slot call) refl;
}

-- a reply leaves the sessions of calls
any_replied : (slot n place time : ℕ) (reply : Reply) (calls : List CallEntry)
    → list_any (is_in slot) (drop n (replied_at place time reply calls)) ≡ list_any (is_in slot) (drop n calls)
any_replied slot n place time reply [] = refl
any_replied slot zero zero time reply (c ∷ cs) = refl
any_replied slot zero (suc place) time reply (c ∷ cs) = ap (λ b. is_in slot c || b) (any_replied slot zero place time reply cs)
any_replied slot (suc n) zero time reply (c ∷ cs) = refl
any_replied slot (suc n) (suc place) time reply (c ∷ cs) = any_replied slot n place time reply cs

-- so the places stay
pub places_replied : (places : List ℕ) (calls : List CallEntry) (place time : ℕ) (reply : Reply) → ArePlaces places calls
    → ArePlaces places (replied_at place time reply calls)
places_replied places calls place time reply are = record {
  none_behind = λ slot within. any_replied slot (suc (slice_index_or places slot 0)) place time reply calls ∙ are.none_behind slot within;
}

-- a call of another slot isn't of the session
waits_in_slot : (session call : ℕ) (c : CallEntry) → is_in (session % most_slots) c ≡ false → (b : Bool) → (c.session == session) ≡ b
    → is_waiting session call c ≡ false
waits_in_slot session call c other true e =
    let same : c.session ≡ session = eqb-true c.session session e in
    absurd (eqb-false (c.session % most_slots) (session % most_slots) other (ap (λ n. n % most_slots) same))
waits_in_slot session call c other false e = ap (λ b. b && (c.call == call) && is_none c.reply) e

-- so where no call is of the slot, none waits
none_waits : (session call : ℕ) (calls : List CallEntry) → list_any (is_in (session % most_slots)) calls ≡ false
    → list_any (is_waiting session call) calls ≡ false
none_waits session call [] none = refl
none_waits session call (c ∷ cs) none =
    let parts = or_parts (is_in (session % most_slots) c) (list_any (is_in (session % most_slots)) cs) none in
    or_from (is_waiting session call c) (list_any (is_waiting session call) cs) (waits_in_slot session call c parts.0 (c.session == session) refl)
    (none_waits session call cs parts.1)

-- where the call at the place of its slot waits, it is the last that does
pub slot_is_last : (places : List ℕ) (calls : List CallEntry) (session call place : ℕ) → session % most_slots < most_slots → ArePlaces places calls
    → place ≡ slice_index_or places (session % most_slots) 0 → place < length calls
    → ((other : CallEntry) → is_waiting session call (slice_index_or calls place other) ≡ true)
    → IsLast (is_waiting session call) calls place
slot_is_last places calls session call place within are is there waits = record {
  within = there;
  passes = waits;
  none_behind =
      none_waits session call (drop (suc place) calls)
      (ap (λ k. list_any (is_in (session % most_slots)) (drop (suc k) calls)) is ∙ are.none_behind (session % most_slots) within);
}
