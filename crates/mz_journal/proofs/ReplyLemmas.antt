-- The call that is answered: the last that waits.
use Rattle.std.proofs.Common.{◌≡◌, ℕ, zero, suc, ◌<◌, ◌||◌, Bool, true, false, not, if◌then◌else◌, List, [], ◌∷◌, map, filter, drop, length, slice_index_or, slice_set, refl, sym, ap, ap₂, ◌∙◌, arith}
use Rattle.std.specs.List.{list_any}
use Rattle.std.proofs.lemmas.Bool.{cond-true, cond-false, or_right, or_left, or_from, true≢false}
use Rattle.mz_log.specs.declared.journal.CallEntry.{CallEntry}
use Rattle.mz_log.specs.declared.reply.Reply.{Reply}
use Rattle.mz_journal.specs.Journal.{JournalState, is_waiting, has_waiting, with_reply, answered, with_answer}
use Rattle.mz_journal.specs.Slots.{IsLast, replied_at}

-- some call passes where the one at a place does
any_at : (test : CallEntry → Bool) (calls : List CallEntry) (place : ℕ) → place < length calls
    → ((other : CallEntry) → test (slice_index_or calls place other) ≡ true) → list_any test calls ≡ true
any_at test [] place within passes = absurd (omega arith)
any_at test (c ∷ cs) zero within passes = or_left (test c) (list_any test cs) (passes c)
any_at test (c ∷ cs) (suc place) within passes = or_right (test c) (list_any test cs) (any_at test cs place (omega arith) passes)

-- a reply to the last that waits is the reply to the call
pub answered_last : (session call time : ℕ) (reply : Reply) (calls : List CallEntry) (place : ℕ) → IsLast (is_waiting session call) calls place
    → replied_at place time reply calls ≡ answered session call time reply calls
answered_last session call time reply [] place last = refl
answered_last session call time reply (c ∷ cs) zero last =
    sym (cond-false _ _ _ (ap₂ (λ a b. a || not b) last.none_behind (last.passes c)))
answered_last session call time reply (c ∷ cs) (suc place) last =
    let inner : IsLast (is_waiting session call) cs place = record { within = omega (arith, last.within); passes = last.passes; none_behind = last.none_behind } in
    ap (λ l. c ∷ l) (answered_last session call time reply cs place inner)
    ∙ sym (cond-true _ _ _ (or_left (has_waiting session call cs) (not (is_waiting session call c)) (any_at (is_waiting session call) cs place inner.within inner.passes)))

-- so a journal in which it stands is the journal with the answer
pub answered_state : (before now : JournalState) (session call time : ℕ) (reply : Reply) (place : ℕ) (calls : List CallEntry) → before ≡ now
    → IsLast (is_waiting session call) now.calls place → calls ≡ replied_at place time reply before.calls
    → record before { calls = calls } ≡ with_answer now session call time reply
answered_state before now session call time reply place calls same last is =
    let with_calls : JournalState → List CallEntry → JournalState = λ s l. record s { calls = l } in
    ap (with_calls before) is ∙ ap (λ s. with_calls s (replied_at place time reply s.calls)) same
    ∙ ap (with_calls now) (answered_last session call time reply now.calls place last)

-- a reply makes no call more
pub length-replied_at : (place time : ℕ) (reply : Reply) (calls : List CallEntry) → length (replied_at place time reply calls) ≡ length calls
length-replied_at place time reply [] = refl
length-replied_at zero time reply (c ∷ cs) = refl
length-replied_at (suc place) time reply (c ∷ cs) = ap suc (length-replied_at place time reply cs)

-- the call at a place with its reply stands at the place once it is set there
pub set_replied : (place time : ℕ) (reply : Reply) (calls : List CallEntry) (entry : CallEntry) → place < length calls
    → entry ≡ slice_index_or calls place entry → slice_set calls place (with_reply time reply entry) ≡ replied_at place time reply calls
set_replied place time reply [] entry within is = refl
set_replied zero time reply (c ∷ cs) entry within is = ap (λ e. with_reply time reply e ∷ cs) is
set_replied (suc place) time reply (c ∷ cs) entry within is = ap (λ l. c ∷ l) (set_replied place time reply cs entry (omega arith) is)

-- a call more is some call
some_call : (c : CallEntry) (cs : List CallEntry) → c ∷ cs ≡ [] → ⊥
some_call c cs e = true≢false (ap (list_any (λ x. true)) e)

-- the call, which has the reply if it waits under the number
abbrev changed : ℕ → ℕ → ℕ → Reply → CallEntry → CallEntry
changed session call time reply other = if is_waiting session call other then with_reply time reply other else other

-- where no call waits under the number, none changes
changed_none : (session call time : ℕ) (reply : Reply) (calls : List CallEntry) → filter (is_waiting session call) calls ≡ []
    → map (changed session call time reply) calls ≡ calls
changed_none session call time reply [] none = refl
changed_none session call time reply (c ∷ cs) none = by (changed_none session call time reply cs) (is_waiting session call c) refl
  where
    by : (filter (is_waiting session call) cs ≡ [] → map (changed session call time reply) cs ≡ cs) → (b : Bool) → is_waiting session call c ≡ b
        → map (changed session call time reply) (c ∷ cs) ≡ c ∷ cs
    by rest true e = absurd (some_call _ _ (sym (cond-true _ _ _ e) ∙ none))
    by rest false e = ap₂ (λ x xs. x ∷ xs) (cond-false _ _ _ e) (rest (sym (cond-false _ _ _ e) ∙ none))

-- where none is kept, none passes
none_kept : (test : CallEntry → Bool) (calls : List CallEntry) → filter test calls ≡ [] → list_any test calls ≡ false
none_kept test [] none = refl
none_kept test (c ∷ cs) none = by (none_kept test cs) (test c) refl
  where
    by : (filter test cs ≡ [] → list_any test cs ≡ false) → (b : Bool) → test c ≡ b → list_any test (c ∷ cs) ≡ false
    by rest true e = absurd (some_call _ _ (sym (cond-true _ _ _ e) ∙ none))
    by rest false e = or_from (test c) (list_any test cs) e (rest (sym (cond-false _ _ _ e) ∙ none))

-- the one call that waits gets the reply, and no other changes
pub answered_alone : (session call time : ℕ) (reply : Reply) (calls : List CallEntry) (entry : CallEntry)
    → filter (is_waiting session call) calls ≡ entry ∷ []
    → answered session call time reply calls ≡ map (λ other. if is_waiting session call other then with_reply time reply other else other) calls
answered_alone session call time reply [] entry one = refl
answered_alone session call time reply (c ∷ cs) entry one = by (answered_alone session call time reply cs entry) (is_waiting session call c) refl
  where
    by : (filter (is_waiting session call) cs ≡ entry ∷ [] → answered session call time reply cs ≡ map (changed session call time reply) cs)
        → (b : Bool) → is_waiting session call c ≡ b
        → answered session call time reply (c ∷ cs) ≡ map (changed session call time reply) (c ∷ cs)
    by rest true e =
        let none : filter (is_waiting session call) cs ≡ [] = ap (drop 1) (sym (cond-true _ _ _ e) ∙ one) in
        cond-false _ _ _ (ap₂ (λ a b. a || not b) (none_kept (is_waiting session call) cs none) e)
        ∙ sym (ap₂ (λ x xs. x ∷ xs) (cond-true _ _ _ e) (changed_none session call time reply cs none))
    by rest false e =
        cond-true _ _ _ (or_right (has_waiting session call cs) (not (is_waiting session call c)) (ap not e))
        ∙ ap (λ l. c ∷ l) (rest (sym (cond-false _ _ _ e) ∙ one))
        ∙ sym (ap (λ x. x ∷ map (changed session call time reply) cs) (cond-false _ _ _ e))
