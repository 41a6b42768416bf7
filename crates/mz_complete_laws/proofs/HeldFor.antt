-- The holds that a BEGIN took stand until its session's COMMIT or closing.
use Rattle.std.proofs.Common.{◌≡◌, ℕ, ◌+◌, ◌==◌, ◌&&◌, ◌||◌, Bool, true, false, not, List, [], ◌∷◌, map, filter, Option, None, Some, refl, sym, ap, ◌∙◌, subst, inl, inr}
use Rattle.std.specs.List.{AllByRecursion as Each, list_any}
use Rattle.std.specs.Option.{option_map_or}
use Rattle.std.proofs.lemmas.Bool.{and_from, and_parts, cond_both, eqb-true, false≢true, ne_eqb, or_cases, or_left, or_right}
use Rattle.std.proofs.lemmas.List.Folds.{list_any-append}
use Rattle.mz_rules.specs.declared.capability.Hold.{Hold}
use Rattle.mz_rules.proofs.Each.{each_of}
use Rattle.mz_log.specs.declared.entry.Entry.{Entry}
use Rattle.mz_log.specs.declared.entry.Entry.TheVariants.{Acquire, Down, Release}
use Rattle.mz_log.specs.Log.{Log}
use Rattle.mz_books.specs.Holds.{Taking, holds, holds_taken, moved, owner, rest, takings, transaction}
use Rattle.mz_books.specs.Owed.{IsInTurn, acquires, is_owned_by, owed}
use Rattle.mz_books.specs.Legal.{IsFree, Legal}
use Rattle.mz_complete_laws.proofs.Taken.{Started, is_acquire, no_taking, started}
use Rattle.mz_complete_laws.proofs.Released.{AreEnded, HasEnded, owed_ended, own_session}

-- ---- a collection that is held for a session

-- the hold was taken by the session's BEGIN, on this collection at this time
abbrev pub is_held : ℕ → ℕ → ℕ → Hold → Bool
is_held session time number hold = is_owned_by session hold && ((hold.collection == number) && (hold.time == time))

-- a BEGIN of the session still has to take it
abbrev pub is_taking : ℕ → ℕ → ℕ → Taking → Bool
is_taking session time number taking = (taking.session == session) && ((taking.collection == number) && (taking.time == time))

-- one or the other
abbrev pub IsHeldFor : ℕ → ℕ → Log → ℕ → Type 0
IsHeldFor session time log number =
    (list_any (is_held session time number) (holds log) || list_any (is_taking session time number) (takings log)) ≡ true

-- where none is to be taken, it is held
pub is_hold : (session time number : ℕ) (log : Log) → takings log ≡ [] → IsHeldFor session time log number
    → list_any (is_held session time number) (holds log) ≡ true
is_hold session time number log none p =
    elim (or_cases (list_any (is_held session time number) (holds log)) (list_any (is_taking session time number) (takings log)) p) [
      | inl own ↦ own
      | inr later ↦ absurd (false≢true (sym (ap (list_any (is_taking session time number)) none) ∙ later))
    ]

-- ---- lists

-- what a test finds, it finds among those that pass another, where each that it finds passes
any_left : {A : Type 0} (f test : A → Bool) (xs : List A) → Each (λ x. f x ≡ true → test x ≡ true) xs → list_any f xs ≡ true
    → list_any f (filter test xs) ≡ true
any_left f test [] p e = e
any_left f test (x ∷ xs) p e =
    cond_both (test x) (x ∷ filter test xs) (filter test xs) (λ ys. list_any f ys ≡ true)
    (λ h. elim (or_cases (f x) (list_any f xs) e) [
      | inl own ↦ or_left (f x) (list_any f (filter test xs)) own
      | inr later ↦ or_right (f x) (list_any f (filter test xs)) (any_left f test xs p.1 later)
    ])
    (λ h. elim (or_cases (f x) (list_any f xs) e) [
      | inl own ↦ absurd (false≢true (sym h ∙ p.0 own))
      | inr later ↦ any_left f test xs p.1 later
    ])

-- and among what a function makes of them, where it makes such of each
any_map : {A : Type 0} (f : A → Bool) (g : A → A) (xs : List A) → Each (λ x. f x ≡ true → f (g x) ≡ true) xs → list_any f xs ≡ true
    → list_any f (map g xs) ≡ true
any_map f g [] p e = e
any_map f g (x ∷ xs) p e = elim (or_cases (f x) (list_any f xs) e) [
  | inl own ↦ or_left (f (g x)) (list_any f (map g xs)) (p.0 own)
  | inr later ↦ or_right (f (g x)) (list_any f (map g xs)) (any_map f g xs p.1 later)
]

-- ---- releases and moves

-- a hold that has an owner isn't free
not_free : (session : ℕ) (o : Option ℕ) → o ≡ Some session → o ≡ None → ⊥
not_free session o p q = let same : Some session ≡ None = sym p ∙ q in cc

-- and one whose session is in a transaction isn't given back
not_ended : (log : Log) (session time : ℕ) (o : Option ℕ) → o ≡ Some session → transaction log session ≡ Some time → HasEnded log o → ⊥
not_ended log session time o p within q = not_free time (transaction log session) within (subst (HasEnded log) p q)

-- whose a held one is
held_own : (session time number : ℕ) (h : Hold) → is_held session time number h ≡ true → h.owner ≡ Some session
held_own session time number h e = own_session session h.owner (and_parts (is_owned_by session h) ((h.collection == number) && (h.time == time)) e).0

-- a held one isn't the one that is given back
release_other : (log : Log) (session time n number : ℕ) → transaction log session ≡ Some time → (es : List Entry) → IsInTurn es (Release number)
    → AreEnded log es → (es ≡ [] → IsFree log number) → Each (λ h. is_held session time n h ≡ true → not (h.number == number) ≡ true) (holds log)
release_other log session time n number within [] turn p free =
    each_of (λ live. live.number ≡ number → live.owner ≡ None) (λ h. is_held session time n h ≡ true → not (h.number == number) ≡ true)
    (λ h q e. ap not (ne_eqb h.number number (λ same. not_free session h.owner (held_own session time n h e) (q same)))) (holds log) (free refl)
release_other log session time n number within (next ∷ later) turn p free =
    let head : AreEnded log (Release number ∷ later) = subst (λ x. AreEnded log (x ∷ later)) (sym turn) p in
    each_of (λ h. h.number ≡ number → HasEnded log h.owner) (λ h. is_held session time n h ≡ true → not (h.number == number) ≡ true)
    (λ h q e. ap not (ne_eqb h.number number (λ same. not_ended log session time h.owner (held_own session time n h e) within (q same))))
    (holds log) head.0

-- nor the one that is moved
down_other : (log : Log) (session time n number to : ℕ) → IsFree log number
    → Each (λ h. is_held session time n h ≡ true → is_held session time n (moved number to h) ≡ true) (holds log)
down_other log session time n number to free =
    each_of (λ live. live.number ≡ number → live.owner ≡ None)
    (λ h. is_held session time n h ≡ true → is_held session time n (moved number to h) ≡ true)
    (λ h q e. cond_both (h.number == number) (record h { time = to }) h (λ x. is_held session time n x ≡ true)
    (λ same. absurd (not_free session h.owner (held_own session time n h e) (q (eqb-true h.number number same)))) (λ other. e))
    (holds log) free

-- ---- what an entry leaves

-- what the next entry takes
acquired_is : (hold next collection c time t : ℕ) → Acquire hold collection time ≡ Acquire next c t → (collection ≡ c) × (time ≡ t)
acquired_is hold next collection c time t e = (cc, cc)

-- a hold more
acquired_held : (session time n : ℕ) (log : Log) (hold collection at : ℕ) (ts : List Taking) → takings log ≡ ts → Started log
    → IsInTurn (owed log) (Acquire hold collection at) → IsHeldFor session time log n → IsHeldFor session time (Acquire hold collection at ∷ log) n
acquired_held session time n log hold collection at [] e s turn p =
    or_left _ _ (list_any-append (is_held session time n) (holds log) _ ∙ or_left _ _ (is_hold session time n log e p))
acquired_held session time n log hold collection at (first ∷ ts) e (inl none) turn p =
    or_left _ _ (list_any-append (is_held session time n) (holds log) _ ∙ or_left _ _ (is_hold session time n log none p))
acquired_held session time n log hold collection at (first ∷ ts) e (inr o) turn p =
    let head : Acquire hold collection at ≡ Acquire (holds_taken log + 1) first.collection first.time =
    subst (λ es. IsInTurn es (Acquire hold collection at)) (o ∙ ap (acquires (holds_taken log + 1)) e) turn in
    let is = acquired_is hold (holds_taken log + 1) collection first.collection at first.time head in
    let new : Hold = record { number = hold; collection = collection; time = at; owner = owner (takings log) } in
    elim (or_cases (list_any (is_held session time n) (holds log)) (list_any (is_taking session time n) (takings log)) p) [
      | inl own ↦ or_left _ _ (list_any-append (is_held session time n) (holds log) (new ∷ []) ∙ or_left _ _ own)
      | inr later ↦ elim (or_cases (is_taking session time n first) (list_any (is_taking session time n) ts)
          (sym (ap (list_any (is_taking session time n)) e) ∙ later)) [
            | inl own ↦
                let parts = and_parts (first.session == session) ((first.collection == n) && (first.time == time)) own in
                let owned : is_owned_by session new ≡ true = ap (λ x. option_map_or (λ who. who == session) (owner x) false) e ∙ parts.0 in
                let same : ((collection == n) && (at == time)) ≡ true =
                ap (λ x. (x == n) && (at == time)) is.0 ∙ (ap (λ x. (first.collection == n) && (x == time)) is.1 ∙ parts.1) in
                or_left _ _ (list_any-append (is_held session time n) (holds log) (new ∷ [])
                ∙ or_right _ _ (or_left (is_held session time n new) false
                (and_from (is_owned_by session new) ((collection == n) && (at == time)) owned same)))
            | inr after ↦ or_right _ _ (ap (λ x. list_any (is_taking session time n) (rest x)) e ∙ after)
          ]
    ]

-- before an entry that takes none it is a hold
still_held : (session time n : ℕ) (log : Log) (entry : Entry) → Legal (entry ∷ log) → is_acquire entry ≡ false → IsHeldFor session time log n
    → list_any (is_held session time n) (holds log) ≡ true
still_held session time n log entry l other held = is_hold session time n log (no_taking log entry l other) held

-- so what is held for a transaction is so still
pub held_on : (session time n : ℕ) (log : Log) (entry : Entry) → Legal (entry ∷ log) → transaction log session ≡ Some time
    → IsHeldFor session time log n → IsHeldFor session time (entry ∷ log) n
held_on session time n log (Acquire hold collection at) l within held =
    acquired_held session time n log hold collection at (takings log) refl (started log l.0) l.1.in_turn held
held_on session time n log (Down number to) l within held =
    or_left _ _ (any_map (is_held session time n) (moved number to) (holds log) (down_other log session time n number to l.1.may.free)
    (still_held session time n log (Down number to) l refl held))
held_on session time n log (Release number) l within held =
    or_left _ _ (any_left (is_held session time n) (λ live. not (live.number == number)) (holds log)
    (release_other log session time n number within (owed log) l.1.in_turn (owed_ended log l.0) l.1.may.free)
    (still_held session time n log (Release number) l refl held))
held_on session time n log entry l within held = or_left _ _ (still_held session time n log entry l refl held)
