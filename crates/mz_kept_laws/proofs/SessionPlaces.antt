-- The sessions that are kept, place by place.
use Rattle.std.proofs.Common.{◌≡◌, ◌≢◌, ℕ, zero, suc, ◌+◌, ◌-◌, ◌<◌, Bool, true, false, cond, ◌==◌, ◌||◌, List, [], ◌∷◌, ◌++◌, length, map, drop, get_or, slice_set, refl, sym, ap, subst, ◌∙◌, length-set, eqb-true, arith, inl, inr}
use Rattle.std.specs.List.{AllByRecursion as Each, list_any}
use Rattle.std.proofs.Math.Seq.{drop-cons}
use Rattle.std.proofs.lemmas.Bool.{both_ways, cases_Bool, eq-eqb}
use Rattle.mz_kept.specs.declared.session.Session.{Session}
use Rattle.mz_kept.specs.Steps.{called, new_session, quiet, session_at, with_call, with_replies, with_reply}
use Rattle.mz_core.specs.Told.{IsNumberOf}

-- a new session behind others changes no place
pub at_push : (sessions : List Session) (place : ℕ) → session_at (sessions ++ new_session ∷ []) place ≡ session_at sessions place
at_push [] zero = refl
at_push [] (suc place) = refl
at_push (session ∷ sessions) zero = refl
at_push (session ∷ sessions) (suc place) = at_push sessions place

-- the session that was set
pub at_set : (sessions : List Session) (place : ℕ) (session : Session) → place < length sessions
    → session_at (slice_set sessions place session) place ≡ session
at_set [] place session h = absurd (omega (arith, h))
at_set (first ∷ sessions) zero session h = refl
at_set (first ∷ sessions) (suc place) session h = at_set sessions place session (omega arith)

-- and another
pub at_other : (sessions : List Session) (place other : ℕ) (session : Session) → place ≢ other
    → session_at (slice_set sessions place session) other ≡ session_at sessions other
at_other [] place other session h = refl
at_other (first ∷ sessions) zero zero session h = absurd (h refl)
at_other (first ∷ sessions) zero (suc other) session h = refl
at_other (first ∷ sessions) (suc place) zero session h = refl
at_other (first ∷ sessions) (suc place) (suc other) session h = at_other sessions place other session (λ same. h (ap suc same))

-- ---- calls

-- the session that made a call
pub call_own : (waits : Bool) (session : ℕ) (sessions : List Session) → IsNumberOf (length sessions) session
    → session_at (with_call waits session sessions) (session - 1) ≡ called waits (session_at sessions (session - 1))
call_own waits session sessions number =
    at_set sessions (session - 1) (called waits (session_at sessions (session - 1))) (omega (arith, number.from_one, number.there))

-- and another
pub call_other : (waits : Bool) (session : ℕ) (sessions : List Session) (place : ℕ) → session - 1 ≢ place
    → session_at (with_call waits session sessions) place ≡ session_at sessions place
call_other waits session sessions place other =
    at_other sessions (session - 1) place (called waits (session_at sessions (session - 1))) other

-- ---- replies

-- one of the numbers is that of the session at the place
abbrev pub is_told : List ℕ → ℕ → Bool
is_told numbers place = list_any (λ session. session == (place + 1)) numbers

-- the session at a place, once those of these numbers have their replies
abbrev pub told_if : Bool → Session → Session
told_if told session = cond told (quiet session) session

-- one that is quiet stays so
told_again : (told : Bool) (session : Session) → told_if told (quiet session) ≡ quiet session
told_again true session = refl
told_again false session = refl

-- a session whose number comes next has its reply
reply_own : (session place : ℕ) (sessions : List Session) (rest : Bool) → IsNumberOf (length sessions) session → session ≡ place + 1
    → told_if rest (session_at (with_reply sessions session) place) ≡ quiet (session_at sessions place)
reply_own session place sessions rest number same =
    let here : session - 1 ≡ place = omega (arith, same) in
    ap (told_if rest) (ap (λ at. session_at (slice_set sessions at (quiet (session_at sessions at))) place) here
    ∙ at_set sessions place (quiet (session_at sessions place)) (omega (arith, number.there, same)))
    ∙ told_again rest (session_at sessions place)

-- and another stays as it is
reply_other : (session place : ℕ) (sessions : List Session) (rest : Bool) → IsNumberOf (length sessions) session → session ≢ place + 1
    → told_if rest (session_at (with_reply sessions session) place) ≡ told_if rest (session_at sessions place)
reply_other session place sessions rest number other =
    ap (told_if rest) (at_other sessions (session - 1) place (quiet (session_at sessions (session - 1)))
    (λ same. other (let first = number.from_one in omega (arith, first, same))))

-- the sessions of these numbers have their replies, and the others are as before
pub replies_at : (numbers : List ℕ) (sessions : List Session) (place : ℕ) → Each (IsNumberOf (length sessions)) numbers
    → session_at (with_replies sessions numbers) place ≡ told_if (is_told numbers place) (session_at sessions place)
replies_at [] sessions place within = refl
replies_at (session ∷ numbers) sessions place within =
    let others = replies_at numbers (with_reply sessions session) place
    (subst (λ n. Each (IsNumberOf n) numbers) (sym (length-set sessions (session - 1) (quiet (session_at sessions (session - 1))))) within.1) in
    elim (cases_Bool (session == (place + 1))) [
      | inl same ↦ others ∙ (reply_own session place sessions (is_told numbers place) within.0 (eqb-true session (place + 1) same)
          ∙ ap (λ b. told_if b (session_at sessions place)) (sym (ap (λ b. b || is_told numbers place) same)))
      | inr other ↦ others ∙ (reply_other session place sessions (is_told numbers place) within.0 (λ same. both_ways (session == (place + 1)) other (eq-eqb session (place + 1) same))
          ∙ ap (λ b. told_if b (session_at sessions place)) (sym (ap (λ b. b || is_told numbers place) other)))
    ]

-- as many sessions as before
pub replies_length : (numbers : List ℕ) (sessions : List Session) → length (with_replies sessions numbers) ≡ length sessions
replies_length [] sessions = refl
replies_length (session ∷ numbers) sessions =
    replies_length numbers (with_reply sessions session) ∙ length-set sessions (session - 1) (quiet (session_at sessions (session - 1)))

-- ---- one after another

-- what stands from a place on is the member there, and what stands behind it
pub from_place : {A : Type 0} (xs : List A) (place : ℕ) (d : A) → place < length xs
    → drop place xs ≡ get_or xs place d ∷ drop (place + 1) xs
from_place xs place d h =
    let next : suc place ≡ place + 1 = omega arith in
    drop-cons xs place d h ∙ ap (λ n. get_or xs place d ∷ drop n xs) next

-- once a reply is noted, the others make all of them
pub note_next : {A : Type 0} (of : A → ℕ) (xs : List A) (place : ℕ) (d : A) (sessions new start : List Session) → place < length xs
    → new ≡ with_reply sessions (of (get_or xs place d))
    → with_replies sessions (map of (drop place xs)) ≡ with_replies start (map of xs)
    → with_replies new (map of (drop (place + 1) xs)) ≡ with_replies start (map of xs)
note_next of xs place d sessions new start h is all =
    ap (λ now. with_replies now (map of (drop (place + 1) xs))) is
    ∙ (ap (λ left. with_replies sessions (map of left)) (sym (from_place xs place d h)) ∙ all)

-- and they are to sessions
pub owners_next : {A : Type 0} (of : A → ℕ) (xs : List A) (place : ℕ) (d : A) (sessions new : List Session) → place < length xs
    → new ≡ with_reply sessions (of (get_or xs place d))
    → Each (λ x. IsNumberOf (length sessions) (of x)) (drop place xs)
    → Each (λ x. IsNumberOf (length new) (of x)) (drop (place + 1) xs)
owners_next of xs place d sessions new h is all =
    let session = of (get_or xs place d) in
    let same : length new ≡ length sessions
    = ap length is ∙ length-set sessions (session - 1) (quiet (session_at sessions (session - 1))) in
    subst (λ n. Each (λ x. IsNumberOf n (of x)) (drop (place + 1) xs)) (sym same)
    (subst (Each (λ x. IsNumberOf (length sessions) (of x))) (from_place xs place d h) all).1
