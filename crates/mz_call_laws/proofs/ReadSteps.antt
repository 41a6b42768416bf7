-- What entries make of a read that waits.
use Rattle.std.proofs.Common.{◌≡◌, ℕ, Bool, true, false, cond, ◌==◌, ◌&&◌, not, [], ◌∷◌, filter, Option, Some, None, refl, sym, ap, ◌∙◌}
use Rattle.std.proofs.lemmas.Bool.{cond_both}
use Rattle.mz_bag.specs.Weighted.{Weighted}
use Rattle.mz_log.specs.declared.entry.Replied.{Replied}
use Rattle.mz_log.specs.declared.reply.Reply.{Reply}
use Rattle.mz_log.specs.declared.reply.Reply.TheVariants as reply
use Rattle.mz_books.specs.Calls.{Call, ended, finished, is_call, is_waiting, replied_by, with_reply}
use Rattle.mz_call_laws.specs.Waiting.{Awaited, asked_of_peek, read_of}

-- the call, with these in place of its peek and its reply
abbrev parts : Call → Option ℕ → Option Reply → Call
parts call peek told = record call { stored = record call.stored { reply = told }; peek = peek }

-- no peek of this number
abbrev pub is_other_peek : ℕ → Awaited → Bool
is_other_peek peek waiting = not (waiting.peek == peek)

-- no read of this call
abbrev pub is_other_read : ℕ → ℕ → Awaited → Bool
is_other_read session number waiting = not ((waiting.session == session) && (waiting.call == number))

-- a peek that has its rows is taken out of those that wait
pub read_finished : (p : ℕ) (rows : Weighted) (c : Call) (peek : Option ℕ) (told : Option Reply)
    → read_of (finished p rows (parts c peek told)) ≡ filter (is_other_peek p) (read_of (parts c peek told))
read_finished p rows c None None = refl
read_finished p rows c None (Some told) = refl
read_finished p rows c (Some own) None =
    let call = parts c (Some own) None in
    let read : Awaited = record { peek = own; session = c.stored.session; call = c.stored.call; time = c.stored.time } in
    elim (own == p) as (λ b. read_of (cond (b && true) (with_reply c.stored.time (reply.Rows c.stored.time rows) call) call) ≡ cond (not b) (read ∷ []) []) [
      | true ↦ refl
      | false ↦ refl
    ]
read_finished p rows c (Some own) (Some told) =
    let call = parts c (Some own) (Some told) in
    elim (own == p) as (λ b. read_of (cond (b && false) (with_reply c.stored.time (reply.Rows c.stored.time rows) call) call) ≡ []) [
      | true ↦ refl
      | false ↦ refl
    ]

-- so is one whose call is ended
pub read_ended : (session number : ℕ) (reply_at : ℕ → Reply) (c : Call) (peek : Option ℕ) (told : Option Reply)
    → read_of (ended session number reply_at (parts c peek told)) ≡ filter (is_other_read session number) (read_of (parts c peek told))
read_ended session number reply_at c None None =
    let call = parts c None None in
    elim (is_call session number c) as (λ b. read_of (cond (b && true) (with_reply c.stored.time (reply_at c.stored.time) call) call) ≡ []) [
      | true ↦ refl
      | false ↦ refl
    ]
read_ended session number reply_at c (Some peek) None =
    let call = parts c (Some peek) None in
    let read : Awaited = record { peek = peek; session = c.stored.session; call = c.stored.call; time = c.stored.time } in
    elim (is_call session number c) as (λ b. read_of (cond (b && true) (with_reply c.stored.time (reply_at c.stored.time) call) call) ≡ cond (not b) (read ∷ []) []) [
      | true ↦ refl
      | false ↦ refl
    ]
read_ended session number reply_at c peek (Some told) =
    let call = parts c peek (Some told) in
    elim (is_call session number c) as (λ b. read_of (cond (b && false) (with_reply c.stored.time (reply_at c.stored.time) call) call) ≡ []) [
      | true ↦ refl
      | false ↦ refl
    ]

-- a call without a peek is no read
no_read : (c : Call) → c.peek ≡ None → read_of c ≡ []
no_read c none =
    cond_both (is_waiting c) (asked_of_peek c.stored.session c.stored.call c.stored.time c.peek) [] (λ reads. reads ≡ [])
    (λ _. ap (asked_of_peek c.stored.session c.stored.call c.stored.time) none) (λ _. refl)

-- a reply to a call without a peek leaves the reads
pub read_kept : (c now : Call) → c.peek ≡ None → now.peek ≡ c.peek → read_of now ≡ read_of c
read_kept c now none same = no_read now (same ∙ none) ∙ sym (no_read c none)

-- nor does what a round gives to such a call
pub by_reply : (time : ℕ) (c : Call) (given : Option Replied) → ((told : Replied) → given ≡ Some told → c.peek ≡ None)
    → read_of (replied_by time given c) ≡ read_of c
by_reply time c None none = refl
by_reply time c (Some told) none = read_kept c (with_reply time (reply.Command told.reply) c) (none told refl) refl
