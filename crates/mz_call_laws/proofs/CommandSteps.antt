-- What entries make of a command that waits.
use Rattle.std.proofs.Common.{◌≡◌, ℕ, Bool, true, false, cond, ◌&&◌, not, List, [], ◌∷◌, filter, find, Option, Some, None, is_some, is_none, refl, sym, ap}
use Rattle.std.specs.List.{list_any}
use Rattle.std.proofs.lemmas.Bool.{cond_both}
use Rattle.mz_statement.specs.declared.statement.Statement.{Statement}
use Rattle.mz_bag.specs.Weighted.{Weighted}
use Rattle.mz_log.specs.declared.entry.Replied.{Replied}
use Rattle.mz_log.specs.declared.reply.Reply.{Reply}
use Rattle.mz_log.specs.declared.reply.Reply.TheVariants as reply
use Rattle.mz_books.specs.Entries.{Queued, is_queued_as, is_reply_to}
use Rattle.mz_books.specs.Calls.{Call, awaits, is_call, replied_in, replied_by, finished, ended, with_reply}
use Rattle.mz_call_laws.specs.Waiting.{asked_of_round, command_of}
use Rattle.mz_call_laws.proofs.Flat.{any_found}

-- the call, with these in place of its peek, its reply and its statement
abbrev pub parts : Call → Option ℕ → Option Reply → Option Statement → Call
parts call peek told statement =
    record call { stored = record call.stored { reply = told }; peek = peek; statement = statement }

-- no reply of a round is to the command
abbrev pub is_left : List Replied → Queued → Bool
is_left replies command = not (list_any (is_reply_to command.session command.call) replies)

-- the command is not this call
abbrev pub is_other : ℕ → ℕ → Queued → Bool
is_other session number command = not (is_queued_as session number command)

-- what a round replies to a command with this statement
command_given : (time : ℕ) (replies : List Replied) (c : Call) (statement : Statement) (given : Option Replied)
    → list_any (is_reply_to c.stored.session c.stored.call) replies ≡ is_some given
    → command_of (replied_by time given (parts c None None (Some statement)))
    ≡ filter (is_left replies) (asked_of_round c.stored.session c.stored.call (Some statement))
command_given time replies c statement None is =
    let own : Queued = record { session = c.stored.session; call = c.stored.call; statement = statement } in
    sym (ap (λ b. cond (not b) (own ∷ []) []) is)
command_given time replies c statement (Some given) is =
    let own : Queued = record { session = c.stored.session; call = c.stored.call; statement = statement } in
    sym (ap (λ b. cond (not b) (own ∷ []) []) is)

-- a round takes the command that it replies to out of those that wait
pub command_replied : (time : ℕ) (replies : List Replied) (c : Call) (peek : Option ℕ) (told : Option Reply) (statement : Option Statement)
    → command_of (replied_in time replies (parts c peek told statement)) ≡ filter (is_left replies) (command_of (parts c peek told statement))
command_replied time replies c None None None =
    elim (find (is_reply_to c.stored.session c.stored.call) replies)
    as (λ given. command_of (replied_by time given (parts c None None None)) ≡ []) [ None ↦ refl | Some given ↦ refl ]
command_replied time replies c None None (Some statement) =
    command_given time replies c statement (find (is_reply_to c.stored.session c.stored.call) replies)
    (any_found (is_reply_to c.stored.session c.stored.call) replies)
command_replied time replies c None (Some told) statement = refl
command_replied time replies c (Some peek) None statement =
    elim (find (is_reply_to c.stored.session c.stored.call) replies)
    as (λ given. command_of (replied_by time given (parts c (Some peek) None statement)) ≡ []) [ None ↦ refl | Some given ↦ refl ]
command_replied time replies c (Some peek) (Some told) statement = refl

-- a peek is no command's
pub command_finished : (p : ℕ) (rows : Weighted) (c : Call) (peek : Option ℕ) (told : Option Reply) (statement : Option Statement)
    → command_of (finished p rows (parts c peek told statement)) ≡ command_of (parts c peek told statement)
command_finished p rows c None told statement = refl
command_finished p rows c (Some peek) told statement =
    let own = parts c (Some peek) told statement in
    cond_both (awaits p own) (with_reply own.stored.time (reply.Rows own.stored.time rows) own) own (λ d. command_of d ≡ []) (λ _. refl) (λ _. refl)

-- a call that is ended is taken out of the commands that wait
pub command_ended : (session number : ℕ) (reply_at : ℕ → Reply) (c : Call) (peek : Option ℕ) (told : Option Reply) (statement : Option Statement)
    → command_of (ended session number reply_at (parts c peek told statement))
    ≡ filter (is_other session number) (command_of (parts c peek told statement))
command_ended session number reply_at c None None None =
    elim (is_call session number c)
    as (λ b. command_of (cond (b && true) (with_reply c.stored.time (reply_at c.stored.time) (parts c None None None)) (parts c None None None)) ≡ []) [
      | true ↦ refl
      | false ↦ refl
    ]
command_ended session number reply_at c None None (Some statement) =
    let own : Queued = record { session = c.stored.session; call = c.stored.call; statement = statement } in
    let call = parts c None None (Some statement) in
    elim (is_call session number c)
    as (λ b. command_of (cond (b && true) (with_reply c.stored.time (reply_at c.stored.time) call) call) ≡ cond (not b) (own ∷ []) []) [
      | true ↦ refl
      | false ↦ refl
    ]
command_ended session number reply_at c None (Some told) statement =
    let call = parts c None (Some told) statement in
    elim (is_call session number c)
    as (λ b. command_of (cond (b && false) (with_reply c.stored.time (reply_at c.stored.time) call) call) ≡ []) [
      | true ↦ refl
      | false ↦ refl
    ]
command_ended session number reply_at c (Some peek) told statement =
    let call = parts c (Some peek) told statement in
    cond_both (is_call session number call && is_none told) (with_reply c.stored.time (reply_at c.stored.time) call) call
    (λ d. command_of d ≡ []) (λ _. refl) (λ _. refl)

-- the command of another call stays
pub command_other : (session number : ℕ) (c : Call) (statement : Option Statement) → is_call session number c ≡ false
    → filter (is_other session number) (asked_of_round c.stored.session c.stored.call statement)
    ≡ asked_of_round c.stored.session c.stored.call statement
command_other session number c None e = refl
command_other session number c (Some statement) e =
    let own : Queued = record { session = c.stored.session; call = c.stored.call; statement = statement } in
    ap (λ b. cond (not b) (own ∷ []) []) e
