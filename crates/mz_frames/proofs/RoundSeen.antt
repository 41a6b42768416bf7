-- What sessions have seen once a round is applied.
use Rattle.std.proofs.Common.{◌≡◌, ℕ, ◌≤◌, max, true, false, cond, ◌==◌, List, [], ◌∷◌, find, Option, Some, None, is_some, is_none, refl, sym, ap, ◌∙◌, subst, inl, inr, arith}
use Rattle.std.specs.List.{list_any}
use Rattle.std.proofs.lemmas.Bool.{cond-true, eq-eqb, eqb-true}
use Rattle.mz_rules.proofs.Each.{each_all}
use Rattle.mz_log.specs.declared.entry.Entry.TheVariants.{Apply}
use Rattle.mz_log.specs.declared.entry.Replied.{Replied}
use Rattle.mz_log.specs.Log.{Log}
use Rattle.mz_books.specs.Clusters.{cluster_of}
use Rattle.mz_books.specs.Entries.{is_reply_to}
use Rattle.mz_books.specs.States.{newest_state}
use Rattle.mz_books.specs.Calls.{Call, calls, is_waiting, replied_by, replied_in, seen_in}
use Rattle.mz_books.specs.Sessions.{seen}
use Rattle.mz_books.specs.Legal.{Legal}
use Rattle.mz_call_laws.specs.Members.{Has}
use Rattle.mz_call_laws.proofs.Flat.{any_found}
use Rattle.mz_call_laws.proofs.Lists.{has_map}
use Rattle.mz_call_laws.proofs.Rounds.{in_round_queued, queued_call, reply_to}
use Rattle.mz_call_laws.proofs.Timed.{timed}
use Rattle.mz_call_laws.proofs.Transactions.{seen_until}
use Rattle.mz_frames.proofs.Changed.{replied_keeps_sessions, seen_same}
use Rattle.mz_frames.proofs.RoundEnds.{call_replied, call_stays, member_of}

-- a session has seen the time of each of its calls
pub seen_has : (s : ℕ) (c : Call) (cs : List Call) → Has c cs → c.stored.session ≡ s → c.stored.time ≤ seen_in s cs
seen_has s c [] h mine = elim h [ ]
seen_has s c (d ∷ ds) (inl same) mine =
    let own : (d.stored.session == s) ≡ true = eq-eqb d.stored.session s (ap (λ x. x.stored.session) same ∙ mine) in
    let is = cond-true (d.stored.session == s) (max d.stored.time (seen_in s ds)) (seen_in s ds) own in
    let time : d.stored.time ≡ c.stored.time = ap (λ x. x.stored.time) same in
    omega arith
seen_has s c (d ∷ ds) (inr later) mine =
    let rest = seen_has s c ds later mine in
    elim (d.stored.session == s) as (λ b. c.stored.time ≤ cond b (max d.stored.time (seen_in s ds)) (seen_in s ds)) [
      | true ↦ (omega arith)
      | false ↦ rest
    ]

-- a call with a reply of the round has the round's time
given_time : (time : ℕ) (c : Call) (given : Option Replied) → is_some given ≡ true → (replied_by time given c).stored.time ≡ time
given_time time c None e = absurd (cc)
given_time time c (Some told) e = refl

-- so a call that waits has it, where one of the replies is to it
told_time : (time : ℕ) (replies : List Replied) (c : Call) → is_waiting c ≡ true
    → list_any (is_reply_to c.stored.session c.stored.call) replies ≡ true → (replied_in time replies c).stored.time ≡ time
told_time time replies c waits is =
    ap (λ d. d.stored.time) (cond-true (is_waiting c) (replied_by time (find (is_reply_to c.stored.session c.stored.call) replies) c) c waits)
    ∙ given_time time c (find (is_reply_to c.stored.session c.stored.call) replies)
    (sym (any_found (is_reply_to c.stored.session c.stored.call) replies) ∙ is)

-- two numbers, neither of which is greater
pub no_greater : (m n : ℕ) → m ≤ n → n ≤ m → m ≡ n
no_greater m n h k = omega arith

-- a session to which the round replies has seen its time
pub round_seen_own : (log : Log) (time : ℕ) (replies : List Replied) → Legal (Apply time replies ∷ log) → (told : Replied) → Has told replies
    → seen (Apply time replies ∷ log) told.session ≡ time
round_seen_own log time replies l told there =
    let may = l.1.may in
    let reply = reply_to (cluster_of log) (newest_state log) may.round.commands told (subst (Has told) may.own_replies there) in
    let asked = queued_call log reply.command (in_round_queued log may.round l.0 may.is_open reply.command reply.there) in
    let c = asked.call in
    let mine : c.stored.session ≡ told.session = asked.is.session ∙ reply.session in
    let waits : is_waiting c ≡ true = ap is_none asked.is.no_reply in
    let hit = call_replied log time replies l told there c asked.there mine waits in
    let now : (replied_in time replies c).stored.time ≡ time = told_time time replies c waits hit in
    let own : (replied_in time replies c).stored.session ≡ told.session = one_kept time replies c ∙ mine in
    let until : seen (Apply time replies ∷ log) told.session ≤ time
    = seen_until told.session time (calls (Apply time replies ∷ log)) (timed (Apply time replies ∷ log) l).done in
    let from : (replied_in time replies c).stored.time ≤ seen (Apply time replies ∷ log) told.session
    = seen_has told.session (replied_in time replies c) (calls (Apply time replies ∷ log))
    (has_map (replied_in time replies) c (calls log) asked.there) own in
    no_greater (seen (Apply time replies ∷ log) told.session) time until
    (subst (λ n. n ≤ seen (Apply time replies ∷ log) told.session) now from)
  where
    one_kept : (time : ℕ) (replies : List Replied) (c : Call) → (replied_in time replies c).stored.session ≡ c.stored.session
    one_kept time replies c = (replied_keeps_sessions time replies (c ∷ [])).0

-- and others as before
pub round_seen : (log : Log) (time : ℕ) (replies : List Replied) → Legal (Apply time replies ∷ log) → (other : ℕ)
    → seen (Apply time replies ∷ log) other ≡ cond (list_any (λ told. told.session == other) replies) time (seen log other)
round_seen log time replies l other =
    elim (list_any (λ told. told.session == other) replies) as (λ b. list_any (λ told. told.session == other) replies ≡ b
    → seen (Apply time replies ∷ log) other ≡ cond b time (seen log other)) [
      | true ↦ λ some.
          let told = member_of (λ told. told.session == other) replies some in
          subst (λ s. seen (Apply time replies ∷ log) s ≡ time) (eqb-true told.member.session other told.passes)
          (round_seen_own log time replies l told.member told.there)
      | false ↦ λ none. seen_same other (replied_in time replies) (calls log) (replied_keeps_sessions time replies (calls log))
          (each_all _ (λ c mine. call_stays time replies other c none mine) (calls log))
    ] refl
