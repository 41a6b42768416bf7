-- What is queued waits as a call, and a round replies to such calls alone.
use Rattle.std.proofs.Common.{◌≡◌, ℕ, true, ◌==◌, List, [], ◌∷◌, find, Option, Some, None, is_none, refl, sym, ap, ap₂, ◌∙◌, subst, inl, inr}
use Rattle.std.proofs.lemmas.Bool.{both_ways, cond-true, cond_both, and_from, and_parts, eqb-true, ne_eqb}
use Rattle.mz_statement.specs.declared.statement.Statement.{Statement}
use Rattle.mz_log.specs.declared.entry.Entry.TheVariants.{Apply}
use Rattle.mz_log.specs.declared.entry.Replied.{Replied}
use Rattle.mz_log.specs.Log.{Log}
use Rattle.mz_books.specs.Entries.{Queued, is_reply_to}
use Rattle.mz_books.specs.Rounds.{Round, open_round, queued}
use Rattle.mz_books.specs.Clusters.{cluster_of}
use Rattle.mz_log.specs.Sequential.{Sequential}
use Rattle.mz_log.specs.CarriedOut.{seq}
use Rattle.mz_books.specs.States.{newest_state, replies_to}
use Rattle.mz_books.specs.Calls.{Call, calls, is_waiting}
use Rattle.mz_books.specs.Legal.{Legal}
use Rattle.mz_call_laws.specs.Calls.{Precedes}
use Rattle.mz_call_laws.specs.Fronts.{IsFrontOf}
use Rattle.mz_call_laws.specs.Members.{Has, Pairwise}
use Rattle.mz_call_laws.specs.Waiting.{AskedBy, IsCommandOf, AreApart, asked_of_round, command_of, is_command}
use Rattle.mz_call_laws.proofs.Options.{none_of}
use Rattle.mz_call_laws.proofs.Lists.{found, gives_has, has_given, has_left, pairwise_flat, pairwise_left}
use Rattle.mz_call_laws.proofs.Queue.{queue_is}
use Rattle.mz_call_laws.proofs.Front.{open_is_front}
use Rattle.mz_call_laws.proofs.Precedes.{one_waits, precedes}

-- what a call with a statement asks a round for, it is
asked_is : (c : Call) (m : Queued) (statement : Option Statement) → c.statement ≡ statement → is_command c ≡ true
    → Has m (asked_of_round c.stored.session c.stored.call statement) → IsCommandOf m c
asked_is c m None is waits h = elim h [ ]
asked_is c m (Some statement) is waits (inl same) =
    let parts = and_parts (is_none c.peek) (is_waiting c) waits in
    record {
      session = ap (λ q. q.session) same;
      number = ap (λ q. q.call) same;
      statement = is ∙ ap (λ q. Some q.statement) same;
      no_peek = none_of c.peek parts.0;
      no_reply = none_of c.stored.reply parts.1;
    }
asked_is c m (Some statement) is waits (inr none) = elim none [ ]

-- the command that a call is
pub command_is : (c : Call) (m : Queued) → Has m (command_of c) → IsCommandOf m c
command_is c m =
    cond_both (is_command c) (asked_of_round c.stored.session c.stored.call c.statement) [] (λ ms. Has m ms → IsCommandOf m c)
    (λ waits. asked_is c m c.statement refl waits) (λ _ none. elim none [ ])

-- each command that is queued is a call that waits
pub queued_call : (log : Log) (m : Queued) → Has m (queued log) → AskedBy m (calls log)
queued_call log m h =
    let given = has_given command_of m (calls log) (subst (Has m) (sym (queue_is log)) h) in
    record { call = given.giver; there = given.there; is = command_is given.giver m given.gives }

-- what a call is, it asks for
is_asked : (c : Call) (m : Queued) → IsCommandOf m c → Has m (command_of c)
is_asked c m is =
    let waits : is_command c ≡ true = and_from _ _ (ap is_none is.no_peek) (ap is_none is.no_reply) in
    let own : asked_of_round c.stored.session c.stored.call c.statement ≡ m ∷ []
    = ap (asked_of_round c.stored.session c.stored.call) is.statement
    ∙ ap₂ (λ session number. record { session = session; call = number; statement = m.statement } ∷ []) is.session is.number in
    subst (Has m) (sym (cond-true _ _ _ waits ∙ own)) (inl refl)

-- a call with a statement that waits for a round is queued
pub call_queued : (log : Log) (c : Call) (m : Queued) → Has c (calls log) → IsCommandOf m c → Has m (queued log)
call_queued log c m there is =
    subst (Has m) (queue_is log) (gives_has command_of c m (calls log) there (is_asked c m is))

-- the commands of the open round are queued
pub in_round_queued : (log : Log) (round : Round) → Legal log → open_round log ≡ Some round → (m : Queued) → Has m round.commands
    → Has m (queued log)
in_round_queued log round l is m h =
    let front = subst (λ o. IsFrontOf o (queued log)) is (open_is_front log l) in
    subst (Has m) (sym front.is) (has_left m round.commands front.behind h)

-- what is known of a reply to one of the commands
pub record ReplyTo (told : Replied) (ms : List Queued) : Type 0 where
  pub command : Queued
  pub there : Has command ms
  pub session : command.session ≡ told.session
  pub call : command.call ≡ told.call
  pub statement : command.statement ≡ told.statement

-- a round replies to its commands
pub reply_to : (cluster : ℕ → ℕ) (state : Sequential) (ms : List Queued) (told : Replied) → Has told (replies_to cluster state ms)
    → ReplyTo told ms
reply_to cluster state [] told h = elim h [ ]
reply_to cluster state (m ∷ ms) told (inl same) = record {
  command = m;
  there = inl refl;
  session = ap (λ t. t.session) same;
  call = ap (λ t. t.call) same;
  statement = ap (λ t. t.statement) same;
}
reply_to cluster state (m ∷ ms) told (inr later) =
    let rest = reply_to cluster (seq state (cluster m.session) m.statement).state ms told later in
    record { command = rest.command; there = inr rest.there; session = rest.session; call = rest.call; statement = rest.statement }

-- a call that waits, and to which a round replies, is the command that it replies to
pub replied_command : (log : Log) (time : ℕ) (replies : List Replied) → Legal (Apply time replies ∷ log) → (c : Call) (told : Replied)
    → Has c (calls log) → is_waiting c ≡ true → find (is_reply_to c.stored.session c.stored.call) replies ≡ Some told
    → IsCommandOf (record { session = told.session; call = told.call; statement = told.statement }) c
replied_command log time replies l c told there waits is =
    let may = l.1.may in
    let hit = found (is_reply_to c.stored.session c.stored.call) replies told is in
    let whose = and_parts (told.session == c.stored.session) (told.call == c.stored.call) hit.0 in
    let reply = reply_to (cluster_of log) (newest_state log) may.round.commands told (subst (Has told) may.own_replies hit.1) in
    let asked = queued_call log reply.command (in_round_queued log may.round l.0 may.is_open reply.command reply.there) in
    let session : asked.call.stored.session ≡ c.stored.session
    = asked.is.session ∙ reply.session ∙ eqb-true told.session c.stored.session whose.0 in
    let same = one_waits log l.0 asked.call c asked.there there session (ap is_none asked.is.no_reply) waits in
    subst (IsCommandOf _) same (record {
      session = asked.is.session ∙ reply.session;
      number = asked.is.number ∙ reply.call;
      statement = asked.is.statement ∙ ap (λ s. Some s) reply.statement;
      no_peek = asked.is.no_peek;
      no_reply = asked.is.no_reply;
    })

-- a call asks a round for at most one command
one_command : (c : Call) → Pairwise AreApart (command_of c)
one_command c =
    cond_both (is_command c) (asked_of_round c.stored.session c.stored.call c.statement) [] (Pairwise AreApart)
    (λ _. elim c.statement as (λ statement. Pairwise AreApart (asked_of_round c.stored.session c.stored.call statement)) [
      | None ↦ tt
      | Some statement ↦ (tt, tt)
    ])
    (λ _. tt)

-- and the command of a call that follows is of another session
command_apart : (c d : Call) (m n : Queued) → Precedes c d → Has m (command_of c) → Has n (command_of d) → AreApart m n
command_apart c d m n before first second =
    let own = command_is c m first in
    let other = command_is d n second in
    ne_eqb m.session n.session
    (λ same. both_ways (is_waiting c) (before.replied (own.session ∙ same ∙ sym other.session)) (ap is_none own.no_reply))

-- so two commands that are queued are of two sessions
pub queued_apart : (log : Log) → Legal log → Pairwise AreApart (queued log)
queued_apart log l =
    subst (Pairwise AreApart) (queue_is log)
    (pairwise_flat Precedes AreApart command_of one_command command_apart (calls log) (precedes log l))

-- so are two of the open round
pub round_apart : (log : Log) (round : Round) → Legal log → open_round log ≡ Some round → Pairwise AreApart round.commands
round_apart log round l is =
    let front = subst (λ o. IsFrontOf o (queued log)) is (open_is_front log l) in
    pairwise_left AreApart round.commands front.behind (subst (Pairwise AreApart) front.is (queued_apart log l))
