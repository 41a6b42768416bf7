-- A call that may be made behind those of a log, and that entries make such.
use Rattle.std.proofs.Common.{◌≡◌, ℕ, ◌+◌, ◌≤◌, ◌==◌, max, is_some, true, false, cond, List, [], ◌∷◌, Option, Some, None, refl, sym, ap, ◌∙◌, subst, inl, inr, arith, le_of_eq}
use Rattle.std.specs.Prelude.{unwrap_or}
use Rattle.std.specs.List.{AllByRecursion as Each}
use Rattle.std.proofs.lemmas.Bool.{both_ways, cond_both, and_from, eq-eqb}
use Rattle.mz_rules.proofs.Each.{each_of}
use Rattle.mz_statement.specs.declared.statement.Statement.{Statement}
use Rattle.mz_refusal.specs.declared.refusal.Refusal.{Refusal}
use Rattle.mz_log.specs.Log.{Log}
use Rattle.mz_books.specs.Entries.{Queued}
use Rattle.mz_books.specs.Rounds.{queued, read_time}
use Rattle.mz_books.specs.Holds.{peeks_made, transaction}
use Rattle.mz_books.specs.Calls.{Call, calls, is_call, seen_in}
use Rattle.mz_books.specs.Sessions.{calls_made, outstanding}
use Rattle.mz_books.specs.Answer.{as_of}
use Rattle.mz_books.specs.Legal.{MaySpend}
use Rattle.mz_call_laws.specs.Members.{Has}
use Rattle.mz_call_laws.specs.Waiting.{asked_of_round, command_of, is_command}
use Rattle.mz_call_laws.proofs.Lists.{each_has, has_from, has_given}
use Rattle.mz_call_laws.proofs.Options.{absent}
use Rattle.mz_call_laws.proofs.Front.{NoneWaits, none_found}
use Rattle.mz_call_laws.proofs.Queue.{queue_is}
use Rattle.mz_call_laws.proofs.Transactions.{SessionUntil, Timed}

-- a call that may be made behind these: the next of its session, none of which waits or is later, by the next peek, if any
pub record IsNew (log : Log) (call : Call) : Type 0 where
  pub next : call.stored.call ≡ calls_made log call.stored.session + 1
  pub free : NoneWaits call.stored.session (calls log)
  pub no_earlier : SessionUntil call.stored.session call.stored.time (calls log)
  pub peeks : (peek : ℕ) → call.peek ≡ Some peek → peek ≡ peeks_made log + 1

-- the calls of the session have come by the time that it has seen
pub seen_all : (session n : ℕ) (cs : List Call) → seen_in session cs ≤ n → SessionUntil session n cs
seen_all session n [] h = tt
seen_all session n (c ∷ cs) h =
    elim (c.stored.session == session) as (λ b. (c.stored.session == session) ≡ b → cond b (max c.stored.time (seen_in session cs)) (seen_in session cs) ≤ n
    → SessionUntil session n (c ∷ cs)) [
      | true ↦ λ _ most. ((λ mine. omega arith), seen_all session n cs (omega arith))
      | false ↦ λ other most. (
        (λ mine. absurd (both_ways (c.stored.session == session) other (eq-eqb c.stored.session session mine))),
        seen_all session n cs most,
      )
    ] refl h

-- no peek is the next one
no_next : (log : Log) (call : Call) → call.peek ≡ None → (peek : ℕ) → call.peek ≡ Some peek → peek ≡ peeks_made log + 1
no_next log call none peek some = absent peek (sym none ∙ some)

-- a call at the time that its session has seen
pub at_seen : (log : Log) (call : Call) → call.peek ≡ None → call.stored.time ≡ seen_in call.stored.session (calls log)
    → call.stored.call ≡ calls_made log call.stored.session + 1 → outstanding log call.stored.session ≡ None → IsNew log call
at_seen log call no_peek own next none = record {
  next = next;
  free = none_found call.stored.session (calls log) none;
  no_earlier = seen_all call.stored.session call.stored.time (calls log) (le_of_eq (sym own));
  peeks = no_next log call no_peek;
}

-- a read is behind what its session has seen
pub read_behind : (log : Log) (session time : ℕ) (statement : Statement) (inside named : Option ℕ) → transaction log session ≡ inside
    → as_of statement ≡ named → Timed log → time ≡ unwrap_or inside (unwrap_or named (read_time log))
    → (is_some named ≡ true → seen_in session (calls log) ≤ time) → SessionUntil session time (calls log)
read_behind log session time statement (Some at) named is asked k own from =
    subst (λ t. SessionUntil session t (calls log)) (sym own) (k.inside session at is).seen
read_behind log session time statement None (Some at) is asked k own from = seen_all session time (calls log) (from refl)
read_behind log session time statement None None is asked k own from = each_of _ _ (λ c until mine. omega arith) (calls log) k.done

-- what a call asks a round for is its own command
own_asked : (c : Call) (m : Queued) (statement : Option Statement) → Has m (asked_of_round c.stored.session c.stored.call statement)
    → is_call m.session m.call c ≡ true
own_asked c m None h = elim h [ ]
own_asked c m (Some statement) (inl same) =
    and_from _ _ (eq-eqb c.stored.session m.session (ap (λ q. q.session) same)) (eq-eqb c.stored.call m.call (ap (λ q. q.call) same))
own_asked c m (Some statement) (inr none) = elim none [ ]

-- a command that waits is a call of its number
pub own_call : (c : Call) (m : Queued) → Has m (command_of c) → is_call m.session m.call c ≡ true
own_call c m =
    cond_both (is_command c) (asked_of_round c.stored.session c.stored.call c.statement) [] (λ ms. Has m ms → is_call m.session m.call c ≡ true)
    (λ _. own_asked c m c.statement) (λ _ none. elim none [ ])

-- a call that is refused because no time is left is one that waits
pub spent_call : (log : Log) (session number : ℕ) (text : List ℕ) (refusal : Refusal) → MaySpend log session number text refusal
    → Each (λ c. is_call session number c ≡ false) (calls log) → ⊥
spent_call log session number text refusal may none =
    let command : Queued = record { session = session; call = number; statement = may.statement } in
    let given = has_given command_of command (calls log) (subst (Has command) (sym (queue_is log)) (has_from command (queued log) may.waits)) in
    both_ways (is_call session number given.giver) (each_has _ given.giver (calls log) none given.there)
    (own_call given.giver command given.gives)
