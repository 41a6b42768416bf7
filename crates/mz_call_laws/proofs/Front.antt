-- The commands of an open round are the first that wait.
use Rattle.std.proofs.Common.{◌≡◌, ℕ, true, false, cond, ◌==◌, List, [], ◌∷◌, ◌++◌, filter, find, Option, Some, None, option_map, refl, sym, ap, ◌∙◌, subst, append-nil, append_assoc, inl, inr}
use Rattle.std.specs.List.{AllByRecursion as Each}
use Rattle.std.proofs.lemmas.Bool.{both_ways, cond_both, and_left, and_parts, eq-eqb, ne_eqb, not_from_false}
use Rattle.std.proofs.lemmas.List.Elements.{filter-append}
use Rattle.mz_rules.proofs.Each.{each_append, each_of}
use Rattle.mz_statement.specs.declared.statement.Statement.{Statement}
use Rattle.mz_log.specs.declared.entry.Entry.TheVariants.{Queue, Begin, Apply, Refused, Cancel}
use Rattle.mz_log.specs.Log.{Log}
use Rattle.mz_books.specs.Entries.{Queued, is_queued_as}
use Rattle.mz_books.specs.Rounds.{Round, is_in_round, open_round, queued}
use Rattle.mz_books.specs.Calls.{Call, calls, calls_of, is_waiting}
use Rattle.mz_books.specs.Sessions.{outstanding}
use Rattle.mz_books.specs.Legal.{Legal}
use Rattle.mz_call_laws.specs.Fronts.{IsFrontOf}
use Rattle.mz_call_laws.specs.Waiting.{asked_of_round, command_of, commands_in, is_command}
use Rattle.mz_call_laws.proofs.Flat.{filter_all, none_any}
use Rattle.mz_call_laws.proofs.Accepted.{made_is}
use Rattle.mz_call_laws.proofs.CommandSteps.{is_other}
use Rattle.mz_call_laws.proofs.Queue.{queue_is}

-- each call of the session has its reply
abbrev pub NoneWaits : ℕ → List Call → Type 0
NoneWaits session cs = Each (λ c. c.stored.session ≡ session → is_waiting c ≡ false) cs

-- so it is where none is found that waits
pub none_found : (session : ℕ) (cs : List Call)
    → option_map (λ c. c.stored.call) (find is_waiting (calls_of session cs)) ≡ None → NoneWaits session cs
none_found session [] e = tt
none_found session (c ∷ cs) e =
    elim (c.stored.session == session) as (λ b. (c.stored.session == session) ≡ b
    → option_map (λ d. d.stored.call) (find is_waiting (cond b (c ∷ calls_of session cs) (calls_of session cs))) ≡ None
    → NoneWaits session (c ∷ cs)) [
      | true ↦ λ _ none.
          elim (is_waiting c) as (λ b. is_waiting c ≡ b
          → option_map (λ d. d.stored.call) (cond b (Some c) (find is_waiting (calls_of session cs))) ≡ None → NoneWaits session (c ∷ cs)) [
            | true ↦ λ _ some. absurd (cc)
            | false ↦ λ replied rest. ((λ _. replied), none_found session cs rest)
          ] refl none
      | false ↦ λ other none. (
        (λ own. absurd (both_ways (c.stored.session == session) other (eq-eqb c.stored.session session own))),
        none_found session cs none,
      )
    ] refl e

-- no command is of the session
abbrev pub NoneOf : ℕ → List Queued → Type 0
NoneOf session ms = Each (λ m. (m.session == session) ≡ false) ms

-- what a call asks a round for is of its own session
asked_of_other : (session own number : ℕ) (statement : Option Statement) → (own == session) ≡ false
    → NoneOf session (asked_of_round own number statement)
asked_of_other session own number None other = tt
asked_of_other session own number (Some statement) other = (other, tt)

-- a session of which no call waits has no command that does
pub none_asked : (session : ℕ) (cs : List Call) → NoneWaits session cs → NoneOf session (commands_in cs)
none_asked session [] e = tt
none_asked session (c ∷ cs) e =
    each_append _ (command_of c) (commands_in cs)
    (cond_both (is_command c) (asked_of_round c.stored.session c.stored.call c.statement) [] (NoneOf session)
    (λ waits. asked_of_other session c.stored.session c.stored.call c.statement
    (ne_eqb c.stored.session session (λ own. both_ways (is_waiting c) (e.0 own) (and_parts _ (is_waiting c) waits).1)))
    (λ _. tt))
    (none_asked session cs e.1)

-- so it has none queued where none is outstanding
pub none_queued : (log : Log) (session : ℕ) → outstanding log session ≡ None → NoneOf session (queued log)
none_queued log session none = subst (NoneOf session) (queue_is log) (none_asked session (calls log) (none_found session (calls log) none))

-- then no command is a call of it
pub others : (session number : ℕ) (ms : List Queued) → NoneOf session ms → filter (is_other session number) ms ≡ ms
others session number ms none =
    filter_all (is_other session number) ms
    (each_of _ _ (λ m other. not_from_false _ (and_left (m.session == session) (m.call == number) other)) ms none)

-- more commands leave the first
front_more : (round : Option Round) (commands more : List Queued) → IsFrontOf round commands → IsFrontOf round (commands ++ more)
front_more None commands more front = tt
front_more (Some round) commands more front = record {
  behind = front.behind ++ more;
  is = ap (λ ms. ms ++ more) front.is ∙ append_assoc round.commands front.behind more;
}

-- so does a call that isn't among them
front_less : (round : Option Round) (session number : ℕ) (commands : List Queued) → is_in_round session number round ≡ false
    → IsFrontOf round commands → IsFrontOf round (filter (is_other session number) commands)
front_less None session number commands none front = tt
front_less (Some round) session number commands none front = record {
  behind = filter (is_other session number) front.behind;
  is = ap (filter (is_other session number)) front.is
      ∙ filter-append (is_other session number) round.commands front.behind
      ∙ ap (λ ms. ms ++ filter (is_other session number) front.behind)
      (filter_all (is_other session number) round.commands
      (each_of _ _ (λ m other. not_from_false _ other) round.commands (none_any (is_queued_as session number) round.commands none)));
}

-- a round took the commands that waited when it began, and those since come after them
pub open_is_front : (log : Log) → Legal log → IsFrontOf (open_round log) (queued log)
open_is_front [] l = tt
open_is_front (Queue session number statement ∷ log) l = front_more (open_round log) (queued log) _ (open_is_front log l.0)
open_is_front (Begin number time ∷ log) l = record { behind = []; is = sym (append-nil (queued log)) }
open_is_front (Apply time replies ∷ log) l = tt
open_is_front (Refused session number text refusal ∷ log) l = elim l.1.may [
  | inl call ↦
      let none = (made_is log session (Refused session number text refusal) call).none_waits in
      subst (IsFrontOf (open_round log)) (sym (others session number (queued log) (none_queued log session none))) (open_is_front log l.0)
  | inr spent ↦ subst (λ round. IsFrontOf round (filter (is_other session number) (queued log))) (sym spent.none_open) tt
]
open_is_front (Cancel session number ∷ log) l =
    front_less (open_round log) session number (queued log) l.1.may.in_none (open_is_front log l.0)
open_is_front (entry ∷ log) l = open_is_front log l.0
