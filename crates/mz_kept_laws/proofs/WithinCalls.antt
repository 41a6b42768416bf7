-- What is kept stays within its bounds as sessions are opened and make calls.
use Rattle.std.proofs.Common.{◌≡◌, ◌≢◌, ℕ, ◌+◌, ◌-◌, ◌<◌, ◌≤◌, Bool, true, List, [], ◌∷◌, length, sym, subst, ◌∙◌, ◌⊎◌, ◌==◌, arith, inl, inr}
use Rattle.std.specs.List.{AllByRecursion as Each}
use Rattle.std.proofs.lemmas.Bool.{both_ways, cases_Bool, eq-eqb, eqb-true}
use Rattle.std.proofs.lemmas.List.{append_assoc, length-append, length-set}
use Rattle.mz_rules.proofs.Each.{each_append, each_of}
use Rattle.mz_oracle.specs.Rounds.{all_items, round_items}
use Rattle.mz_books.specs.Answer.{most_calls}
use Rattle.mz_core.specs.declared.calls.FinishedRead.{FinishedRead}
use Rattle.mz_core.specs.declared.calls.Waiting.{Waiting}
use Rattle.mz_kept.specs.Kept.{Kept}
use Rattle.mz_kept.specs.Steps.{called, calling, new_session, opened, queueing, reading, session_at, with_call}
use Rattle.mz_core.specs.Told.{IsNumberOf}
use Rattle.mz_kept.specs.Within.{IsWithin}
use Rattle.mz_kept_laws.proofs.SessionPlaces.{at_push, call_other, call_own}

-- ---- sessions

-- the number of a session is one of more
more : (m n session : ℕ) → m ≤ n → IsNumberOf m session → IsNumberOf n session
more m n session h number = record { from_one = number.from_one; there = (let there = number.there in omega (arith, h, there)) }

-- commands and reads of sessions are of more
more_commands : (m n : ℕ) → m ≤ n → (commands : List Waiting) → Each (λ w. IsNumberOf m w.session) commands
    → Each (λ w. IsNumberOf n w.session) commands
more_commands m n h commands each = each_of _ _ (λ w. more m n w.session h) commands each

more_reads : (m n : ℕ) → m ≤ n → (reads : List FinishedRead) → Each (λ r. IsNumberOf m r.session) reads → Each (λ r. IsNumberOf n r.session) reads
more_reads m n h reads each = each_of _ _ (λ r. more m n r.session h) reads each

-- a session is opened
pub within_opened : (name : List ℕ) (k : Kept) → IsWithin k → IsWithin (opened name k)
within_opened name k w =
    let names = length-append k.names (name ∷ []) in
    let sessions = length-append k.sessions (new_session ∷ []) in
    let paired = w.paired in
    record {
      paired = omega (arith, names, sessions, paired);
      commands = more_commands (length k.names) _ (omega (arith, names)) (all_items k.rounds) w.commands;
      reads = more_reads (length k.names) _ (omega (arith, names)) k.reads w.reads;
      rounds = w.rounds;
      peeks = w.peeks;
      each = λ place. subst (λ s. s.calls ≤ k.calls) (sym (at_push k.sessions place)) (w.each place);
      calls = w.calls;
      plans = w.plans;
    }

-- ---- calls

-- two numbers are the same, or aren't
nat_cases : (m n : ℕ) → (m ≡ n) ⊎ (m ≢ n)
nat_cases m n = elim (cases_Bool (m == n)) [
  | inl same ↦ inl (eqb-true m n same)
  | inr other ↦ inr (λ same. both_ways (m == n) other (eq-eqb m n same))
]

-- no session has made more calls than there are, once one has made one more
call_few : (waits : Bool) (session : ℕ) (k : Kept) → IsWithin k → IsNumberOf (length k.names) session → (place : ℕ)
    → (session_at (with_call waits session k.sessions) place).calls ≤ k.calls + 1
call_few waits session k w number place =
    elim (nat_cases (session - 1) place) [
      | inl same ↦
          let own = call_own waits session k.sessions (subst (λ n. IsNumberOf n session) (sym w.paired) number) in
          let few = w.each (session - 1) in
          subst (λ at. (session_at (with_call waits session k.sessions) at).calls ≤ k.calls + 1) same
          (subst (λ s. s.calls ≤ k.calls + 1) (sym own) (omega (arith, few)))
      | inr other ↦
          let few = w.each place in
          subst (λ s. s.calls ≤ k.calls + 1) (sym (call_other waits session k.sessions place other)) (omega (arith, few))
    ]

-- a session makes a call
pub within_calling : (waits : Bool) (session : ℕ) (k : Kept) → IsWithin k → IsNumberOf (length k.names) session → k.calls < most_calls
    → IsWithin (calling waits session k)
within_calling waits session k w number room = record {
  paired = length-set k.sessions (session - 1) (called waits (session_at k.sessions (session - 1))) ∙ w.paired;
  commands = w.commands;
  reads = w.reads;
  rounds = w.rounds;
  peeks = (let few = w.peeks in omega (arith, few));
  each = call_few waits session k w number;
  calls = omega (arith, room);
  plans = w.plans;
}

-- a command waits
pub within_queueing : (command : Waiting) (k : Kept) → IsWithin k → IsNumberOf (length k.names) command.session → k.calls < most_calls
    → IsWithin (queueing command k)
within_queueing command k w number room =
    let called = within_calling true command.session k w number room in
    record {
      paired = called.paired;
      commands = subst (Each (λ c. IsNumberOf (length k.names) c.session)) (append_assoc (round_items k.rounds) k.rounds.queued (command ∷ []))
          (each_append _ (all_items k.rounds) (command ∷ []) w.commands (number, tt));
      reads = called.reads;
      rounds = called.rounds;
      peeks = called.peeks;
      each = called.each;
      calls = called.calls;
      plans = w.plans;
    }

-- a read waits
pub within_reading : (read : FinishedRead) (k : Kept) → IsWithin k → IsNumberOf (length k.names) read.session → k.calls < most_calls
    → IsWithin (reading read k)
within_reading read k w number room =
    let called = within_calling true read.session k w number room in
    record {
      paired = called.paired;
      commands = called.commands;
      reads = each_append _ k.reads (read ∷ []) w.reads (number, tt);
      rounds = called.rounds;
      peeks = (let few = w.peeks in omega (arith, few));
      each = called.each;
      calls = called.calls;
      plans = w.plans;
    }
