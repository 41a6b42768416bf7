-- The call of a session that has no reply.
use Rattle.std.proofs.Common.{◌≡◌, ℕ, suc, ◌+◌, true, false, cond, List, [], ◌∷◌, find, length, Option, Some, None, IfSome, option_map, option_to_list, refl, ap, arith}
use Rattle.std.specs.List.{AllByRecursion as Each, range_with_len}
use Rattle.std.proofs.lemmas.Bool.{both_ways}
use Rattle.mz_log.specs.Log.{Log}
use Rattle.mz_books.specs.Calls.{Call, calls, calls_of, is_waiting}
use Rattle.mz_books.specs.Sessions.{calls_made, outstanding}
use Rattle.mz_books.specs.Legal.{Legal}
use Rattle.mz_call_laws.specs.Calls.{numbers, unreplied}
use Rattle.mz_call_laws.specs.Members.{Pairwise}
use Rattle.mz_call_laws.proofs.Numbers.{in_range}
use Rattle.mz_call_laws.proofs.Precedes.{precedes}
use Rattle.mz_call_laws.proofs.OwnCalls.{pairs_of_own}

-- the first call has its reply
abbrev IsDone : Call → Call → Type 0
IsDone first second = is_waiting first ≡ false

-- a list in which each but the last has its reply, and the first has none
none_behind : (c : Call) (cs : List Call) → is_waiting c ≡ true → Each (IsDone c) cs → cs ≡ []
none_behind c [] waits e = refl
none_behind c (d ∷ ds) waits e = absurd (both_ways (is_waiting c) e.0 waits)

-- so at most the last one has none, and it is the one that is found
one_found : (cs : List Call) → Pairwise IsDone cs
    → numbers (unreplied cs) ≡ option_to_list (option_map (λ c. c.stored.call) (find is_waiting cs))
one_found [] p = refl
one_found (c ∷ cs) p =
    elim (is_waiting c) as (λ b. is_waiting c ≡ b → numbers (cond b (c ∷ unreplied cs) (unreplied cs))
    ≡ option_to_list (option_map (λ d. d.stored.call) (cond b (Some c) (find is_waiting cs)))) [
      | true ↦ λ waits. ap (λ ds. c.stored.call ∷ numbers (unreplied ds)) (none_behind c cs waits p.0)
      | false ↦ λ _. one_found cs p.1
    ] refl

-- a number that is one more than the first
moved : (o : Option ℕ) (next first n : ℕ) → next ≡ first + 1 → IfSome o (λ number. number + 1 ≡ next + n)
    → IfSome o (λ number. number + 1 ≡ first + suc n)
moved None next first n is h = tt
moved (Some number) next first n is h = omega arith

-- a number one less than the next
less : (o : Option ℕ) (n : ℕ) → IfSome o (λ number. number + 1 ≡ 1 + n) → IfSome o (λ number. number ≡ n)
less None n h = tt
less (Some number) n h = omega arith

-- it is the last of as many
last_found : (cs : List Call) (first : ℕ) → Pairwise IsDone cs → numbers cs ≡ range_with_len first (length cs)
    → IfSome (option_map (λ c. c.stored.call) (find is_waiting cs)) (λ number. number + 1 ≡ first + length cs)
last_found [] first p is = tt
last_found (c ∷ cs) first p is =
    let own : c.stored.call ≡ first = cc in
    let rest : numbers cs ≡ range_with_len (first + 1) (length cs) = cc in
    elim (is_waiting c) as (λ b. is_waiting c ≡ b
    → IfSome (option_map (λ d. d.stored.call) (cond b (Some c) (find is_waiting cs))) (λ number. number + 1 ≡ first + length (c ∷ cs))) [
      | true ↦ λ waits. let none = ap length (none_behind c cs waits p.0) in omega arith
      | false ↦ λ _. moved (option_map (λ d. d.stored.call) (find is_waiting cs)) (first + 1) first (length cs) refl (last_found cs (first + 1) p.1 rest)
    ] refl

-- all calls of a session but the last have their replies
own_done : (log : Log) (session : ℕ) → Legal log → Pairwise IsDone (calls_of session (calls log))
own_done log session l = pairs_of_own session IsDone (λ c d own before. before.replied own) (calls log) (precedes log l)

-- so the call that waits is the outstanding one
pub session_waits : (log : Log) (session : ℕ) → Legal log
    → numbers (unreplied (calls_of session (calls log))) ≡ option_to_list (outstanding log session)
session_waits log session l = one_found (calls_of session (calls log)) (own_done log session l)

-- and the last that the session made
pub waiting_last : (log : Log) (session : ℕ) → Legal log → IfSome (outstanding log session) (λ number. number ≡ calls_made log session)
waiting_last log session l =
    less (outstanding log session) (calls_made log session)
    (last_found (calls_of session (calls log)) 1 (own_done log session l) (in_range log l session))
