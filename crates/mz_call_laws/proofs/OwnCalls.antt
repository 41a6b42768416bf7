-- The calls of one session, taken by themselves.
use Rattle.std.proofs.Common.{◌≡◌, ℕ, ◌==◌, List, [], ◌∷◌, sym, ◌∙◌}
use Rattle.std.specs.List.{AllByRecursion as Each}
use Rattle.std.proofs.lemmas.Bool.{cond_both, eqb-true}
use Rattle.mz_rules.proofs.Each.{each_of}
use Rattle.mz_log.specs.Log.{Log}
use Rattle.mz_books.specs.Calls.{Call, calls, calls_of}
use Rattle.mz_books.specs.Legal.{Legal}
use Rattle.mz_call_laws.specs.Calls.{Precedes}
use Rattle.mz_call_laws.specs.Members.{Pairwise}
use Rattle.mz_call_laws.proofs.Precedes.{precedes}
use Rattle.mz_call_laws.proofs.Rising.{Rising}

-- what holds of each call, if it is of the session, holds of each of the session
each_of_own : (s : ℕ) (P : Call → Type 0) (cs : List Call) → Each (λ d. d.stored.session ≡ s → P d) cs → Each P (calls_of s cs)
each_of_own s P [] e = tt
each_of_own s P (c ∷ cs) e =
    cond_both (c.stored.session == s) (c ∷ calls_of s cs) (calls_of s cs) (Each P)
    (λ own. (e.0 (eqb-true c.stored.session s own), each_of_own s P cs e.1)) (λ _. each_of_own s P cs e.1)

-- what holds of two calls of one session holds of each two of the session
pub pairs_of_own : (s : ℕ) (Q : Call → Call → Type 0) → ((c d : Call) → c.stored.session ≡ d.stored.session → Precedes c d → Q c d)
    → (cs : List Call) → Pairwise Precedes cs → Pairwise Q (calls_of s cs)
pairs_of_own s Q f [] p = tt
pairs_of_own s Q f (c ∷ cs) p =
    cond_both (c.stored.session == s) (c ∷ calls_of s cs) (calls_of s cs) (Pairwise Q)
    (λ own.
    let mine = eqb-true c.stored.session s own in
    (each_of_own s (Q c) cs (each_of _ _ (λ d before also. f c d (mine ∙ sym also) before) cs p.0), pairs_of_own s Q f cs p.1))
    (λ _. pairs_of_own s Q f cs p.1)

-- the times of a session's calls never fall
pub own_rising : (log : Log) (session : ℕ) → Legal log → Rising (calls_of session (calls log))
own_rising log session l = pairs_of_own session _ (λ c d own before. before.no_later own) (calls log) (precedes log l)
