-- The buckets up to a time are the calls up to it.
use Rattle.std.proofs.Common.{◌≡◌, ℕ, zero, suc, ◌<◌, ◌≤◌, leb, List, [], ◌∷◌, ◌++◌, refl, sym, ap, ap₂, ◌∙◌, append-nil, inl, inr, arith}
use Rattle.std.proofs.lemmas.Bool.{cases_lt, cond-true, cond-false, le-leb, lt-leb}
use Rattle.std.proofs.lemmas.List.Elements.{filter-append}
use Rattle.mz_books.specs.Calls.{Call}
use Rattle.std.specs.List.{AllByRecursion as Each}
use Rattle.mz_call_laws.specs.Calls.{calls_at}
use Rattle.mz_replay_laws.specs.Replays.{calls_until}
use Rattle.mz_call_laws.proofs.Buckets.{upto, upto_times, at_times}

-- calls that are all up to a time
keep_all : (t : ℕ) (xs : List Call) → Each (λ c. c.stored.time ≤ t) xs → calls_until t xs ≡ xs
keep_all t [] e = refl
keep_all t (x ∷ xs) e = cond-true _ _ _ (le-leb x.stored.time t e.0) ∙ ap (λ l. x ∷ l) (keep_all t xs e.1)

-- and calls that are all after it
keep_none : (t : ℕ) (xs : List Call) → Each (λ c. t < c.stored.time) xs → calls_until t xs ≡ []
keep_none t [] e = refl
keep_none t (x ∷ xs) e = cond-false _ _ _ (lt-leb x.stored.time t e.0) ∙ keep_none t xs e.1

-- the buckets up to a time are the calls up to it
pub until_upto : (t n : ℕ) (cs : List Call) → t ≤ n → calls_until t (upto n cs) ≡ upto t cs
until_upto t zero cs h =
    let same : t ≡ 0 = omega arith in
    keep_all t (upto 0 cs) (upto_times _ 0 cs (λ x e. omega arith)) ∙ ap (λ m. upto m cs) (sym same)
until_upto t (suc n) cs h =
    elim (cases_lt n t) [
      | inl last ↦
          let same : t ≡ suc n = omega arith in
          keep_all t (upto (suc n) cs) (upto_times _ (suc n) cs (λ x e. omega arith)) ∙ ap (λ m. upto m cs) (sym same)
      | inr before ↦
          filter-append (λ call. leb call.stored.time t) (upto n cs) (calls_at (suc n) cs)
          ∙ ap₂ (λ l m. l ++ m) (until_upto t n cs before) (keep_none t (calls_at (suc n) cs) (at_times _ (suc n) cs (λ x e. omega arith)))
          ∙ append-nil (upto t cs)
    ]
