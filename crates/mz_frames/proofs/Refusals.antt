-- What a call that is refused as it is submitted changes of what sessions have.
use Rattle.std.proofs.Common.{◌≡◌, ℕ, ◌+◌, ◌<◌, Bool, true, false, cond, ◌==◌, ◌&&◌, ◌||◌, List, [], ◌∷◌, ◌++◌, length, Some, None, refl, ap, ◌∙◌, inl, inr, arith}
use Rattle.std.specs.List.{AllByRecursion as Each, list_any}
use Rattle.std.proofs.lemmas.Bool.{both_ways, cond-false, eq-eqb, eqb-true, ne_eqb}
use Rattle.mz_rules.proofs.Each.{each_of}
use Rattle.mz_refusal.specs.declared.refusal.Refusal.{Refusal}
use Rattle.mz_log.specs.declared.entry.Entry.TheVariants.{Refused}
use Rattle.mz_log.specs.declared.reply.Reply.TheVariants as reply
use Rattle.mz_log.specs.Log.{Log}
use Rattle.mz_books.specs.Clusters.{cluster_of}
use Rattle.mz_books.specs.Entries.{Queued}
use Rattle.mz_books.specs.Rounds.{queued}
use Rattle.mz_books.specs.Calls.{Call, calls, calls_of, is_call, new_call, seen_in}
use Rattle.mz_books.specs.Sessions.{calls_made, outstanding, seen}
use Rattle.mz_books.specs.Legal.{Legal, MayCall}
use Rattle.mz_call_laws.proofs.Lists.{each_has, has_from}
use Rattle.mz_call_laws.proofs.Accepted.{made_is}
use Rattle.mz_call_laws.proofs.Front.{none_queued, others}
use Rattle.mz_call_laws.proofs.Numbers.{numbers_within}
use Rattle.mz_frames.proofs.Appended.{long_one, made_one, seen_still, waiting_in, waits_still}

-- where no member passes a test, not any does
pub any_none : {A : Type 0} (test : A → Bool) (xs : List A) → Each (λ x. test x ≡ false) xs → list_any test xs ≡ false
any_none test [] e = refl
any_none test (x ∷ xs) e = ap (λ b. b || list_any test xs) e.0 ∙ any_none test xs e.1

-- a call with a lesser number in its session is another
other_call : (session call most : ℕ) (c : Call) → call ≡ most + 1 → (c.stored.session ≡ session → c.stored.call < 1 + most)
    → is_call session call c ≡ false
other_call session call most c next less =
    elim (c.stored.session == session) as (λ b. (c.stored.session == session) ≡ b → (b && (c.stored.call == call)) ≡ false) [
      | true ↦ λ own. ne_eqb c.stored.call call (λ same. let within = less (eqb-true c.stored.session session own) in absurd (omega arith))
      | false ↦ λ _. refl
    ] refl

-- a session whose calls have their replies makes the call that is refused
pub may_call : (log : Log) (session call : ℕ) (text : List ℕ) (refusal : Refusal) → Legal (Refused session call text refusal ∷ log)
    → outstanding log session ≡ None → MayCall log session (Refused session call text refusal)
may_call log session call text refusal l none = elim l.1.may [
  | inl may ↦ may
  | inr spent ↦
      let command : Queued = record { session = session; call = call; statement = spent.statement } in
      let other = each_has (λ m. (m.session == session) ≡ false) command (queued log) (none_queued log session none)
      (has_from command (queued log) spent.waits) in
      absurd (both_ways (session == session) other (eq-eqb session session refl))
]

-- so it is a new one
pub refused_new : (log : Log) (session call : ℕ) (text : List ℕ) (refusal : Refusal) → Legal (Refused session call text refusal ∷ log)
    → outstanding log session ≡ None → list_any (is_call session call) (calls log) ≡ false
refused_new log session call text refusal l none =
    let next = (made_is log session (Refused session call text refusal) (may_call log session call text refusal l none)).is.next in
    any_none (is_call session call) (calls log)
    (each_of _ _ (λ c less. other_call session call (calls_made log session) c next less) (calls log) (numbers_within log l.0 session))

-- with its reply
abbrev refused_call : Log → ℕ → ℕ → List ℕ → Refusal → Call
refused_call log session call text refusal =
    new_call session call (seen_in session (calls log)) text (Some (reply.Refused refusal)) None (cluster_of log session) None

-- behind all others
pub refused_calls : (log : Log) (session call : ℕ) (text : List ℕ) (refusal : Refusal) → Legal (Refused session call text refusal ∷ log)
    → outstanding log session ≡ None
    → calls (Refused session call text refusal ∷ log)
    ≡ calls log ++ new_call session call (seen log session) text (Some (reply.Refused refusal)) None (cluster_of log session) None ∷ []
refused_calls log session call text refusal l none = cond-false _ _ _ (refused_new log session call text refusal l none)

-- its session has made one call more
pub refused_made : (log : Log) (session call : ℕ) (text : List ℕ) (refusal : Refusal) → Legal (Refused session call text refusal ∷ log)
    → outstanding log session ≡ None → (other : ℕ)
    → calls_made (Refused session call text refusal ∷ log) other ≡ cond (session == other) (calls_made log other + 1) (calls_made log other)
refused_made log session call text refusal l none other =
    ap (λ cs. length (calls_of other cs)) (refused_calls log session call text refusal l none)
    ∙ made_one other (calls log) (refused_call log session call text refusal)

-- there is one call more
pub refused_long : (log : Log) (session call : ℕ) (text : List ℕ) (refusal : Refusal) → Legal (Refused session call text refusal ∷ log)
    → outstanding log session ≡ None → length (calls (Refused session call text refusal ∷ log)) ≡ length (calls log) + 1
refused_long log session call text refusal l none =
    ap length (refused_calls log session call text refusal l none) ∙ long_one (calls log) (refused_call log session call text refusal)

-- no further call waits
pub refused_waits : (log : Log) (session call : ℕ) (text : List ℕ) (refusal : Refusal) → Legal (Refused session call text refusal ∷ log)
    → outstanding log session ≡ None → (other : ℕ)
    → outstanding (Refused session call text refusal ∷ log) other ≡ outstanding log other
refused_waits log session call text refusal l none other =
    ap (waiting_in other) (refused_calls log session call text refusal l none)
    ∙ waits_still other (calls log) (refused_call log session call text refusal) refl

-- no session has seen a later time
pub refused_seen : (log : Log) (session call : ℕ) (text : List ℕ) (refusal : Refusal) → Legal (Refused session call text refusal ∷ log)
    → outstanding log session ≡ None → (other : ℕ)
    → seen (Refused session call text refusal ∷ log) other ≡ seen log other
refused_seen log session call text refusal l none other =
    ap (seen_in other) (refused_calls log session call text refusal l none)
    ∙ seen_still other (calls log) (refused_call log session call text refusal) refl

-- the commands that wait wait still
pub refused_queue : (log : Log) (session call : ℕ) (text : List ℕ) (refusal : Refusal) → outstanding log session ≡ None
    → queued (Refused session call text refusal ∷ log) ≡ queued log
refused_queue log session call text refusal none = others session call (queued log) (none_queued log session none)
