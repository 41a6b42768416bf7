-- What the entry of a call does to collections and capabilities.
use Rattle.std.specs.Prelude.{⊤, unwrap_or}
use Rattle.std.proofs.Common.{◌≡◌, ℕ, ◌+◌, ◌<◌, ◌≤◌, true, List, [], ◌∷◌, Ok, length, nat_lt, ◌⊎◌, inl, inr, refl, sym, subst, arith}
use Rattle.std.specs.List.{AllByRecursion as Each}
use Rattle.std.proofs.lemmas.Bool.{ltb-false}
use Rattle.mz_time.specs.Frontier.{Le, join}
use Rattle.mz_time.specs.declared.frontier.Frontier.{Frontier}
use Rattle.mz_time.specs.declared.frontier.Frontier.TheVariants.{At, Done}
use Rattle.mz_time.proofs.FrontierLemmas.{Le-trans, Le-join_left, Le-join_right}
use Rattle.mz_grammar.proofs.Fits.{text_fits}
use Rattle.mz_plan.specs.Leaves.{leaves_of}
use Rattle.mz_plan.specs.declared.plan.Plan.{Plan, Index}
use Rattle.mz_statement.specs.Statement.{IsStatement}
use Rattle.mz_statement.specs.declared.statement.Statement.{Statement}
use Rattle.mz_statement.specs.declared.statement.Statement.TheVariants.{Retain}
use Rattle.mz_rules.specs.Numbering.{Numbered}
use Rattle.mz_rules.specs.Since.{since_of}
use Rattle.mz_rules.specs.declared.capability.Collection.{Collection}
use Rattle.mz_rules.specs.declared.capability.Settled.{Settled}
use Rattle.mz_rules.proofs.Each.{each_both, each_of}
use Rattle.mz_rules.proofs.Numbers.{new_place}
use Rattle.mz_log.specs.declared.entry.Entry.{Entry}
use Rattle.mz_log.specs.declared.entry.Entry.TheVariants.{Instant}
use Rattle.mz_log.specs.Log.{Log}
use Rattle.mz_books.specs.Rounds.{read_time}
use Rattle.mz_books.specs.Collections.{collections, inputs_of, is_in_catalog, plan_or_none}
use Rattle.mz_books.specs.Holds.{transaction}
use Rattle.mz_books.specs.Since.{kept, settled, since}
use Rattle.mz_books.specs.Sessions.{calls_made}
use Rattle.mz_books.specs.Answer.{first_or_next, greatest_of, not_before, target}
use Rattle.mz_books.specs.Situation.{situation}
use Rattle.mz_laws.proofs.Passed.{no_cause}
use Rattle.mz_laws.proofs.ReadSteps.{IsRead}
use Rattle.mz_laws.proofs.Accepted.{IsAccepted, IsCommand, IsQuery, IsAtOnce, IsEntry, IsOf, IsRefused}
use Rattle.mz_safe_laws.proofs.Moves.{stays}
use Rattle.mz_safe_laws.proofs.Building.{each_input, numbers_below}
use Rattle.mz_safe_laws.proofs.Entries.{CoreOf, GoesTo, retain_goes}
use Rattle.mz_safe_laws.proofs.OfReads.{MayRead, read_goes}

-- what isn't too early is at or after the frontier
not_early : (time : ℕ) (f : Frontier) (value : ⊤) → not_before time f ≡ Ok value → Le f (At time)
not_early time (At since) value e = let late = ltb-false time since (no_cause (nat_lt time since) _ value e) in omega arith
not_early time Done value e = absurd (cc)

-- what is at or after the greatest since is at or after each
each_before : (ss : List Settled) (numbers : List ℕ) (time : ℕ) → Le (greatest_of ss numbers) (At time)
    → Each (λ number. Le (since_of number ss) (At time)) numbers
each_before ss [] time h = tt
each_before ss (number ∷ numbers) time h =
    let own : Frontier = since_of number ss in
    let rest : Frontier = greatest_of ss numbers in (
      Le-trans own (join own rest) (At time) (Le-join_left own rest) h,
      each_before ss numbers time (Le-trans rest (join own rest) (At time) (Le-join_right own rest) h),
    )

-- numbers are from the first on
numbers_from : (k : ℕ) (cs : List Collection) → Numbered k cs → Each (λ c. k ≤ c.number) cs
numbers_from k [] n = tt
numbers_from k (c ∷ cs) n =
    (omega (arith, n.0), each_of (λ d. k + 1 ≤ d.number) (λ d. k ≤ d.number) (λ d p. omega (arith, p)) cs (numbers_from (k + 1) cs n.1))

-- what a plan reads is there
inputs_there : (plan : Plan) (cs : List Collection) → Numbered 1 cs → Each (λ input. (1 ≤ input) × (input ≤ length cs)) (inputs_of plan cs)
inputs_there plan cs n =
    each_input (λ input. (1 ≤ input) × (input ≤ length cs)) (leaves_of plan) cs
    (each_both (λ c. 1 ≤ c.number) (λ c. c.number < 1 + length cs) (λ c. is_in_catalog c ≡ true → (1 ≤ c.number) × (c.number ≤ length cs))
    (λ c p q e. (p, omega (arith, q))) cs (numbers_from 1 cs n) (numbers_below 1 cs n))

-- a query reads the next collection, or the first that its plan reads
target_is : (plan : Plan) (cs : List Collection)
    → (target plan cs ≡ length cs + 1) ⊎ (target plan cs ≡ first_or_next (inputs_of plan cs) cs)
target_is (Index item) cs = inr refl
target_is plan cs = inl refl

-- what is so of the next and of each that the plan reads is so of the first of these
first_is : (P : ℕ → Type 0) (inputs : List ℕ) (cs : List Collection) → P (length cs + 1) → Each P inputs → P (first_or_next inputs cs)
first_is P [] cs next p = next
first_is P (number ∷ numbers) cs next p = p.0

-- so of what a query reads
target_has : (P : ℕ → Type 0) (plan : Plan) (cs : List Collection) → P (length cs + 1) → Each P (inputs_of plan cs) → P (target plan cs)
target_has P plan cs next p = elim (target_is plan cs) [
  | inl is ↦ subst P (sym is) next
  | inr is ↦ subst P (sym is) (first_is P (inputs_of plan cs) cs next p)
]

-- a read that is answered may be made
may_read : (log : Log) (session : ℕ) (statement : Statement) (time : ℕ) (entry : Entry) → CoreOf log
    → (read : IsRead (situation log session) session statement time entry) → MayRead log read.plan time (target read.plan (collections log))
may_read log session statement time entry core read =
    let cs : List Collection = collections log in
    let plan : Plan = read.plan in
    let readable = ltb-false (read_time log) time read.readable in
    let sinces = each_before (settled log) (inputs_of plan cs) time
    (not_early time (greatest_of (settled log) (inputs_of plan cs)) read.value read.not_early) in
    let there = inputs_there plan cs core.numbered in
    record {
      readable = omega arith;
      from_one = target_has (λ number. 1 ≤ number) plan cs (omega arith)
          (each_of (λ input. (1 ≤ input) × (input ≤ length cs)) (λ number. 1 ≤ number) (λ input p. p.0) (inputs_of plan cs) there);
      known_or_next = target_has (λ number. number ≤ length cs + 1) plan cs (omega arith)
          (each_of (λ input. (1 ≤ input) × (input ≤ length cs)) (λ number. number ≤ length cs + 1) (λ input p. omega (arith, p.1))
          (inputs_of plan cs) there);
      at_since = target_has (λ number. Le (since log number) (At time)) plan cs
          (subst (λ f. Le f (At time)) (sym (new_place (At 0) (kept log) 1 cs core.numbered (length cs + 1) (omega arith))) (omega arith)) sinces;
      at_sinces = sinces;
    }

-- and does what reads do
read_follows : (log : Log) (session : ℕ) (statement : Statement) (time : ℕ) (entry : Entry) → CoreOf log
    → IsRead (situation log session) session statement time entry → GoesTo log (entry ∷ log)
read_follows log session statement time entry core read =
    let may = may_read log session statement time entry core read in
    subst (λ own. GoesTo log (own ∷ log)) read.is
    (read_goes log session _ _ time statement _ core
    (subst (λ found. MayRead log (plan_or_none found) time (target read.plan (collections log))) (sym read.resolves) may))

-- what is carried out at once moves nothing, but for a RETAIN
instant_goes : (log : Log) (session call : ℕ) (statement : Statement) (time : ℕ) → CoreOf log → IsStatement statement
    → GoesTo log (Instant session call statement time ∷ log)
instant_goes log session call (Retain name keep) time core is = retain_goes log session call name keep time core is.1
instant_goes log session call statement time core is = stays (read_time log) (collections log) (kept log) core

-- the entry of an accepted statement
accepted_goes : (log : Log) (session : ℕ) (statement : Statement) (entry : Entry) → CoreOf log → IsStatement statement
    → IsAccepted (situation log session) session statement entry → GoesTo log (entry ∷ log)
accepted_goes log session statement entry core is (IsCommand own) =
    subst (λ e. GoesTo log (e ∷ log)) own (stays (read_time log) (collections log) (kept log) core)
accepted_goes log session statement entry core is (IsQuery read) = read_follows log session statement _ entry core read
accepted_goes log session statement entry core is (IsAtOnce own) =
    subst (λ e. GoesTo log (e ∷ log)) own
    (instant_goes log session (calls_made log session + 1) statement (unwrap_or (transaction log session) (read_time log)) core is)

-- the entry of a call
pub call_goes : (log : Log) (session : ℕ) (entry : Entry) → CoreOf log → IsEntry (situation log session) session entry → GoesTo log (entry ∷ log)
call_goes log session entry core (IsOf text statement spelled is) =
    accepted_goes log session statement entry core (text_fits text statement spelled) is
call_goes log session entry core (IsRefused text refusal own) =
    subst (λ e. GoesTo log (e ∷ log)) own (stays (read_time log) (collections log) (kept log) core)
