-- The steps of a read, and what came of each.
use Rattle.std.specs.Prelude.{⊤}
use Rattle.std.proofs.Common.{◌≡◌, ℕ, ◌+◌, false, Ok, Err, ◌&&◌, is_some, nat_lt, refl}
use Rattle.mz_plan.specs.declared.plan.Plan.{Plan}
use Rattle.mz_refusal.specs.declared.refusal.Refusal.TheVariants as refusal
use Rattle.mz_resolution.specs.Steps.{Step, ◌>>=◌}
use Rattle.mz_statement.specs.declared.statement.Statement.{Statement}
use Rattle.mz_log.specs.declared.entry.Entry.{Entry}
use Rattle.mz_log.specs.declared.entry.Entry.TheVariants.{Read}
use Rattle.mz_books.specs.States.{query_plan}
use Rattle.mz_books.specs.Collections.{inputs_of}
use Rattle.mz_books.specs.Answer.{as_of, greatest_of, not_before, reading, refused_if, target}
use Rattle.mz_books.specs.Situation.{Situation}
use Rattle.mz_laws.proofs.Passed.{no_cause}

-- two values that one step gives
pub same_ok : {A : Type 0} (x y : A) → ◌≡◌ {A = Step A} (Ok x) (Ok y) → x ≡ y
same_ok x y e = cc

-- one step, and then a value
pub after_one : {A : Type 0} (a : Step A) (x y : Entry) → (a >>= λ _. Ok x) ≡ Ok y → x ≡ y
after_one (Ok v) x y e = same_ok x y e
after_one (Err refusal) x y e = absurd (cc)

-- two steps
pub after_two : {A B : Type 0} (a : Step A) (b : Step B) (x y : Entry) → (a >>= λ _. b >>= λ _. Ok x) ≡ Ok y → x ≡ y
after_two (Ok v) b x y e = after_one b x y e
after_two (Err refusal) b x y e = absurd (cc)

-- a read: its time is readable, nothing was made or removed since, it resolves to a plan, and what it reads isn't past the time
pub record IsRead (s : Situation) (session : ℕ) (statement : Statement) (time : ℕ) (entry : Entry) : Type 0 where
  pub plan : Plan
  pub readable : nat_lt s.read time ≡ false
  pub unmoved : nat_lt time s.ddl ≡ false
  pub resolves : query_plan s.scope statement ≡ Ok plan
  pub value : ⊤
  pub not_early : not_before time (greatest_of s.settled (inputs_of plan s.collections)) ≡ Ok value
  pub is : Read session (s.calls_made + 1) (s.peeks_made + 1) time statement (target plan s.collections) ≡ entry

-- by its steps: the last one
last_step : (s : Situation) (session : ℕ) (statement : Statement) (time : ℕ) (entry : Entry) (plan : Plan) (early : Step ⊤)
    → nat_lt s.read time ≡ false → nat_lt time s.ddl ≡ false → query_plan s.scope statement ≡ Ok plan
    → not_before time (greatest_of s.settled (inputs_of plan s.collections)) ≡ early
    → (early >>= λ _. Ok (Read session (s.calls_made + 1) (s.peeks_made + 1) time statement (target plan s.collections))) ≡ Ok entry
    → IsRead s session statement time entry
last_step s session statement time entry plan (Ok v) r d q n e =
    record { plan = plan; readable = r; unmoved = d; resolves = q; value = v; not_early = n; is = same_ok _ entry e }
last_step s session statement time entry plan (Err refusal) r d q n e = absurd (cc)

-- the one before it
plan_step : (s : Situation) (session : ℕ) (statement : Statement) (time : ℕ) (entry : Entry) (found : Step Plan)
    → nat_lt s.read time ≡ false → nat_lt time s.ddl ≡ false → query_plan s.scope statement ≡ found
    → (found >>= λ plan. not_before time (greatest_of s.settled (inputs_of plan s.collections))
    >>= λ _. Ok (Read session (s.calls_made + 1) (s.peeks_made + 1) time statement (target plan s.collections))) ≡ Ok entry
    → IsRead s session statement time entry
plan_step s session statement time entry (Ok plan) r d q e = last_step s session statement time entry plan _ r d q refl e
plan_step s session statement time entry (Err refusal) r d q e = absurd (cc)

-- and the first three
read_steps : (s : Situation) (session : ℕ) (statement : Statement) (time : ℕ) (entry : Entry) (first second third : Step ⊤)
    → ((v : ⊤) → first ≡ Ok v → nat_lt s.read time ≡ false) → ((v : ⊤) → third ≡ Ok v → nat_lt time s.ddl ≡ false)
    → (first >>= λ _. second >>= λ _. third >>= λ _. query_plan s.scope statement
    >>= λ plan. not_before time (greatest_of s.settled (inputs_of plan s.collections))
    >>= λ _. Ok (Read session (s.calls_made + 1) (s.peeks_made + 1) time statement (target plan s.collections))) ≡ Ok entry
    → IsRead s session statement time entry
read_steps s session statement time entry (Ok u) (Ok v) (Ok w) r d e = plan_step s session statement time entry _ (r u refl) (d w refl) refl e
read_steps s session statement time entry (Ok u) (Ok v) (Err refusal) r d e = absurd (cc)
read_steps s session statement time entry (Ok u) (Err refusal) third r d e = absurd (cc)
read_steps s session statement time entry (Err refusal) second third r d e = absurd (cc)

-- so it is with each read
pub read_made : (s : Situation) (session : ℕ) (statement : Statement) (time : ℕ) (entry : Entry)
    → reading s session statement time ≡ Ok entry → IsRead s session statement time entry
read_made s session statement time entry e =
    read_steps s session statement time entry (refused_if (nat_lt s.read time) (refusal.AfterRead time s.read))
    (refused_if (is_some (as_of statement) && nat_lt time s.seen) (refusal.BeforeSession time s.seen))
    (refused_if (nat_lt time s.ddl) (refusal.CatalogMoved s.ddl time)) (no_cause _ _) (no_cause _ _) e

-- the same behind one more step
pub read_behind : (s : Situation) (session : ℕ) (statement : Statement) (time : ℕ) (entry : Entry) (first : Step ⊤)
    → (first >>= λ _. reading s session statement time) ≡ Ok entry → IsRead s session statement time entry
read_behind s session statement time entry (Ok v) e = read_made s session statement time entry e
read_behind s session statement time entry (Err refusal) e = absurd (cc)
