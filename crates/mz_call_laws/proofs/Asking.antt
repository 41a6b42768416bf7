-- What the entry of a statement says of its session: one lemma a kind of statement.
use Rattle.std.proofs.Common.{◌≡◌, ℕ, ◌+◌, ◌≤◌, ◌&&◌, true, false, Ok, None, is_some, is_none, nat_lt, refl, sym, ap, ◌∙◌, IfOk}
use Rattle.std.specs.Prelude.{⊤, unwrap_or}
use Rattle.std.proofs.lemmas.Bool.{ltb-false}
use Rattle.mz_refusal.specs.declared.refusal.Refusal.TheVariants as refusal
use Rattle.mz_statement.specs.Kind.{kind_of}
use Rattle.mz_statement.specs.declared.statement.Kind.{Kind}
use Rattle.mz_statement.specs.declared.statement.Kind.TheVariants as kind
use Rattle.mz_statement.specs.declared.statement.Statement.{Statement}
use Rattle.mz_plan.specs.declared.plan.Plan.{Plan}
use Rattle.mz_log.specs.declared.entry.Entry.{Entry}
use Rattle.mz_log.specs.declared.entry.Entry.TheVariants.{Queue, Read, Refused, Instant}
use Rattle.mz_books.specs.States.{query_plan}
use Rattle.mz_books.specs.Collections.{inputs_of}
use Rattle.mz_books.specs.Answer.{accepted, as_of, greatest_of, held_item, known_cluster, not_before, pick, reading, retained_name, target}
use Rattle.mz_books.specs.Situation.{Situation}
use Rattle.mz_call_laws.proofs.Options.{not_some}
use Rattle.mz_call_laws.proofs.Steps.{then_ok, past}

-- the next call of the session
pub record NextCall (s : Situation) (session caller call : ℕ) : Type 0 where
  pub own : caller ≡ session
  pub next : call ≡ s.calls_made + 1

-- a command that is accepted: the session is in no transaction
pub record AcceptedCommand (s : Situation) (session caller call : ℕ) (statement : Statement) : Type 0 where
  pub whose : NextCall s session caller call
  pub is_command : kind_of statement ≡ kind.Command
  pub free : s.transaction ≡ None

-- a read that is accepted: by the next peek, at the time that is picked for it, which may be read
pub record AcceptedRead (s : Situation) (session caller call peek time : ℕ) (statement : Statement) (collection : ℕ) : Type 0 where
  pub whose : NextCall s session caller call
  pub next_peek : peek ≡ s.peeks_made + 1
  pub picked : time ≡ pick s statement
  pub readable : time ≤ s.read
  pub from_ddl : s.ddl ≤ time
  pub from_seen : is_some (as_of statement) ≡ true → s.seen ≤ time
  pub free : (is_some s.transaction && is_some (as_of statement)) ≡ false
  pub is_query : kind_of statement ≡ kind.Query
  pub plan : Plan
  pub resolves : query_plan s.scope statement ≡ Ok plan
  pub own_target : collection ≡ target plan s.collections

-- a statement that is carried out at once: at the time of the transaction, or else at the read time
pub record AtOnce (s : Situation) (session caller call time : ℕ) : Type 0 where
  pub whose : NextCall s session caller call
  pub own_time : time ≡ unwrap_or s.transaction s.read

-- the entry is one with which the session may be answered
abbrev pub IsAnswer : Situation → ℕ → Entry → Type 0
IsAnswer s session (Queue caller call statement) = AcceptedCommand s session caller call statement
IsAnswer s session (Read caller call peek time statement collection) =
    AcceptedRead s session caller call peek time statement collection
IsAnswer s session (Instant caller call statement time) = AtOnce s session caller call time
IsAnswer s session (Refused caller call text refusal) = NextCall s session caller call
IsAnswer s session entry = ⊤

-- a query is read so
reading_is : (s : Situation) (session : ℕ) (statement : Statement)
    → (is_some s.transaction && is_some (as_of statement)) ≡ false → kind_of statement ≡ kind.Query
    → IfOk (reading s session statement (pick s statement)) (IsAnswer s session)
reading_is s session statement free query =
    let time = pick s statement in
    past (nat_lt s.read time) (refusal.AfterRead time s.read) _ (IsAnswer s session)
    (λ behind. past (is_some (as_of statement) && nat_lt time s.seen) (refusal.BeforeSession time s.seen) _ (IsAnswer s session)
    (λ seen. past (nat_lt time s.ddl) (refusal.CatalogMoved s.ddl time) _ (IsAnswer s session)
    (λ moved. then_ok (query_plan s.scope statement) _ (IsAnswer s session)
    (λ plan resolved. then_ok (not_before time (greatest_of s.settled (inputs_of plan s.collections))) _ (IsAnswer s session)
    (λ _ _. record {
      whose = record { own = refl; next = refl };
      next_peek = refl;
      picked = refl;
      readable = ltb-false s.read time behind;
      from_ddl = ltb-false time s.ddl moved;
      from_seen = λ named. ltb-false time s.seen (sym (ap (λ b. b && nat_lt time s.seen) named) ∙ seen);
      free = free;
      is_query = query;
      plan = plan;
      resolves = resolved;
      own_target = refl;
    })))))

-- what is carried out at once
at_once_is : (s : Situation) (session : ℕ) → AtOnce s session session (s.calls_made + 1) (unwrap_or s.transaction s.read)
at_once_is s session = record { whose = record { own = refl; next = refl }; own_time = refl }

-- the entry of a statement of each kind
pub accepted_is : (s : Situation) (session : ℕ) (statement : Statement) (of : Kind) → kind_of statement ≡ of
    → IfOk (accepted s session statement of) (IsAnswer s session)
accepted_is s session statement kind.Command is =
    past (is_some s.transaction) refusal.InTransaction _ (IsAnswer s session)
    (λ free. record { whose = record { own = refl; next = refl }; is_command = is; free = not_some s.transaction free })
accepted_is s session statement kind.Query is =
    past (is_some s.transaction && is_some (as_of statement)) refusal.InTransaction _ (IsAnswer s session)
    (λ free. reading_is s session statement free is)
accepted_is s session statement kind.Start is =
    past (is_some s.transaction) refusal.InTransaction _ (IsAnswer s session) (λ _. at_once_is s session)
accepted_is s session statement kind.Commit is =
    past (is_none s.transaction) refusal.NoTransaction _ (IsAnswer s session) (λ _. at_once_is s session)
accepted_is s session statement kind.Retain is =
    past (is_some s.transaction) refusal.InTransaction _ (IsAnswer s session)
    (λ _. then_ok (held_item s.scope.items (retained_name statement)) _ (IsAnswer s session) (λ _ _. at_once_is s session))
accepted_is s session statement kind.ShowFrontiers is = at_once_is s session
accepted_is s session statement kind.Set is =
    past (is_some s.transaction) refusal.InTransaction _ (IsAnswer s session)
    (λ _. then_ok (known_cluster s.clusters statement) _ (IsAnswer s session) (λ _ _. at_once_is s session))
