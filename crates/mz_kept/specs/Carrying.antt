-- What commands come to that are carried out one after another, and which plans of indexes they leave.
use Rattle.std.specs.Prelude.{◌≡◌, ℕ, List, [], ◌∷◌, ◌++◌, Option, None, Some, reverse}
use Rattle.mz_statement.specs.declared.statement.Statement.{Statement}
use Rattle.mz_plan.specs.declared.plan.Plan.{Plan}
use Rattle.mz_plan.specs.declared.resolved.Resolved.{Resolved}
use Rattle.mz_plan.specs.declared.resolved.Resolved.TheVariants.{CreateIndex}
use Rattle.mz_log.specs.CarriedOut.{seq}
use Rattle.mz_log.specs.Sequential.{Database, Sequential}
use Rattle.mz_log.specs.declared.reply.SeqReply.{SeqReply}
use Rattle.mz_log.specs.declared.reply.SeqReply.TheVariants.{Created}
use Rattle.mz_books.specs.States.{round_reply}
use Rattle.mz_core.specs.declared.calls.RoundReply.{RoundReply}
use Rattle.mz_core.specs.declared.calls.Waiting.{Waiting}

-- ---- plans of indexes

-- the plan of an index that is asked for
abbrev pub index_plan : Resolved → Option Plan
index_plan (CreateIndex name on plan cluster) = Some plan
index_plan asked = None

-- a plan with the number of the index that was made, where one was
abbrev pub made_plan : Option Plan → SeqReply → List (ℕ × Plan)
made_plan (Some plan) (Created id) = (id, plan) ∷ []
made_plan plan reply = []

-- plans with those before them that were made since, of which the last is the newest
abbrev pub newest_first : List (ℕ × Plan) → List (ℕ × Plan) → List (ℕ × Plan)
newest_first made plans = reverse made ++ plans

-- a database, with these plans and those that were made since
abbrev pub state_with : Database → List (ℕ × Plan) → List (ℕ × Plan) → Sequential
state_with database made plans = record { database = database; plans = newest_first made plans }

-- ---- commands

-- what commands are told, one after another
abbrev pub tells : Sequential → List Waiting → List RoundReply
tells state [] = []
tells state (command ∷ commands) =
    record {
      session = command.session;
      call = command.call;
      reply = round_reply (seq state 0 command.statement).response;
    } ∷ tells (seq state 0 command.statement).state commands

-- and the state that they leave
abbrev pub leaves : Sequential → List Waiting → Sequential
leaves state [] = state
leaves state (command ∷ commands) = leaves (seq state 0 command.statement).state commands

-- ---- what code comes to, whatever the plans are that were there before

-- a statement is carried out: it is told this, and leaves that
pub record IsCarriedOut (statement : Statement) (before : Database) (had : List (ℕ × Plan)) (after : Database) (has : List (ℕ × Plan))
    (reply : SeqReply) : Type 0 where
  pub told : (plans : List (ℕ × Plan)) → reply ≡ round_reply (seq (state_with before had plans) 0 statement).response
  pub left : (plans : List (ℕ × Plan)) → state_with after has plans ≡ (seq (state_with before had plans) 0 statement).state

-- commands are carried out: they are told these, and leave that
pub record AreCarriedOut (commands : List Waiting) (before : Database) (had : List (ℕ × Plan)) (after : Database) (has : List (ℕ × Plan))
    (replies : List RoundReply) : Type 0 where
  pub told : (plans : List (ℕ × Plan)) → replies ≡ tells (state_with before had plans) commands
  pub left : (plans : List (ℕ × Plan)) → state_with after has plans ≡ leaves (state_with before had plans) commands
