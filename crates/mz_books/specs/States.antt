-- The state of the sequential object at each time: the commands of all rounds up to it, done one after another.
use Rattle.std.specs.Prelude.{ℕ, ◌==◌, List, [], ◌∷◌, ◌++◌, not, filter, nat_le, Ok, Err, if◌then◌else◌}
use Rattle.std.specs.List.{list_any}
use Rattle.mz_bag.specs.Bag.{Counts}
use Rattle.mz_bag.specs.Weighted.{bag_of}
use Rattle.mz_plan.specs.Meaning.{meaning, index_rows, table_rows}
use Rattle.mz_plan.specs.declared.item.Item.{Item}
use Rattle.mz_plan.specs.declared.plan.Plan.{Plan}
use Rattle.mz_plan.specs.declared.resolved.Resolved.{Resolved}
use Rattle.mz_plan.specs.declared.resolved.Resolved.TheVariants as resolved
use Rattle.mz_plan.specs.declared.scope.Scope.{Scope}
use Rattle.mz_refusal.specs.declared.refusal.Refusal.TheVariants.{Syntax}
use Rattle.mz_resolution.specs.Resolution.{resolution}
use Rattle.mz_resolution.specs.Steps.{Step}
use Rattle.mz_statement.specs.declared.statement.Statement.{Statement}
use Rattle.mz_log.specs.declared.entry.Entry.TheVariants.{Apply}
use Rattle.mz_log.specs.declared.entry.Replied.{Replied}
use Rattle.mz_log.specs.declared.reply.SeqReply.{SeqReply}
use Rattle.mz_log.specs.declared.reply.SeqReply.TheVariants.{Refused}
use Rattle.mz_log.specs.Sequential.{Bags, Change, Sequential, bag_at, opening}
use Rattle.mz_log.specs.CarriedOut.{Response, Command, Rows, seq}
use Rattle.mz_log.specs.Log.{Log}
use Rattle.mz_books.specs.Entries.{Queued}
use Rattle.mz_books.specs.Clusters.{cluster_of}
use Rattle.mz_books.specs.Rounds.{read_time}

-- ---- one round. Each command is carried out in the cluster of its session, which a function gives

-- what a round replies to a command that is told this. A query is no command, and refused at its first byte
abbrev pub round_reply : Response → SeqReply
round_reply (Command told) = told
round_reply (Rows rows) = Refused (Syntax 0)

-- the commands with their replies, each of which sees those before it
abbrev pub replies_to : (ℕ → ℕ) → Sequential → List Queued → List Replied
replies_to cluster state [] = []
replies_to cluster state (command ∷ commands) =
    record {
      session = command.session;
      call = command.call;
      statement = command.statement;
      reply = round_reply (seq state (cluster command.session) command.statement).response;
    } ∷ replies_to cluster (seq state (cluster command.session) command.statement).state commands

-- the state once these commands are done, one after another
abbrev pub after_replies : (ℕ → ℕ) → Sequential → List Replied → Sequential
after_replies cluster state [] = state
after_replies cluster state (replied ∷ replies) =
    after_replies cluster (seq state (cluster replied.session) replied.statement).state replies

-- what they change, in order
abbrev pub changes_by : (ℕ → ℕ) → Sequential → List Replied → List Change
changes_by cluster state [] = []
changes_by cluster state (replied ∷ replies) =
    (seq state (cluster replied.session) replied.statement).changes
    ++ changes_by cluster (seq state (cluster replied.session) replied.statement).state replies

-- ---- the state at a time

-- the state after all rounds up to the time
abbrev pub state_at : Log → ℕ → Sequential
state_at [] time = opening
state_at (Apply applied replies ∷ log) time =
    if nat_le applied time then after_replies (cluster_of log) (state_at log time) replies else state_at log time
state_at (entry ∷ log) time = state_at log time

-- the state at the read time, which the next round begins with
abbrev pub newest_state : Log → Sequential
newest_state log = state_at log (read_time log)

-- the items that statements may name now
abbrev pub items : Log → List Item
items log = (newest_state log).database.items

-- what a session's statements may name now
abbrev pub scope_of : Log → ℕ → Scope
scope_of log session = record { items = items log; cluster = cluster_of log session }

-- the plan of what was resolved. What is no query is refused at its first byte
abbrev pub plan_of : Step Resolved → Step Plan
plan_of (Ok (resolved.Query plan)) = Ok plan
plan_of (Ok other) = Err (Syntax 0)
plan_of (Err refusal) = Err refusal

-- the plan of a query, its names resolved, or the first refusal
unfoldable pub query_plan : Scope → Statement → Step Plan
query_plan scope statement = plan_of (resolution scope statement)

-- what a round with these replies changes
abbrev pub round_changes : Log → List Replied → List Change
round_changes log replies = changes_by (cluster_of log) (newest_state log) replies

-- ---- tables at a time, those that were dropped among them

-- the bags that the second ones don't have any more
abbrev pub gone : Bags → Bags → Bags
gone before after = filter (λ bag. not (list_any (λ other. other.0 == bag.0) after)) before

-- for each table that was dropped up to the time the bag from before the round that dropped it. One that the same round made had no
-- row before it, and isn't named
abbrev pub dropped : Log → ℕ → Bags
dropped [] time = []
dropped (Apply applied replies ∷ log) time =
    if nat_le applied time
    then dropped log time
    ++ gone (state_at log time).database.bags (after_replies (cluster_of log) (state_at log time) replies).database.bags
    else dropped log time
dropped (entry ∷ log) time = dropped log time

-- the bag of each table that was made up to the time
abbrev pub bags_at : Log → ℕ → Bags
bags_at log time = (state_at log time).database.bags ++ dropped log time

-- the rows of a table at a time
abbrev pub table_at : Log → ℕ → ℕ → Counts
table_at log table time = bag_at (bags_at log time) table

-- the bag of a plan at a time, over all tables and indexes that were made up to then
abbrev pub plan_at : Log → Plan → ℕ → Counts
plan_at log plan time =
    bag_of (meaning (table_rows (bags_at log time)) (index_rows (table_rows (bags_at log time)) (state_at log time).plans) plan)
