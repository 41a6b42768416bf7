-- The plans of indexes stay in order: the newest stands first, and each has a number that was given.
use Rattle.std.proofs.Common.{◌≡◌, ℕ, ◌+◌, ◌<◌, ◌&&◌, Bool, true, List, [], ◌∷◌, Option, None, Some, Ok, Err, nat_lt, refl, ap, ◌∙◌, arith}
use Rattle.std.specs.List.{AllByRecursion as Each, list_all}
use Rattle.std.proofs.lemmas.Bool.{and_from, lt-ltb}
use Rattle.mz_rules.proofs.Each.{each_of}
use Rattle.mz_statement.specs.declared.statement.Statement.{Statement}
use Rattle.mz_plan.specs.Indexes.{descend}
use Rattle.mz_plan.specs.Items.{dependents}
use Rattle.mz_plan.specs.declared.item.ItemKind.TheVariants as item
use Rattle.mz_plan.specs.declared.plan.Plan.{Plan}
use Rattle.mz_plan.specs.declared.resolved.Resolved.{Resolved}
use Rattle.mz_plan.specs.declared.resolved.Resolved.TheVariants.{CreateTable, CreateView, CreateIndex, Drop, Insert, Delete, Query}
use Rattle.mz_refusal.specs.declared.refusal.Refusal.{Refusal}
use Rattle.mz_resolution.specs.Resolution.{resolution}
use Rattle.mz_resolution.specs.Steps.{Step}
use Rattle.mz_log.specs.CarriedOut.{carried_or_refused, carried_out, changing, held_back, next_item, outcome, overfull, rows_in, seq, unmakable}
use Rattle.mz_log.specs.Sequential.{Change, Made, Moved, Removed, Sequential, after_changes, bag_at}
use Rattle.mz_log.specs.declared.reply.SeqReply.{SeqReply}
use Rattle.mz_core.specs.declared.calls.Waiting.{Waiting}
use Rattle.mz_kept.specs.Carrying.{leaves}
use Rattle.mz_kept.specs.Within.{IsOrdered}

-- numbers that are below one are below the next
below_next : (next : ℕ) (plans : List (ℕ × Plan)) → Each (λ index. index.0 < next) plans → Each (λ index. index.0 < next + 1) plans
below_next next plans below = each_of _ _ (λ index less. omega (arith, less)) plans below

-- the test says that all are below a number
all_below : (next : ℕ) (plans : List (ℕ × Plan)) → Each (λ index. index.0 < next) plans → list_all (λ index. nat_lt index.0 next) plans ≡ true
all_below next [] below = refl
all_below next (index ∷ plans) below =
    and_from (nat_lt index.0 next) (list_all (λ older. nat_lt older.0 next) plans) (lt-ltb index.0 next below.0) (all_below next plans below.1)

-- ---- one change

-- a change that is made, or isn't
ordered_changing : (why : Option Refusal) (state : Sequential) (told : SeqReply) (change : Change) → IsOrdered state
    → IsOrdered (after_changes state (change ∷ [])) → IsOrdered (outcome state (changing why told change)).state
ordered_changing None state told change o after = after
ordered_changing (Some why) state told change o after = o

-- what is asked for leaves plans in order
ordered_carried : (state : Sequential) (asked : Resolved) → IsOrdered state → IsOrdered (carried_out state asked).state
ordered_carried state (CreateTable name columns) o =
    ordered_changing (unmakable state.database.items name columns) state _ (Made (next_item state.database name 0 (item.Table columns))) o
    (record { descends = o.descends; below = below_next state.database.next state.plans o.below })
ordered_carried state (CreateView name columns query) o =
    ordered_changing (unmakable state.database.items name columns) state _ (Made (next_item state.database name 0 (item.View columns query))) o
    (record { descends = o.descends; below = below_next state.database.next state.plans o.below })
ordered_carried state (CreateIndex name on plan cluster) o =
    ordered_changing (unmakable state.database.items name []) state _ (Made (next_item state.database name cluster (item.Index on plan))) o
    (record {
      descends = and_from (list_all (λ index. nat_lt index.0 state.database.next) state.plans) (descend state.plans)
          (all_below state.database.next state.plans o.below) o.descends;
      below = ((omega arith), below_next state.database.next state.plans o.below);
    })
ordered_carried state (Drop id) o =
    ordered_changing (held_back (dependents id state.database.items)) state _ (Removed id) o (record { descends = o.descends; below = o.below })
ordered_carried state (Insert table rows) o =
    ordered_changing (overfull (rows_in (bag_at state.database.bags table)) _) state _ (Moved table _) o (record { descends = o.descends; below = o.below })
ordered_carried state (Delete table cond) o = record { descends = o.descends; below = o.below }
ordered_carried state (Query plan) o = o

-- ---- statements

ordered_step : (state : Sequential) (step : Step Resolved) → IsOrdered state → IsOrdered (carried_or_refused state step).state
ordered_step state (Ok asked) o = ordered_carried state asked o
ordered_step state (Err why) o = o

-- a statement leaves plans in order
ordered_seq : (state : Sequential) (statement : Statement) → IsOrdered state → IsOrdered (seq state 0 statement).state
unfolding seq
ordered_seq state statement o = ordered_step state (resolution (record { items = state.database.items; cluster = 0 }) statement) o

-- and so do commands
pub ordered_leaves : (commands : List Waiting) (state : Sequential) → IsOrdered state → IsOrdered (leaves state commands)
ordered_leaves [] state o = o
ordered_leaves (command ∷ commands) state o = ordered_leaves commands (seq state 0 command.statement).state (ordered_seq state command.statement o)
