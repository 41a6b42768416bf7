-- What commands come to that are carried out, one after another.
use Rattle.std.proofs.Common.{◌≡◌, ℕ, ◌+◌, Bool, true, false, List, [], ◌∷◌, ◌++◌, Option, None, Some, Ok, Err, map, reverse, refl, sym, ap, ◌∙◌}
use Rattle.std.proofs.lemmas.List.{append-nil, reverse-append}
use Rattle.mz_statement.specs.declared.statement.Statement.{Statement}
use Rattle.mz_plan.specs.declared.item.Item.{Item}
use Rattle.mz_plan.specs.declared.plan.Plan.{Plan}
use Rattle.mz_plan.specs.declared.item.ItemKind.TheVariants as item
use Rattle.mz_plan.specs.declared.resolved.Resolved.{Resolved}
use Rattle.mz_plan.specs.declared.resolved.Resolved.TheVariants.{CreateTable, CreateView, CreateIndex, Drop, Insert, Delete, Query}
use Rattle.mz_refusal.specs.declared.refusal.Refusal.{Refusal}
use Rattle.mz_refusal.specs.declared.refusal.Refusal.TheVariants.{Syntax}
use Rattle.mz_resolution.specs.Resolution.{resolution}
use Rattle.mz_log.specs.CarriedOut.{Command, Outcome, carried_or_refused, carried_out, changing, held_back, next_item, outcome, overfull, rows_in, seq, unmakable}
use Rattle.mz_log.specs.Log.{Log}
use Rattle.mz_log.specs.Sequential.{Change, Database, Made, Sequential, bag_at, more_plans}
use Rattle.mz_log.specs.declared.reply.SeqReply.{SeqReply}
use Rattle.mz_log.specs.declared.reply.SeqReply.TheVariants as reply
use Rattle.mz_plan.specs.Items.{dependents}
use Rattle.mz_books.specs.Clusters.{cluster_of}
use Rattle.mz_books.specs.States.{after_replies, replies_to, round_reply}
use Rattle.mz_seq.specs.Done.{IsDone, is_query}
use Rattle.mz_core.specs.declared.calls.RoundReply.{RoundReply}
use Rattle.mz_core.specs.declared.calls.Waiting.{Waiting}
use Rattle.mz_kept.specs.Carrying.{AreCarriedOut, IsCarriedOut, index_plan, leaves, made_plan, newest_first, state_with, tells}
use Rattle.mz_core.specs.Told.{command_of, reply_of}

-- ---- one statement

-- what a statement comes to that resolves to this
seq_is : (database : Database) (had plans : List (ℕ × Plan)) (statement : Statement) (asked : Resolved)
    → resolution (record { items = database.items; cluster = 0 }) statement ≡ Ok asked
    → seq (state_with database had plans) 0 statement ≡ carried_out (state_with database had plans) asked
unfolding seq
seq_is database had plans statement asked is = ap (carried_or_refused (state_with database had plans)) is

-- one that doesn't resolve is refused, and changes nothing
pub refused_carried : (database : Database) (had : List (ℕ × Plan)) (statement : Statement) (why : Refusal)
    → resolution (record { items = database.items; cluster = 0 }) statement ≡ Err why
    → IsCarriedOut statement database had database had (reply.Refused why)
unfolding seq
refused_carried database had statement why is = record {
  told = λ plans. ap (λ step. round_reply (carried_or_refused (state_with database had plans) step).response) (sym is);
  left = λ plans. ap (λ step. (carried_or_refused (state_with database had plans) step).state) (sym is);
}

-- a query is refused too
pub query_carried : (database : Database) (had : List (ℕ × Plan)) (statement : Statement) (asked : Resolved) → is_query asked ≡ true
    → resolution (record { items = database.items; cluster = 0 }) statement ≡ Ok asked
    → IsCarriedOut statement database had database had (reply.Refused (Syntax 0))
query_carried database had statement (Query plan) query is = record {
  told = λ plans. ap (λ o. round_reply o.response) (sym (seq_is database had plans statement (Query plan) is));
  left = λ plans. ap (λ o. o.state) (sym (seq_is database had plans statement (Query plan) is));
}
query_carried database had statement (CreateTable name columns) query is = absurd (cc)
query_carried database had statement (CreateView name columns body) query is = absurd (cc)
query_carried database had statement (CreateIndex name on plan cluster) query is = absurd (cc)
query_carried database had statement (Drop id) query is = absurd (cc)
query_carried database had statement (Insert table rows) query is = absurd (cc)
query_carried database had statement (Delete table cond) query is = absurd (cc)

-- ---- plans of indexes

-- a change that comes with no plan leaves the plans as they are, where it is made and where it isn't
no_plan : (why : Option Refusal) (state : Sequential) (told : SeqReply) (change : Change) → more_plans state.plans change ≡ state.plans
    → (outcome state (changing why told change)).state.plans ≡ state.plans
no_plan None state told change h = h
no_plan (Some refusal) state told change h = refl

-- an index that is made comes with its plan
own_plan : (why : Option Refusal) (state : Sequential) (name : List ℕ) (on : ℕ) (plan : Plan) (cluster : ℕ) (told : SeqReply)
    → Command told ≡ (outcome state (changing why (reply.Created state.database.next) (Made (next_item state.database name cluster (item.Index on plan))))).response
    → (outcome state (changing why (reply.Created state.database.next) (Made (next_item state.database name cluster (item.Index on plan))))).state.plans
    ≡ made_plan (Some plan) told ++ state.plans
own_plan None state name on plan cluster told is =
    let same : told ≡ reply.Created state.database.next = cc in
    ap (λ r. made_plan (Some plan) r ++ state.plans) (sym same)
own_plan (Some refusal) state name on plan cluster told is =
    let same : told ≡ reply.Refused refusal = cc in
    ap (λ r. made_plan (Some plan) r ++ state.plans) (sym same)

-- the plans that are left
plans_left : (state : Sequential) (asked : Resolved) (told : SeqReply) → Command told ≡ (carried_out state asked).response
    → (carried_out state asked).state.plans ≡ made_plan (index_plan asked) told ++ state.plans
plans_left state (CreateTable name columns) told is =
    no_plan (unmakable state.database.items name columns) state (reply.Created state.database.next)
    (Made (next_item state.database name 0 (item.Table columns))) refl
plans_left state (CreateView name columns query) told is =
    no_plan (unmakable state.database.items name columns) state (reply.Created state.database.next)
    (Made (next_item state.database name 0 (item.View columns query))) refl
plans_left state (CreateIndex name on plan cluster) told is =
    own_plan (unmakable state.database.items name []) state name on plan cluster told is
plans_left state (Drop id) told is = no_plan (held_back (dependents id state.database.items)) state reply.Dropped _ refl
plans_left state (Insert table rows) told is = no_plan (overfull (rows_in (bag_at state.database.bags table)) _) state _ _ refl
plans_left state (Delete table cond) told is = refl
plans_left state (Query plan) told is = refl

-- a plan that is noted last stands first
noted_first : (own : Option Plan) (told : SeqReply) (had plans : List (ℕ × Plan))
    → newest_first (had ++ made_plan own told) plans ≡ made_plan own told ++ newest_first had plans
noted_first (Some plan) (reply.Created id) had plans = ap (λ made. made ++ plans) (reverse-append had ((id, plan) ∷ []))
noted_first (Some plan) reply.Dropped had plans = ap (λ made. reverse made ++ plans) (append-nil had)
noted_first (Some plan) (reply.Inserted rows) had plans = ap (λ made. reverse made ++ plans) (append-nil had)
noted_first (Some plan) (reply.Deleted rows) had plans = ap (λ made. reverse made ++ plans) (append-nil had)
noted_first (Some plan) (reply.Refused why) had plans = ap (λ made. reverse made ++ plans) (append-nil had)
noted_first None told had plans = ap (λ made. reverse made ++ plans) (append-nil had)

-- ---- a command

-- a command that is carried out
pub command_carried : (before after : Database) (had has : List (ℕ × Plan)) (statement : Statement) (asked : Resolved) (told : SeqReply)
    → resolution (record { items = before.items; cluster = 0 }) statement ≡ Ok asked → IsDone asked before after told
    → has ≡ had ++ made_plan (index_plan asked) told → IsCarriedOut statement before had after has told
command_carried before after had has statement asked told is done noted = record {
  told = λ plans. ap round_reply (done.told (newest_first had plans) ∙ sym (ap (λ o. o.response) (seq_is before had plans statement asked is)));
  left = λ plans.
      (λ i. record {
        database = done.left (newest_first had plans) i;
        plans = (ap (λ made. newest_first made plans) noted ∙ (noted_first (index_plan asked) told had plans
            ∙ sym (plans_left (state_with before had plans) asked told (done.told (newest_first had plans))))) i;
      }) ∙ sym (ap (λ o. o.state) (seq_is before had plans statement asked is));
}

-- ---- commands, one after another

-- what the first of them comes to, and the others after it
pub tells_next : (command : Waiting) (commands : List Waiting) (before after : Database) (had has : List (ℕ × Plan)) (told : SeqReply)
    → IsCarriedOut command.statement before had after has told → (plans : List (ℕ × Plan))
    → tells (state_with before had plans) (command ∷ commands)
    ≡ record { session = command.session; call = command.call; reply = told } ∷ tells (state_with after has plans) commands
tells_next command commands before after had has told k plans = λ i.
    record { session = command.session; call = command.call; reply = sym (k.told plans) i } ∷ tells (sym (k.left plans) i) commands

pub leaves_next : (command : Waiting) (commands : List Waiting) (before after : Database) (had has : List (ℕ × Plan)) (told : SeqReply)
    → IsCarriedOut command.statement before had after has told → (plans : List (ℕ × Plan))
    → leaves (state_with before had plans) (command ∷ commands) ≡ leaves (state_with after has plans) commands
leaves_next command commands before after had has told k plans = ap (λ state. leaves state commands) (sym (k.left plans))

-- ---- a round

-- what a round replies is what its commands are told
pub replies_told : (log : Log) (state : Sequential) (commands : List Waiting)
    → map reply_of (replies_to (cluster_of log) state (map command_of commands)) ≡ tells state commands
replies_told log state [] = refl
replies_told log state (command ∷ commands) =
    ap (λ rest. record {
      session = command.session;
      call = command.call;
      reply = round_reply (seq state 0 command.statement).response;
    } ∷ rest) (replies_told log (seq state 0 command.statement).state commands)

-- and it leaves what they leave
pub replies_left : (log : Log) (state : Sequential) (commands : List Waiting)
    → after_replies (cluster_of log) state (replies_to (cluster_of log) state (map command_of commands)) ≡ leaves state commands
replies_left log state [] = refl
replies_left log state (command ∷ commands) = replies_left log (seq state 0 command.statement).state commands
