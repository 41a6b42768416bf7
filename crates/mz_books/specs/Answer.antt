-- What a submission is answered: why it is no call, or the entry of its call. A call is queued, read, carried out at once, or refused.
use Rattle.std.specs.Prelude.{ℕ, ◌+◌, ◌&&◌, List, [], ◌∷◌, Bool, not, Option, None, Some, Ok, Err, bytes_eq, is_none, is_some, length, nat_le, nat_lt, unwrap_or, if◌then◌else◌, ⊤}
use Rattle.std.specs.List.{list_any}
use Rattle.mz_time.specs.declared.frontier.Frontier.{Frontier}
use Rattle.mz_time.specs.declared.frontier.Frontier.TheVariants.{At, Done}
use Rattle.mz_time.specs.Frontier.{join}
use Rattle.mz_statement.specs.Kind.{kind_of}
use Rattle.mz_statement.specs.declared.statement.Kind.{Kind}
use Rattle.mz_statement.specs.declared.statement.Kind.TheVariants as kind
use Rattle.mz_statement.specs.declared.statement.Statement.{Statement}
use Rattle.mz_statement.specs.declared.statement.Statement.TheVariants as statement
use Rattle.mz_grammar.specs.declared.asked.Asked.{Asked}
use Rattle.mz_grammar.specs.declared.asked.Asked.TheVariants as asks
use Rattle.mz_print.specs.Print.{print_of}
use Rattle.mz_plan.specs.Items.{is_view, named}
use Rattle.mz_plan.specs.declared.item.Item.{Item}
use Rattle.mz_plan.specs.declared.plan.Plan.{Plan}
use Rattle.mz_plan.specs.declared.plan.Plan.TheVariants as plan
use Rattle.mz_refusal.specs.declared.refusal.Limited.TheVariants.{Calls}
use Rattle.mz_refusal.specs.declared.refusal.Refusal.{Refusal}
use Rattle.mz_refusal.specs.declared.refusal.Refusal.TheVariants as refusal
use Rattle.mz_resolution.specs.Resolution.{item_of}
use Rattle.mz_resolution.specs.Steps.{Step, ◌>>=◌}
use Rattle.mz_rules.specs.Since.{since_of}
use Rattle.mz_rules.specs.declared.capability.Collection.{Collection}
use Rattle.mz_rules.specs.declared.capability.Settled.{Settled}
use Rattle.mz_log.specs.declared.entry.Entry.{Entry}
use Rattle.mz_log.specs.declared.entry.Entry.TheVariants.{Queue, Read, Refused, Instant}
use Rattle.mz_log.specs.Log.{Log}
use Rattle.mz_books.specs.Clusters.{clusters}
use Rattle.mz_books.specs.Rounds.{greatest_time}
use Rattle.mz_books.specs.States.{query_plan}
use Rattle.mz_books.specs.Collections.{inputs_of}
use Rattle.mz_books.specs.Situation.{Situation, situation}

-- ---- causes. Each is a step that gives nothing, or meets its refusal

-- the refusal, where there is a cause for it
abbrev pub refused_if : Bool → Refusal → Step ⊤
refused_if cause refusal = if cause then Err refusal else Ok tt

-- a session that waits for the reply to a call makes no other
abbrev pub busy : Option ℕ → Step ⊤
busy None = Ok tt
busy (Some call) = Err (refusal.Busy call)

-- how many calls all sessions may make together
abbrev pub most_calls : ℕ
most_calls = 1048576

-- why a submission is no call, in this order: its session is closed, or waits, or there are as many calls as there may be
abbrev pub no_call : Situation → Step ⊤
no_call s = do
  _ ← refused_if s.closed refusal.Closed
  _ ← busy s.outstanding
  refused_if (nat_le most_calls s.all_calls) (refusal.TooMany Calls most_calls)

-- what is no read isn't done in a transaction, but for COMMIT and SHOW FRONTIERS
abbrev pub outside : Situation → Step ⊤
outside s = refused_if (is_some s.transaction) refusal.InTransaction

-- a time before the since of what is read is too early. What is done can't be read at any time
abbrev pub not_before : ℕ → Frontier → Step ⊤
not_before time (At since) = refused_if (nat_lt time since) (refusal.BeforeSince time since)
not_before time Done = Err (refusal.BeforeSince time greatest_time)

-- the table or index of this name
abbrev pub held_item : List Item → List ℕ → Step Item
held_item items name = do
  item ← item_of name (named name items)
  if is_view item.kind then Err (refusal.WrongType name) else Ok item

-- a SET CLUSTER names a cluster that there is
abbrev pub known_cluster : List (List ℕ) → Statement → Step ⊤
known_cluster clusters (statement.SetCluster name) =
    refused_if (not (list_any (bytes_eq name) clusters)) (refusal.UnknownName name)
known_cluster clusters other = Ok tt

-- ---- reads

-- the number behind AS OF, where one is named
abbrev pub as_of : Statement → Option ℕ
as_of (statement.Query query time) = time
as_of other = None

-- the time at which a query is read: that of the transaction, where the session is in one, else the number of AS OF, else the read time
abbrev pub pick : Situation → Statement → ℕ
pick s statement = unwrap_or s.transaction (unwrap_or (as_of statement) s.read)

-- the greatest since of the collections of these numbers, or 0
abbrev pub greatest_of : List Settled → List ℕ → Frontier
greatest_of ss [] = At 0
greatest_of ss (number ∷ numbers) = join (since_of number ss) (greatest_of ss numbers)

-- the first of the numbers, or else the next collection
abbrev pub first_or_next : List ℕ → List Collection → ℕ
first_or_next [] cs = length cs + 1
first_or_next (number ∷ numbers) cs = number

-- what a query reads: the index that its plan is, or else the next collection, which is made for it
abbrev pub target : Plan → List Collection → ℕ
target (plan.Index item) cs = first_or_next (inputs_of (plan.Index item) cs) cs
target other cs = length cs + 1

-- the read of a query at a time, or why it is refused, in this order: the time is after the read time, an AS OF is before what the
-- session has seen, the catalog has changed since, the query doesn't resolve, or what it reads has forgotten the time
abbrev pub reading : Situation → ℕ → Statement → ℕ → Step Entry
reading s session statement time = do
  _ ← refused_if (nat_lt s.read time) (refusal.AfterRead time s.read)
  _ ← refused_if (is_some (as_of statement) && nat_lt time s.seen) (refusal.BeforeSession time s.seen)
  _ ← refused_if (nat_lt time s.ddl) (refusal.CatalogMoved s.ddl time)
  plan ← query_plan s.scope statement
  _ ← not_before time (greatest_of s.settled (inputs_of plan s.collections))
  Ok (Read session (s.calls_made + 1) (s.peeks_made + 1) time statement (target plan s.collections))

-- ---- statements

-- the entry of a statement that is carried out at once: at the time of the transaction, or else at the read time
abbrev pub at_once : Situation → ℕ → Statement → Entry
at_once s session statement = Instant session (s.calls_made + 1) statement (unwrap_or s.transaction s.read)

-- the name of a RETAIN
abbrev pub retained_name : Statement → List ℕ
retained_name (statement.Retain name keep) = name
retained_name other = []

-- the entry of a statement of this kind, or its first refusal
abbrev pub accepted : Situation → ℕ → Statement → Kind → Step Entry
accepted s session statement kind.Command = do
  _ ← outside s
  Ok (Queue session (s.calls_made + 1) statement)
accepted s session statement kind.Query = do
  _ ← refused_if (is_some s.transaction && is_some (as_of statement)) refusal.InTransaction
  reading s session statement (pick s statement)
accepted s session statement kind.Start = do
  _ ← outside s
  Ok (at_once s session statement)
accepted s session statement kind.Commit = do
  _ ← refused_if (is_none s.transaction) refusal.NoTransaction
  Ok (at_once s session statement)
accepted s session statement kind.Retain = do
  _ ← outside s
  _ ← held_item s.scope.items (retained_name statement)
  Ok (at_once s session statement)
accepted s session statement kind.ShowFrontiers = Ok (at_once s session statement)
accepted s session statement kind.Set = do
  _ ← outside s
  _ ← known_cluster s.clusters statement
  Ok (at_once s session statement)

-- ---- texts

-- the entry of what a text asks for, or its first refusal
abbrev pub accepted_text : Situation → ℕ → Asked → Step Entry
accepted_text s session (asks.Statement statement) = accepted s session statement (kind_of statement)
accepted_text s session (asks.Syntax at) = Err (refusal.Syntax at)
accepted_text s session (asks.LiteralRange at) = Err (refusal.LiteralRange at)

-- a text in its one form: the printed text of the statement that it spells, or else the text as it was given
abbrev pub form_of : List ℕ → Asked → List ℕ
form_of text (asks.Statement statement) = print_of statement
form_of text other = text

-- the entry of a call: that of what it asks for, or that it is refused
abbrev pub call_entry : ℕ → ℕ → List ℕ → Step Entry → Entry
call_entry session call text (Ok entry) = entry
call_entry session call text (Err refusal) = Refused session call text refusal

-- what a session in this situation is answered
abbrev pub answer_in : Situation → ℕ → List ℕ → Asked → Step Entry
answer_in s session text asked = do
  _ ← no_call s
  Ok (call_entry session (s.calls_made + 1) (form_of text asked) (accepted_text s session asked))

-- what a session is answered that says a text which asks for this: the entry of its call, or why it makes none
unfoldable pub answer : Log → ℕ → List ℕ → Asked → Step Entry
answer log session text asked = answer_in (situation log session) session text asked
