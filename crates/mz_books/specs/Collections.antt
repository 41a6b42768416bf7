-- Collections in order of creation: what each has, how far it has come, and how long it is kept for its own sake.
use Rattle.std.specs.Prelude.{ℕ, ◌+◌, ◌==◌, ◌&&◌, max, List, [], ◌∷◌, ◌++◌, Bool, Option, bytes_eq, codes, decimal, filter, find, length, map, Ok, Err, if◌then◌else◌}
use Rattle.std.specs.List.{list_any}
use Rattle.std.specs.Option.{option_map_or}
use Rattle.std.specs.FinMap.{empty}
use Rattle.mz_bag.specs.Bag.{Counts}
use Rattle.mz_time.specs.declared.frontier.Frontier.{Frontier}
use Rattle.mz_time.specs.declared.frontier.Frontier.TheVariants.{At, Done}
use Rattle.mz_statement.specs.declared.statement.Keep.{Keep}
use Rattle.mz_statement.specs.declared.statement.Keep.TheVariants.{Lag}
use Rattle.mz_statement.specs.declared.statement.Statement.TheVariants.{Retain}
use Rattle.mz_plan.specs.Leaves.{leaves_of}
use Rattle.mz_plan.specs.declared.item.Item.{Item}
use Rattle.mz_plan.specs.declared.item.ItemKind.{ItemKind}
use Rattle.mz_plan.specs.declared.item.ItemKind.TheVariants as item
use Rattle.mz_plan.specs.declared.plan.Plan.{Plan}
use Rattle.mz_plan.specs.declared.plan.Plan.TheVariants as plan
use Rattle.mz_resolution.specs.Steps.{Step}
use Rattle.mz_rules.specs.Frontiers.{is_at}
use Rattle.mz_rules.specs.Joining.{is_table}
use Rattle.mz_rules.specs.Moves.{come_to, kept_by, let_go}
use Rattle.mz_rules.specs.declared.capability.Collection.{Collection}
use Rattle.mz_rules.specs.declared.capability.CollectionKind.{CollectionKind}
use Rattle.mz_rules.specs.declared.capability.CollectionKind.TheVariants as kind
use Rattle.mz_log.specs.declared.entry.Entry.TheVariants.{Apply, Read, Instant, Absorbed}
use Rattle.mz_log.specs.Sequential.{Change, Made, Removed, Moved}
use Rattle.mz_log.specs.Log.{Log}
use Rattle.mz_books.specs.Clusters.{cluster_of}
use Rattle.mz_books.specs.States.{plan_at, query_plan, round_changes, scope_of}

-- ---- what a collection reads

-- the collection is that of an item of the catalog, and kept for its own sake. One of a read isn't, nor is one whose item was dropped
abbrev pub is_in_catalog : Collection → Bool
is_in_catalog c = is_at c.implied

-- the collection is in the catalog, and that of one of these items
abbrev pub is_leaf : List ℕ → Collection → Bool
is_leaf items c = is_in_catalog c && list_any (λ item. item == c.item) items

-- the collections that a plan reads: those of its leaves that are in the catalog
abbrev pub inputs_of : Plan → List Collection → List ℕ
inputs_of plan cs = map (λ c. c.number) (filter (is_leaf (leaves_of plan)) cs)

-- and what a new collection reads. A table reads none
abbrev pub inputs_for : CollectionKind → Plan → List Collection → List ℕ
inputs_for kind.Table plan cs = []
inputs_for other plan cs = inputs_of plan cs

-- the next collection behind these, which has contents from a time on
abbrev pub next_collection : List Collection → List ℕ → CollectionKind → ℕ → ℕ → Plan → ℕ → Frontier → Collection
next_collection cs name made item cluster plan time implied = record {
  number = length cs + 1;
  name = name;
  kind = made;
  item = item;
  cluster = cluster;
  plan = plan;
  inputs = inputs_for made plan cs;
  as_of = time;
  keep = Lag 1;
  implied = implied;
  upper = time;
}

-- ---- a round

-- the collections once a round at this time made an item: a table and an index have one, a view has none
abbrev pub with_item : ℕ → List Collection → Item → ItemKind → List Collection
with_item time cs made (item.Table columns) =
    cs ++ next_collection cs made.name kind.Table made.id made.cluster (plan.Table made.id) time (At time) ∷ []
with_item time cs made (item.Index on plan) =
    cs ++ next_collection cs made.name kind.Index made.id made.cluster plan time (At time) ∷ []
with_item time cs made (item.View columns query) = cs

-- the collection once the item of this number is dropped
abbrev pub without_item : ℕ → Collection → Collection
without_item item c = if c.item == item then let_go c else c

-- the collections after one change of a round
abbrev pub with_change : ℕ → List Collection → Change → List Collection
with_change time cs (Made item) = with_item time cs item item.kind
with_change time cs (Removed item) = map (without_item item) cs
with_change time cs (Moved table rows) = cs

-- and after all its changes, each of which sees those before it
abbrev pub with_changes : ℕ → List Collection → List Change → List Collection
with_changes time cs [] = cs
with_changes time cs (change ∷ changes) = with_changes time (with_change time cs change) changes

-- a table comes to each round, also one that was dropped
abbrev pub advanced : ℕ → Collection → Collection
advanced time c = if is_table c.kind then come_to (time + 1) c else c

-- ---- a read

-- the plan that a read has; where it doesn't resolve to one, the table of no item
abbrev pub plan_or_none : Step Plan → Plan
plan_or_none (Ok plan) = plan
plan_or_none (Err refusal) = plan.Table 0

-- what the collection of a peek is called
abbrev pub peek_name : ℕ → List ℕ
peek_name peek = codes "peek " ++ decimal peek

-- the collections with that of a read, where the number that it reads is the next one. It has the rows of the plan at one time, and
-- nothing is kept of it for its own sake
abbrev pub with_read : ℕ → ℕ → ℕ → Plan → ℕ → List Collection → List Collection
with_read collection peek cluster plan time cs =
    if collection == length cs + 1
    then cs ++ next_collection cs (peek_name peek) kind.Transient 0 cluster plan time Done ∷ []
    else cs

-- ---- packets and policies

-- the greatest frontier that is named for a collection, or 0
abbrev pub named_for : ℕ → List (ℕ × ℕ) → ℕ
named_for number [] = 0
named_for number (named ∷ others) = if named.0 == number then max named.1 (named_for number others) else named_for number others

-- the collection once a packet told how far it has come. It never goes back, and of tables a packet tells nothing
abbrev pub reported : List (ℕ × ℕ) → Collection → Collection
reported frontiers c = if is_table c.kind then c else come_to (max c.upper (named_for c.number frontiers)) c

-- the collection is in the catalog, and its item has this name
abbrev pub is_called : List ℕ → Collection → Bool
is_called name c = is_in_catalog c && bytes_eq c.name name

-- the collection once the table or index of this name has another policy
abbrev pub retained : List ℕ → Keep → Collection → Collection
retained name keep c = if is_called name c then kept_by keep c else c

-- ---- all collections

-- the table `kv`, the first collection
abbrev pub kv : Collection
kv = record {
  number = 1;
  name = codes "kv";
  kind = kind.Table;
  item = 1;
  cluster = 0;
  plan = plan.Table 1;
  inputs = [];
  as_of = 0;
  keep = Lag 1;
  implied = At 0;
  upper = 1;
}

-- all collections in order of creation, those that are done among them
abbrev pub collections : Log → List Collection
collections [] = kv ∷ []
collections (Apply time replies ∷ log) =
    map (advanced time) (with_changes time (collections log) (round_changes log replies))
collections (Read session call peek time statement collection ∷ log) =
    with_read collection peek (cluster_of log session) (plan_or_none (query_plan (scope_of log session) statement)) time
    (collections log)
collections (Absorbed replica incarnation turn taken ready frontiers ∷ log) = map (reported frontiers) (collections log)
collections (Instant session call (Retain name keep) time ∷ log) = map (retained name keep) (collections log)
collections (entry ∷ log) = collections log

-- ---- what they contain

-- the collection of this number, where there is one
abbrev pub numbered : ℕ → List Collection → Option Collection
numbered number cs = find (λ c. c.number == number) cs

-- what the collection of this number contains at a time, as its plan has it over all tables and indexes; nothing where there is no such
-- collection
abbrev pub contents_at : Log → ℕ → ℕ → Counts
contents_at log number time = option_map_or (λ c. plan_at log c.plan time) (numbered number (collections log)) empty
