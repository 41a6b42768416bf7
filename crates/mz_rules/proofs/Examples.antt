-- The definitions on small values, by computation.
use Rattle.std.proofs.Common.{◌≡◌, ℕ, ◌+◌, List, [], ◌∷◌, map, None, Some, refl}
use Rattle.mz_time.specs.declared.frontier.Frontier.{Frontier}
use Rattle.mz_time.specs.declared.frontier.Frontier.TheVariants.{At, Done}
use Rattle.mz_statement.specs.declared.statement.Keep.TheVariants.{Lag, From, Stay}
use Rattle.mz_plan.specs.declared.command.Command.{Command}
use Rattle.mz_plan.specs.declared.command.Command.TheVariants.{Create, Allow, Peek, Retire}
use Rattle.mz_plan.specs.declared.command.PendingPeek.{PendingPeek}
use Rattle.mz_plan.specs.declared.plan.Plan.{Plan}
use Rattle.mz_plan.specs.declared.plan.Plan.TheVariants as node
use Rattle.mz_rules.specs.declared.capability.Collection.{Collection}
use Rattle.mz_rules.specs.declared.capability.CollectionKind.{CollectionKind}
use Rattle.mz_rules.specs.declared.capability.CollectionKind.TheVariants as kind
use Rattle.mz_rules.specs.declared.capability.Hold.{Hold}
use Rattle.mz_rules.specs.Capabilities.{capabilities}
use Rattle.mz_rules.specs.Joining.{allowances, creations, joining}
use Rattle.mz_rules.specs.Moves.{come_to, kept_by, let_go}
use Rattle.mz_rules.specs.Policy.{capability, raised}
use Rattle.mz_rules.specs.Since.{settle, since_of}
use Rattle.mz_rules.specs.Reduced.{reduced}
use Rattle.mz_rules.specs.Streams.{told, told_where_named}

-- ---- policies

-- a lag of 3 at the read times 2 and 5: a table has come one time further than the read time
lag_at_two : capability (Lag 3) (2 + 1) 0 ≡ 0
lag_at_two = refl

-- the second is above 0
lag_at_five : capability (Lag 3) (5 + 1) 0 ≡ 3
lag_at_five = refl

-- what was let go isn't kept again
lag_comes_late : raised (Lag 3) (5 + 1) (At 4) ≡ At 4
lag_comes_late = refl

-- a time that isn't readable yet is kept no earlier than the newest one
from_later : capability (From 9) 5 2 ≡ 4
from_later = refl

-- and nothing where nothing is readable
from_nothing : capability (From 9) 0 2 ≡ 0
from_nothing = refl

-- what stays is what was kept
stay_there : raised Stay 8 (At 3) ≡ At 3
stay_there = refl

-- ---- three collections, each over the one before

-- a collection of cluster 0 with the number, kind, item, plan, inputs, as-of, implied capability and upper
abbrev made : ℕ → CollectionKind → ℕ → Plan → List ℕ → ℕ → Frontier → ℕ → Collection
made number kind item plan inputs as_of implied upper = record {
  number = number;
  name = [];
  kind = kind;
  item = item;
  cluster = 0;
  plan = plan;
  inputs = inputs;
  as_of = as_of;
  keep = Lag 1;
  implied = implied;
  upper = upper;
}

-- the table `kv`, an index on it, and a read of the index that makes a collection of its own
abbrev kv : Collection
kv = made 1 kind.Table 1 (node.Table 1) [] 0 (At 9) 10

-- the index, with an implied capability
abbrev index : Frontier → Collection
index implied = made 2 kind.Index 4 (node.Table 1) (1 ∷ []) 3 implied 8

-- the collection of the read
abbrev transient : Collection
transient = made 3 kind.Transient 0 (node.Index 4) (2 ∷ []) 4 Done 4

-- a hold on the table at 5, one on the index at 6, and a peek at 4
abbrev table_hold : Hold
table_hold = record { number = 1; collection = 1; time = 5; owner = None }

-- the second hold
abbrev index_hold : Hold
index_hold = record { number = 2; collection = 2; time = 6; owner = Some 1 }

-- the peek
abbrev peek : PendingPeek
peek = record { peek = 1; session = 1; call = 1; collection = 3; time = 4 }

-- the sinces of the three
abbrev sinces : List Hold → List PendingPeek → Frontier → List Frontier
sinces holds peeks implied =
    let ss = settle (capabilities holds peeks) (kv ∷ index implied ∷ transient ∷ []) in since_of 1 ss ∷ since_of 2 ss ∷ since_of 3 ss ∷ []

-- the peek holds all that it stands on
all_held : sinces (table_hold ∷ index_hold ∷ []) (peek ∷ []) (At 7) ≡ At 4 ∷ At 4 ∷ At 4 ∷ []
all_held = refl

-- once it is answered, its collection is done, and each hold stands for itself
peek_done : sinces (table_hold ∷ index_hold ∷ []) [] (At 7) ≡ At 5 ∷ At 6 ∷ Done ∷ []
peek_done = refl

-- a table is held back by the index on it
table_released : sinces (index_hold ∷ []) [] (At 7) ≡ At 6 ∷ At 6 ∷ Done ∷ []
table_released = refl

-- an index that is dropped is still held, and so is what it reads
dropped_held : sinces (index_hold ∷ []) [] Done ≡ At 6 ∷ At 6 ∷ Done ∷ []
dropped_held = refl

-- without the hold it is done, and the table is kept for its own sake alone
all_released : sinces [] [] Done ≡ At 9 ∷ Done ∷ Done ∷ []
all_released = refl

-- what isn't made yet may be read at each time
unmade : since_of 4 (settle [] (kv ∷ [])) ≡ At 0
unmade = refl

-- ---- what becomes of a collection

-- with its lag of 1 the index keeps the newest readable time, and never less than before
comes : map (λ upper. (come_to upper (index (At 7))).implied) (12 ∷ 8 ∷ 3 ∷ []) ≡ At 11 ∷ At 7 ∷ At 7 ∷ []
comes = refl

-- a fixed time that has gone by is kept no more
kept_late : (kept_by (From 2) (index (At 7))).implied ≡ At 7
kept_late = refl

-- what was let go comes back under no policy
goes : (come_to 12 (kept_by Stay (let_go (index (At 7))))).implied ≡ Done
goes = refl

-- ---- streams

-- the first lines of a joining replica: no table, and plans that name collections
joins : joining 0 (settle (capabilities (index_hold ∷ []) (peek ∷ [])) (kv ∷ index (At 7) ∷ transient ∷ [])) (peek ∷ [])
    ≡ Create 2 (node.Table 1) 4 ∷ Create 3 (node.Index 2) 4 ∷ Peek 1 3 4 ∷ []
joins = refl

-- no replica of another cluster is told of them
joins_elsewhere : joining 1 (settle (capabilities [] (peek ∷ [])) (kv ∷ index (At 7) ∷ transient ∷ [])) (peek ∷ []) ≡ []
joins_elsewhere = refl

-- what is done isn't made again
joins_undone : joining 0 (settle [] (kv ∷ index (At 7) ∷ transient ∷ [])) [] ≡ Create 2 (node.Table 1) 7 ∷ []
joins_undone = refl

-- a later creation is as of the collection's as-of
creates : creations ((1, 1) ∷ (4, 2) ∷ []) 0 (kv ∷ index (At 7) ∷ []) ≡ Create 2 (node.Table 1) 3 ∷ []
creates = refl

-- two collections, a peek on each; the second peek ends, and its collection is dropped
abbrev lines : List Command
lines =
    Create 2 (node.Table 1) 3 ∷ Create 3 (node.Index 2) 4 ∷ Peek 1 2 4 ∷ Peek 2 3 4 ∷ Allow 2 (At 4) ∷ Retire 2 ∷ Allow 3 Done ∷ []

-- the dropped collection and the ended peek are gone, and the other is made as of the greatest frontier
reduces : reduced lines ≡ Create 2 (node.Table 1) 4 ∷ Peek 1 2 4 ∷ []
reduces = refl

-- with the peek ended, the collection alone is left
one_left : reduced (Create 2 (node.Table 1) 1 ∷ Peek 1 2 1 ∷ Retire 1 ∷ Allow 2 (At 5) ∷ []) ≡ Create 2 (node.Table 1) 5 ∷ []
one_left = refl

-- what they tell: the greatest, all that may go, and nothing
tells : told 2 lines ∷ told 3 lines ∷ told 7 lines ∷ [] ≡ At 4 ∷ Done ∷ At 0 ∷ []
tells = refl

-- a frontier that is named is told, though it be time 0
tells_none : told_where_named 7 lines ∷ told_where_named 2 (Allow 2 (At 0) ∷ []) ∷ [] ≡ None ∷ Some (At 0) ∷ []
tells_none = refl

-- a feed allows what the stream wasn't told, the newest first, and nothing twice
feeds : allowances (settle (capabilities (index_hold ∷ []) []) (kv ∷ index (At 7) ∷ transient ∷ []))
    (Create 2 (node.Table 1) 3 ∷ Create 3 (node.Index 2) 4 ∷ []) ≡ Allow 3 Done ∷ Allow 2 (At 6) ∷ []
feeds = refl

-- told once
feeds_once : allowances (settle (capabilities (index_hold ∷ []) []) (kv ∷ index (At 7) ∷ transient ∷ []))
    (Create 2 (node.Table 1) 3 ∷ Create 3 (node.Index 2) 4 ∷ Allow 3 Done ∷ Allow 2 (At 6) ∷ []) ≡ []
feeds_once = refl
