-- What a replica stands for: how what it keeps hangs together with its front, the log at the last feed that it took.
use Rattle.std.specs.Prelude.{◌≡◌, ℕ, ◌+◌, ◌-◌, ◌<◌, ◌≤◌, ◌⊎◌, min, List, [], ◌∷◌, ◌++◌, true, Some, find, map, if◌then◌else◌}
use Rattle.std.specs.List.{AllByRecursion as Each}
use Rattle.mz_time.specs.Frontier.{Le}
use Rattle.mz_time.specs.declared.frontier.Frontier.{Frontier}
use Rattle.mz_time.specs.declared.frontier.Frontier.TheVariants.{At, Done}
use Rattle.mz_bag.specs.Weighted.{bag_of}
use Rattle.mz_plan.specs.Leaves.{leaves_of}
use Rattle.mz_plan.specs.declared.command.Command.{Command}
use Rattle.mz_plan.specs.declared.command.Command.TheVariants.{Create, Peek}
use Rattle.mz_plan.specs.declared.command.Place.{Place}
use Rattle.mz_plan.specs.declared.plan.Plan.{Plan}
use Rattle.mz_rules.specs.Streams.{is_retired, told}
use Rattle.mz_updates.specs.Contents.{contents, IsBefore}
use Rattle.mz_updates.specs.declared.update.Update.{Update}
use Rattle.mz_log.specs.declared.entry.Entry.TheVariants.{Fed, Join}
use Rattle.mz_log.specs.declared.stream.Stream.{Stream}
use Rattle.mz_log.specs.Log.{Log}
use Rattle.mz_books.specs.Rounds.{read_time}
use Rattle.mz_books.specs.Collections.{contents_at}
use Rattle.mz_books.specs.Since.{since}
use Rattle.mz_books.specs.Streams.{is_stream, stream_of, streams}
use Rattle.mz_books.specs.Legal.{Legal}
use Rattle.mz_books.specs.Packets.{open_tables}

-- ---- what a stream leaves

-- a collection that lines make and don't drop: its number, its plan over collections, the time as of which it is made, and how much of it
-- may be forgotten
pub record Flow : Type 0 where
  pub number : ℕ
  pub plan : Plan
  pub as_of : ℕ
  pub allowance : ℕ

-- the collection before others, where what the lines tell of it is a time
abbrev pub flow_before : ℕ → Plan → ℕ → Frontier → List Flow → List Flow
flow_before number plan as_of Done flows = flows
flow_before number plan as_of (At time) flows = record { number = number; plan = plan; as_of = as_of; allowance = time } ∷ flows

-- the collections that the lines make and that all of them together don't drop, in order
abbrev pub flows_in : List Command → List Command → List Flow
flows_in all [] = []
flows_in all (Create number plan as_of ∷ lines) = flow_before number plan as_of (told number all) (flows_in all lines)
flows_in all (line ∷ lines) = flows_in all lines

-- the collections that lines leave
abbrev pub flows_of : List Command → List Flow
flows_of lines = flows_in lines lines

-- a peek that lines ask for and don't end
pub record OpenPeek : Type 0 where
  pub peek : ℕ
  pub collection : ℕ
  pub time : ℕ

-- the peeks that the lines ask for and that all of them together don't end, in order
abbrev pub open_in : List Command → List Command → List OpenPeek
open_in all [] = []
open_in all (Peek peek collection time ∷ lines) =
    if is_retired peek all then open_in all lines
    else record { peek = peek; collection = collection; time = time } ∷ open_in all lines
open_in all (line ∷ lines) = open_in all lines

-- the peeks that lines leave
abbrev pub open_peeks : List Command → List OpenPeek
open_peeks lines = open_in lines lines

-- ---- what a replica keeps

-- a dataflow: its collection, and for each leaf of its plan the updates that it was offered of it. Nothing is kept of these but what
-- operators need
pub record Dataflow : Type 0 where
  pub flow : Flow
  pub offered : ℕ → List Update

-- a replica: its name, its place, its dataflows in order, the peeks that it was asked for, and of each collection the updates that it has,
-- of a table its copy and of a dataflow its output
pub record Keeping : Type 0 where
  pub name : List ℕ
  pub place : Place
  pub dataflows : List Dataflow
  pub peeks : List OpenPeek
  pub has : ℕ → List Update

-- ---- what it stands for

-- the updates are good for a collection from a frontier on: none is at or after the time that the replica is ready for, and at each time
-- from the frontier on they contain what the collection does, or what it does at the last time before the one that it is ready for
pub record IsGood (front : Log) (from : Frontier) (ready number : ℕ) (us : List Update) : Type 0 where
  pub before : IsBefore ready us
  pub good : (t : ℕ) → Le from (At t) → bag_of (contents t us) ≡ contents_at front number (min t (ready - 1))

-- a dataflow has begun: each leaf that it was offered is good from its since on, and so is its output
pub record HasBegun (front : Log) (ready : ℕ) (has : ℕ → List Update) (dataflow : Dataflow) : Type 0 where
  pub leaves : Each (λ leaf. IsGood front (since front dataflow.flow.number) ready leaf (dataflow.offered leaf))
      (leaves_of dataflow.flow.plan)
  pub output : IsGood front (since front dataflow.flow.number) ready dataflow.flow.number (has dataflow.flow.number)

-- a dataflow is right: one whose as-of is below the time that the replica is ready for has begun, any other was offered nothing
pub record IsRight (front : Log) (ready : ℕ) (has : ℕ → List Update) (dataflow : Dataflow) : Type 0 where
  pub begun : dataflow.flow.as_of < ready → HasBegun front ready has dataflow
  pub idle : ready ≤ dataflow.flow.as_of → (leaf : ℕ) → dataflow.offered leaf ≡ []

-- the log ends with the joining of the incarnation; of the one of the opening it is empty
abbrev pub EndsJoined : Log → List ℕ → ℕ → Type 0
EndsJoined front replica incarnation =
    (front ≡ []) ⊎ ((before : Log) × (cluster : ℕ) × (front ≡ Join replica incarnation cluster ∷ before))

-- a replica is fresh: it keeps nothing, and its front ends with its joining
pub record IsFresh (front : Log) (replica : Keeping) : Type 0 where
  pub no_turn : replica.place.turn ≡ 0
  pub none_taken : replica.place.taken ≡ 0
  pub none_ready : replica.place.ready ≡ 0
  pub no_dataflow : replica.dataflows ≡ []
  pub no_peek : replica.peeks ≡ []
  pub no_copy : (number : ℕ) → replica.has number ≡ []
  pub joined : EndsJoined front replica.name replica.place.incarnation

-- a replica is at work: its front ends with a feed for it, and it keeps what its stream there leaves, each table that isn't done, good
-- from its since on, and each dataflow, right. The feed may be one that goes less far than the replica has come
pub record IsAtWork (front : Log) (replica : Keeping) : Type 0 where
  pub before : Log
  pub to : ℕ
  pub ends : front ≡ Fed replica.name replica.place.incarnation replica.place.taken to ∷ before
  pub past : to < replica.place.ready
  pub readable : replica.place.ready ≤ read_time front + 1
  pub own_flows : map (λ dataflow. dataflow.flow) replica.dataflows ≡ flows_of (stream_of front replica.name replica.place.incarnation)
  pub own_peeks : replica.peeks ≡ open_peeks (stream_of front replica.name replica.place.incarnation)
  pub tables : Each (λ number. IsGood front (since front number) replica.place.ready number (replica.has number)) (open_tables front)
  pub right : Each (IsRight front replica.place.ready replica.has) replica.dataflows

-- the incarnation is live
pub record IsAlive (log : Log) (replica : List ℕ) (incarnation : ℕ) : Type 0 where
  pub own : Stream
  pub is_own : find (is_stream replica incarnation) (streams log) ≡ Some own
  pub live : own.live ≡ true

-- a replica stands for its front: that is legal, its incarnation is live there, and it is fresh or at work
pub record StandsFor (front : Log) (replica : Keeping) : Type 0 where
  pub legal : Legal front
  pub alive : IsAlive front replica.name replica.place.incarnation
  pub is : IsFresh front replica ⊎ IsAtWork front replica

-- of two logs one goes on from the other
pub data AreComparable (one other : Log) : Type 0 where
  GoesOn : (more : Log) → one ≡ more ++ other → AreComparable one other
  IsEarlier : (more : Log) → other ≡ more ++ one → AreComparable one other

-- the longer of the two
abbrev pub longer_of : (one other : Log) → AreComparable one other → Log
longer_of one other (GoesOn more is) = one
longer_of one other (IsEarlier more is) = other
