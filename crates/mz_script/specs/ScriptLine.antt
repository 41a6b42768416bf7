-- The machine that the lines of a script go over, and what a line does to it.
use Rattle.std.specs.Prelude.{ℕ, List, [], ◌∷◌, ◌++◌}
use Rattle.mz_plan.specs.declared.command.Place.{Place}
use Rattle.mz_log.specs.Log.{Log}
use Rattle.mz_books.specs.Streams.{first_replica}

-- a feed: for which replica, for which place of it, and its front, the log that ends with it. A packet is told by the feed that its
-- replica took
pub record NumberedFeed : Type 0 where
  pub replica : List ℕ
  pub place : Place
  pub front : Log

-- a live replica: its name, its place, and its front, the log at the last feed that it took, or at its joining
pub record LiveReplica : Type 0 where
  pub name : List ℕ
  pub place : Place
  pub front : Log

-- a log, what the clock says, how many lines were read, the numbered feeds and packets in order, and the live replicas in order of
-- joining
pub record Machine : Type 0 where
  pub log : Log
  pub moment : ℕ
  pub lines : ℕ
  pub feeds : List NumberedFeed
  pub packets : List NumberedFeed
  pub replicas : List LiveReplica

-- where a replica stands that has just joined
abbrev pub fresh_place : ℕ → Place
fresh_place incarnation = record { incarnation = incarnation; turn = 0; taken = 0; ready = 0 }

-- nothing has happened, and the first replica is there
abbrev pub opening_machine : Machine
opening_machine = record {
  log = [];
  moment = 0;
  lines = 0;
  feeds = [];
  packets = [];
  replicas = record { name = first_replica; place = fresh_place 1; front = [] } ∷ [];
}

-- what a line does: the machine after it, and the text that it is answered with
pub record Said : Type 0 where
  pub machine : Machine
  pub text : List ℕ

-- the machine with another log
abbrev pub with_log : Machine → Log → Machine
with_log machine log = record machine { log = log }

-- nothing happens, and something is said
abbrev pub only_says : Machine → List ℕ → Said
only_says machine text = record { machine = machine; text = text }

-- something happens, and something is said
abbrev pub says : Machine → Log → List ℕ → Said
says machine log text = record { machine = with_log machine log; text = text }

-- first one thing and then another
abbrev pub and_then : Said → (Machine → Said) → Said
and_then first next = record { machine = (next first.machine).machine; text = first.text ++ (next first.machine).text }
