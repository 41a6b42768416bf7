-- The book of streams, and what each call makes of it.
use Rattle.std.specs.Prelude.{ℕ, ◌+◌, Bool, List, [], ◌∷◌, ◌++◌, bytes_eq, filter, find, map, not, Option, None, Some, if◌then◌else◌}
use Rattle.mz_plan.specs.declared.command.Command.{Command}

-- a live stream: which incarnation of which replica it is of, all its lines from the joining on, and how many of them aren't asked for
-- again
pub record LiveStream : Type 0 where
  pub replica : List ℕ
  pub incarnation : ℕ
  pub commands : List Command
  pub kept : ℕ

-- how often a replica has joined
pub record Joined : Type 0 where
  pub replica : List ℕ
  pub times : ℕ

-- the live streams in order of joining, and how often each replica has joined, in order of first joining
pub record StreamBook : Type 0 where
  pub live : List LiveStream
  pub joined : List Joined

-- no replica has joined
abbrev pub no_streams : StreamBook
no_streams = record { live = []; joined = [] }

-- ---- what is read off it

-- the stream is of this replica
abbrev pub is_of : List ℕ → LiveStream → Bool
is_of replica s = bytes_eq s.replica replica

-- the live stream of this replica, where it has one
abbrev pub stream_of : List ℕ → List LiveStream → Option LiveStream
stream_of replica ss = find (is_of replica) ss

-- the lines of a stream, none where there is no stream
abbrev pub lines_of : Option LiveStream → List Command
lines_of None = []
lines_of (Some s) = s.commands

-- how many lines of a stream aren't asked for again, none where there is no stream
abbrev pub kept_of : Option LiveStream → ℕ
kept_of None = 0
kept_of (Some s) = s.kept

-- how often this replica has joined
abbrev pub times_of : List ℕ → List Joined → ℕ
times_of replica [] = 0
times_of replica (j ∷ js) = if bytes_eq j.replica replica then j.times else times_of replica js

-- ---- joining and leaving

-- this replica has joined once more
abbrev pub once_more : List ℕ → List Joined → List Joined
once_more replica [] = record { replica = replica; times = 1 } ∷ []
once_more replica (j ∷ js) = if bytes_eq j.replica replica then record j { times = j.times + 1 } ∷ js else j ∷ once_more replica js

-- a stream more, that of the next incarnation of this replica, with its first lines
abbrev pub with_joining : List ℕ → List Command → StreamBook → StreamBook
with_joining replica lines b = record {
  live = b.live ++ record { replica = replica; incarnation = times_of replica b.joined + 1; commands = lines; kept = 0 } ∷ [];
  joined = once_more replica b.joined;
}

-- without the stream of this replica. How often the replica has joined stays
abbrev pub without_stream : List ℕ → StreamBook → StreamBook
without_stream replica b = record b { live = filter (λ s. not (is_of replica s)) b.live }

-- ---- further lines

-- the stream with a line more
abbrev pub with_line : Command → LiveStream → LiveStream
with_line line s = record s { commands = s.commands ++ line ∷ [] }

-- a change of a stream where it is of this replica
abbrev pub changed_of : List ℕ → (LiveStream → LiveStream) → LiveStream → LiveStream
changed_of replica change s = if is_of replica s then change s else s

-- each stream with a line more
abbrev pub told_all : Command → StreamBook → StreamBook
told_all line b = record b { live = map (with_line line) b.live }

-- the stream of this replica with a line more
abbrev pub told_one : List ℕ → Command → StreamBook → StreamBook
told_one replica line b = record b { live = map (changed_of replica (with_line line)) b.live }

-- the stream, of which so many lines aren't asked for again
abbrev pub trimmed_to : ℕ → LiveStream → LiveStream
trimmed_to taken s = record s { kept = taken }

-- so many lines of the stream of this replica aren't asked for again
abbrev pub trimmed : List ℕ → ℕ → StreamBook → StreamBook
trimmed replica taken b = record b { live = map (changed_of replica (trimmed_to taken)) b.live }
