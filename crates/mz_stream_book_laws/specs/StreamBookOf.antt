-- The book of streams of a log: what a history of what replicas are told has of it.
use Rattle.std.specs.Prelude.{ℕ, List, [], ◌∷◌, filter, map, Option, None, Some}
use Rattle.std.specs.Option.{option_map_or}
use Rattle.mz_plan.specs.declared.command.Command.{Command}
use Rattle.mz_log.specs.declared.stream.Report.{Report}
use Rattle.mz_log.specs.declared.stream.Stream.{Stream}
use Rattle.mz_log.specs.Log.{Log}
use Rattle.mz_history.specs.StreamBook.{Joined, LiveStream, StreamBook, once_more, told_all, told_one}
use Rattle.mz_books.specs.GivenReplicas.{kept_taken}
use Rattle.mz_books.specs.Streams.{streams}

-- ---- the book of a log

-- a stream as a history keeps it. The lines that its replica has reported aren't asked for again
abbrev pub kept_stream : Stream → LiveStream
kept_stream s = record { replica = s.replica; incarnation = s.incarnation; commands = s.commands; kept = kept_taken s }

-- the same where there is a stream
abbrev pub kept_where : Option Stream → Option LiveStream
kept_where None = None
kept_where (Some s) = Some (kept_stream s)

-- the live ones of these streams, in order
abbrev pub live_ones : List Stream → List LiveStream
live_ones ss = map kept_stream (filter (λ s. s.live) ss)

-- how often each replica has joined, once those of these streams have joined too
abbrev pub joined_too : List Stream → List Joined → List Joined
joined_too [] js = js
joined_too (s ∷ ss) js = joined_too ss (once_more s.replica js)

-- the book of these streams, lost ones among them: the live ones, and how often each replica has joined
abbrev pub book_of : List Stream → StreamBook
book_of ss = record { live = live_ones ss; joined = joined_too ss [] }

-- the book of the streams of a log
abbrev pub stream_book : Log → StreamBook
stream_book log = book_of (streams log)

-- ---- several lines

-- each stream with these further lines, one after another
abbrev pub told_all_each : List Command → StreamBook → StreamBook
told_all_each [] b = b
told_all_each (line ∷ lines) b = told_all_each lines (told_all line b)

-- the stream of this replica with these further lines, one after another
abbrev pub told_one_each : List ℕ → List Command → StreamBook → StreamBook
told_one_each replica [] b = b
told_one_each replica (line ∷ lines) b = told_one_each replica lines (told_one replica line b)

-- the streams of these replicas, one after another, with the further lines that a function gives of each replica
abbrev pub told_in_turn : (List ℕ → List Command) → List (List ℕ) → StreamBook → StreamBook
told_in_turn lines [] b = b
told_in_turn lines (replica ∷ replicas) b = told_in_turn lines replicas (told_one_each replica (lines replica) b)

-- the replicas that are live, in order of joining
abbrev pub live_replicas : StreamBook → List (List ℕ)
live_replicas b = map (λ s. s.replica) b.live

-- how many lines the report that counts says were taken, once a new one has come
abbrev pub taken_by : Option Report → ℕ
taken_by report = option_map_or (λ report. report.taken) report 0
