-- How the code keeps streams, and how often replicas have joined.
use Rattle.std.specs.Prelude.{◌≡◌, ◌≢◌, ℕ, zero, suc, ◌-◌, ◌≤◌, ◌+◌, List, [], ◌∷◌, length, map, take, ⊤}
use Rattle.std.specs.List.{AllByRecursion as Each}
use Rattle.std.specs.BTreeMap.{BTreeMap, get}
use Rattle.std.specs.Ordering.{nat_cmp}
use Rattle.mz_time.specs.declared.frontier.Frontier.{Frontier}
use Rattle.mz_plan.specs.declared.command.Command.{Command}
use Rattle.mz_rules.specs.Streams.{told_where_named}
use Rattle.mz_marked.specs.Twice.{Twice}
use Rattle.mz_history.specs.StreamBook.{LiveStream, Joined, with_line, trimmed_to}

-- ---- one value with its mark

-- it was marked as it is
abbrev pub marked_now : {A : Type 0} → Twice A → Twice A
marked_now t = record { present = t.present; marked = t.present }

-- it is as it was marked
abbrev pub taken_back : {A : Type 0} → Twice A → Twice A
taken_back t = record { present = t.marked; marked = t.marked }

-- values as they are
abbrev pub presents : {A : Type 0} → List (Twice A) → List A
presents ts = map (λ t. t.present) ts

-- values as they were marked
abbrev pub markeds : {A : Type 0} → List (Twice A) → List A
markeds ts = map (λ t. t.marked) ts

-- the first so many changed
abbrev pub mapped_to : {A : Type 0} → ℕ → (A → A) → List A → List A
mapped_to zero f xs = xs
mapped_to (suc n) f [] = []
mapped_to (suc n) f (x ∷ xs) = f x ∷ mapped_to n f xs

-- all but the first so many changed
abbrev pub mapped_from : {A : Type 0} → ℕ → (A → A) → List A → List A
mapped_from zero f xs = map f xs
mapped_from (suc n) f [] = []
mapped_from (suc n) f (x ∷ xs) = x ∷ mapped_from n f xs

-- ---- one stream

-- what the lines name of each collection is found
pub record AreFound (told : BTreeMap ℕ Frontier) (lines : List Command) : Type 0 where
  pub each : (number : ℕ) → get nat_cmp told number ≡ told_where_named number lines

-- what holds of a stream: its mark is within its lines, and what these name is found
pub record IsKept (lines : List Command) (mark : ℕ) (told : BTreeMap ℕ Frontier) : Type 0 where
  pub within : mark ≤ length lines
  pub found : AreFound told lines

-- no more lines of the stream are marked than there are
abbrev pub IsWithin : Twice LiveStream → Type 0
IsWithin t = length t.marked.commands ≤ length t.present.commands

-- a stream that begins, of which no line is marked
abbrev pub begun : List ℕ → ℕ → List Command → Twice LiveStream
begun replica incarnation lines = record {
  present = record { replica = replica; incarnation = incarnation; commands = lines; kept = 0 };
  marked = record { replica = replica; incarnation = incarnation; commands = []; kept = 0 };
}

-- the stream with a line more. What is marked of it stays
abbrev pub told_line : Command → Twice LiveStream → Twice LiveStream
told_line line t = record { present = with_line line t.present; marked = t.marked }

-- the lines but the last
abbrev pub but_last : List Command → List Command
but_last lines = take (length lines - 1) lines

-- the stream without its last line. What is marked of it stays
abbrev pub without_last : Twice LiveStream → Twice LiveStream
without_last t = record { present = record t.present { commands = but_last t.present.commands }; marked = t.marked }

-- the stream, of which so many lines aren't asked for again
abbrev pub trimmed_both : ℕ → Twice LiveStream → Twice LiveStream
trimmed_both taken t = record { present = trimmed_to taken t.present; marked = trimmed_to taken t.marked }

-- ---- all streams

-- no two streams are of one replica
abbrev pub AreApart : List LiveStream → Type 0
AreApart [] = ⊤
AreApart (s ∷ ss) = Each (λ other. other.replica ≢ s.replica) ss × AreApart ss

-- what holds of a history: the marks are within, and no two streams are of one replica, also at the mark
pub record AreMarked (streams : List (Twice LiveStream)) (joinings : List (Twice Joined)) (mark joined_mark : ℕ) : Type 0 where
  pub within : mark ≤ length streams
  pub joined_within : joined_mark ≤ length joinings
  pub apart : AreApart (presents streams)
  pub apart_then : AreApart (markeds (take mark streams))

-- ---- one replica

-- it has joined once, and never at the mark
abbrev pub joined_first : List ℕ → Twice Joined
joined_first replica = record { present = record { replica = replica; times = 1 }; marked = record { replica = replica; times = 0 } }

-- it has joined once more. What is marked of it stays
abbrev pub joined_again : Twice Joined → Twice Joined
joined_again t = record { present = record t.present { times = t.present.times + 1 }; marked = t.marked }
