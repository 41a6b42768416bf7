-- What a line of a script says, by its bytes.
use Rattle.std.specs.Prelude.{ℕ, ◌+◌, ◌-◌, ◌==◌, ◌||◌, List, [], ◌∷◌, Bool, Option, None, Some, bytes_eq, codes, drop, length, nat_eq, nat_lt, not, position, take, take_while, unwrap_or, if◌then◌else◌}
use Rattle.std.specs.List.{starts_with}
use Rattle.std.specs.Str.{is_utf8}
use Rattle.mz_sql.specs.Asked.{asked}
use Rattle.mz_script.specs.declared.script_line.ScriptLine.{ScriptLine}
use Rattle.mz_script.specs.declared.script_line.ScriptLine.TheVariants.{Skipped, Unreadable, Says, Tick, BeginRound, FinishRound, CommitRound, Settle, AddReplica, CrashReplica, RejoinReplica, MakeFeed, TakeFeed, AbsorbPacket, TakeHold, MoveHold, GiveBack, CancelCall, CloseSession}
use Rattle.mz_script.specs.Words.{has_space_at_end, is_script_name, number_of, words_of}

-- ---- lines of words

-- what a word says that is to be a number, where it is one
abbrev pub of_number : (ℕ → ScriptLine) → Option ℕ → ScriptLine
of_number says None = Unreadable
of_number says (Some number) = says number

-- the cluster to which a replica is added, since none can be named yet
abbrev pub main_cluster : List ℕ
main_cluster = codes "main"

-- what a word says that stands alone
abbrev pub one_says : List ℕ → ScriptLine
one_says word =
    if bytes_eq word (codes "begin") then BeginRound
    else if bytes_eq word (codes "finish") then FinishRound
    else if bytes_eq word (codes "commit") then CommitRound
    else if bytes_eq word (codes "settle") then Settle
    else Unreadable

-- what a word says with a name behind it
abbrev pub named_says : List ℕ → List ℕ → ScriptLine
named_says word name =
    if bytes_eq word (codes "replica") then AddReplica name main_cluster
    else if bytes_eq word (codes "crash") then CrashReplica name
    else if bytes_eq word (codes "rejoin") then RejoinReplica name
    else if bytes_eq word (codes "feed") then MakeFeed name None
    else if bytes_eq word (codes "cancel") then CancelCall name
    else if bytes_eq word (codes "close") then CloseSession name
    else Unreadable

-- what a word says with a number behind it
abbrev pub numbered_says : List ℕ → ℕ → ScriptLine
numbered_says word number =
    if bytes_eq word (codes "tick") then Tick number
    else if bytes_eq word (codes "take") then TakeFeed number
    else if bytes_eq word (codes "absorb") then AbsorbPacket number
    else if bytes_eq word (codes "release") then GiveBack number
    else Unreadable

-- what a word says with a name and a number behind it
abbrev pub named_numbered_says : List ℕ → List ℕ → ℕ → ScriptLine
named_numbered_says word name number =
    if bytes_eq word (codes "feed") then MakeFeed name (Some number)
    else if bytes_eq word (codes "hold") then TakeHold name number
    else Unreadable

-- what a word says with two numbers behind it
abbrev pub twice_numbered_says : List ℕ → ℕ → ℕ → ScriptLine
twice_numbered_says word number last =
    if bytes_eq word (codes "downgrade") then MoveHold number last else Unreadable

-- what a word says with another behind it, which is to be a name or a number; none is both
abbrev pub two_say : List ℕ → List ℕ → ScriptLine
two_say word other =
    if is_script_name other then named_says word other else of_number (numbered_says word) (number_of other)

-- what a word says with another and a number behind it
abbrev pub three_say : List ℕ → List ℕ → ℕ → ScriptLine
three_say word other last =
    if is_script_name other
    then named_numbered_says word other last
    else of_number (λ number. twice_numbered_says word number last) (number_of other)

-- what the words of a line say
abbrev pub words_say : List (List ℕ) → ScriptLine
words_say (word ∷ []) = one_says word
words_say (word ∷ other ∷ []) = two_say word other
words_say (word ∷ other ∷ last ∷ []) = of_number (three_say word other) (number_of last)
words_say words = Unreadable

-- what a text says that is no session line: its words, where no space stands at an end
abbrev pub words_line_says : List ℕ → ScriptLine
words_line_says text = if has_space_at_end text then Unreadable else words_say (words_of text)

-- ---- session lines

-- the text without its leading spaces
abbrev pub after_spaces : List ℕ → List ℕ
after_spaces text = drop (length (take_while (λ byte. byte == 32) text)) text

-- the session of this name says a text
abbrev pub saying : List ℕ → List ℕ → ScriptLine
saying name text = Says name text (asked text)

-- what a text says that has its first colon at this place, if it has one: a session line has a name before it
abbrev pub colon_says : List ℕ → Option ℕ → ScriptLine
colon_says text None = words_line_says text
colon_says text (Some colon) =
    if is_script_name (take colon text) then saying (take colon text) (after_spaces (drop (colon + 1) text))
    else words_line_says text

-- ---- all lines

-- an empty text, and one that begins with `--`, is skipped
abbrev pub is_skipped : List ℕ → Bool
is_skipped text = bytes_eq text [] || starts_with nat_eq text (codes "--")

-- what the text of a line says
abbrev pub text_says : List ℕ → ScriptLine
text_says text = if is_skipped text then Skipped else colon_says text (position (λ byte. byte == 58) text)

-- the most bytes that a line may have, its LF not counted
abbrev pub longest_line : ℕ
longest_line = 65536

-- what precedes the suffix, where the text ends with it
abbrev pub before_suffix : List ℕ → List ℕ → Option (List ℕ)
before_suffix suffix text =
    if bytes_eq (drop (length text - length suffix) text) suffix
    then Some (take (length text - length suffix) text)
    else None

-- the line without the CR at its end, if it has one
abbrev pub without_return : List ℕ → List ℕ
without_return line = unwrap_or (before_suffix (13 ∷ []) line) line

-- what a line says, its LF taken away. One that is too long or isn't UTF-8 can't be read, however it begins
abbrev pub line_says : List ℕ → ScriptLine
line_says line =
    if nat_lt longest_line (length line) || not (is_utf8 (without_return line))
    then Unreadable
    else text_says (without_return line)
