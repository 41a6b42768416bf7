-- Lines that are read from bytes are honest.
use Rattle.std.specs.Prelude.{⊤, bytes_eq, codes}
use Rattle.std.proofs.Common.{ℕ, ◌+◌, ◌==◌, ◌||◌, Bool, true, false, cond, List, [], ◌∷◌, Option, None, Some, drop, length, map, nat_lt, not, position, take}
use Rattle.std.specs.Str.{is_utf8}
use Rattle.mz_rules.proofs.Each.{each_all, each_map}
use Rattle.mz_sql.proofs.AskedLemmas.{each_text_asks}
use Rattle.mz_books.specs.Safe.{Good}
use Rattle.mz_script.specs.Built.{after_built_lines}
use Rattle.mz_script.specs.Lines.{after_spaces, colon_says, is_skipped, line_says, longest_line, main_cluster, named_numbered_says, named_says, numbered_says, of_number, one_says, saying, text_says, three_say, twice_numbered_says, two_say, without_return, words_line_says, words_say}
use Rattle.mz_script.specs.ScriptLine.{opening_machine}
use Rattle.mz_script.specs.Words.{has_space_at_end, is_script_name, number_of, words_of}
use Rattle.mz_script.specs.declared.script_line.ScriptLine.{ScriptLine}
use Rattle.mz_script.specs.declared.script_line.ScriptLine.TheVariants.{Skipped, Unreadable, Tick, BeginRound, FinishRound, CommitRound, Settle, AddReplica, CrashReplica, RejoinReplica, MakeFeed, TakeFeed, AbsorbPacket, TakeHold, MoveHold, GiveBack, CancelCall, CloseSession}
use Rattle.mz_script_laws.specs.Rest.{IsHonest}
use Rattle.mz_script_laws.proofs.BuiltLines.{script_good}

-- either of two honest lines is
either : (b : Bool) (one other : ScriptLine) → IsHonest one → IsHonest other → IsHonest (cond b one other)
either true one other p q = p
either false one other p q = q

-- ---- lines of words

one_honest : (word : List ℕ) → IsHonest (one_says word)
one_honest word =
    either (bytes_eq word (codes "begin")) BeginRound _ tt
    (either (bytes_eq word (codes "finish")) FinishRound _ tt
    (either (bytes_eq word (codes "commit")) CommitRound _ tt (either (bytes_eq word (codes "settle")) Settle Unreadable tt tt)))

named_honest : (word name : List ℕ) → IsHonest (named_says word name)
named_honest word name =
    either (bytes_eq word (codes "replica")) (AddReplica name main_cluster) _ tt
    (either (bytes_eq word (codes "crash")) (CrashReplica name) _ tt
    (either (bytes_eq word (codes "rejoin")) (RejoinReplica name) _ tt
    (either (bytes_eq word (codes "feed")) (MakeFeed name None) _ tt
    (either (bytes_eq word (codes "cancel")) (CancelCall name) _ tt
    (either (bytes_eq word (codes "close")) (CloseSession name) Unreadable tt tt)))))

numbered_honest : (word : List ℕ) (number : ℕ) → IsHonest (numbered_says word number)
numbered_honest word number =
    either (bytes_eq word (codes "tick")) (Tick number) _ tt
    (either (bytes_eq word (codes "take")) (TakeFeed number) _ tt
    (either (bytes_eq word (codes "absorb")) (AbsorbPacket number) _ tt (either (bytes_eq word (codes "release")) (GiveBack number) Unreadable tt tt)))

named_numbered_honest : (word name : List ℕ) (number : ℕ) → IsHonest (named_numbered_says word name number)
named_numbered_honest word name number =
    either (bytes_eq word (codes "feed")) (MakeFeed name (Some number)) _ tt
    (either (bytes_eq word (codes "hold")) (TakeHold name number) Unreadable tt tt)

twice_honest : (word : List ℕ) (number last : ℕ) → IsHonest (twice_numbered_says word number last)
twice_honest word number last = either (bytes_eq word (codes "downgrade")) (MoveHold number last) Unreadable tt tt

-- what a word says that is to be a number
number_honest : (says : ℕ → ScriptLine) → ((number : ℕ) → IsHonest (says number)) → (number : Option ℕ) → IsHonest (of_number says number)
number_honest says p None = tt
number_honest says p (Some number) = p number

two_honest : (word other : List ℕ) → IsHonest (two_say word other)
two_honest word other =
    either (is_script_name other) (named_says word other) (of_number (numbered_says word) (number_of other)) (named_honest word other)
    (number_honest (numbered_says word) (numbered_honest word) (number_of other))

three_honest : (word other : List ℕ) (last : ℕ) → IsHonest (three_say word other last)
three_honest word other last =
    either (is_script_name other) (named_numbered_says word other last)
    (of_number (λ number. twice_numbered_says word number last) (number_of other)) (named_numbered_honest word other last)
    (number_honest (λ number. twice_numbered_says word number last) (λ number. twice_honest word number last) (number_of other))

words_honest : (words : List (List ℕ)) → IsHonest (words_say words)
words_honest [] = tt
words_honest (word ∷ []) = one_honest word
words_honest (word ∷ other ∷ []) = two_honest word other
words_honest (word ∷ other ∷ last ∷ []) = number_honest (three_say word other) (three_honest word other) (number_of last)
words_honest (word ∷ other ∷ last ∷ more ∷ words) = tt

words_line_honest : (text : List ℕ) → IsHonest (words_line_says text)
words_line_honest text = either (has_space_at_end text) Unreadable (words_say (words_of text)) tt (words_honest (words_of text))

-- ---- all lines

-- a session line asks for what its text asks for
colon_honest : (text : List ℕ) (colon : Option ℕ) → IsHonest (colon_says text colon)
colon_honest text None = words_line_honest text
colon_honest text (Some colon) =
    either (is_script_name (take colon text)) (saying (take colon text) (after_spaces (drop (colon + 1) text))) (words_line_says text)
    (each_text_asks (after_spaces (drop (colon + 1) text))) (words_line_honest text)

text_honest : (text : List ℕ) → IsHonest (text_says text)
text_honest text =
    either (is_skipped text) Skipped (colon_says text (position (λ byte. byte == 58) text)) tt
    (colon_honest text (position (λ byte. byte == 58) text))

-- so each line that is read is honest
pub line_honest : (line : List ℕ) → IsHonest (line_says line)
line_honest line =
    either (nat_lt longest_line (length line) || not (is_utf8 (without_return line))) Unreadable (text_says (without_return line)) tt
    (text_honest (without_return line))

-- and a script of bytes leaves a good log
pub read_script_good : (lines : List (List ℕ)) → Good (after_built_lines (map line_says lines) opening_machine).machine.log
read_script_good lines =
    script_good (map line_says lines) (each_map (λ line. ⊤) IsHonest line_says (λ line p. line_honest line) lines (each_all (λ line. ⊤) (λ line. tt) lines))
