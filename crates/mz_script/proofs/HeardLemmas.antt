-- What a line says is heard as it is said.
use Rattle.std.specs.Prelude.{ℕ, ◌+◌, ◌==◌, ◌||◌, Bool, true, false, cond, not, List, [], ◌∷◌, Option, None, Some, bytes_eq, codes, drop, length, nat_lt, take, Result, Ok, Err, IfOk}
use Rattle.std.proofs.Common.{◌≡◌, sym, subst}
use Rattle.std.specs.List.{position}
use Rattle.std.specs.Str.{is_utf8}
use Rattle.mz_sql.proofs.AskedLemmas.{each_text_asks}
use Rattle.mz_script.specs.declared.script_line.ScriptLine.{ScriptLine}
use Rattle.mz_sql.specs.Asked.{asked}
use Rattle.mz_script.specs.declared.script_line.ScriptLine.TheVariants.{Says, Skipped, Unreadable}
use Rattle.mz_script.specs.Built.{IsHeard}
use Rattle.mz_script.specs.Words.{has_space_at_end, is_script_name, number_of, words_of}
use Rattle.mz_script.specs.Lines.{after_spaces, colon_says, is_skipped, line_says, longest_line, named_numbered_says, named_says, numbered_says, of_number, one_says, text_says, three_say, twice_numbered_says, two_say, without_return, words_line_says, words_say}

-- what is said is heard
pub record Heard (line : ScriptLine) : Type 0 where
  pub is : IsHeard line

either : (t : Bool) {one other : ScriptLine} → Heard one → Heard other → Heard (cond t one other)
either true h k = h
either false h k = k

if_number : (says : ℕ → ScriptLine) → ((number : ℕ) → Heard (says number)) → (number : Option ℕ) → Heard (of_number says number)
if_number says heard None = record { is = tt }
if_number says heard (Some number) = heard number

unreadable : Heard Unreadable
unreadable = record { is = tt }

one_heard : (word : List ℕ) → Heard (one_says word)
one_heard word =
    either (bytes_eq word (codes "begin")) (record { is = tt })
    (either (bytes_eq word (codes "finish")) (record { is = tt })
    (either (bytes_eq word (codes "commit")) (record { is = tt })
    (either (bytes_eq word (codes "settle")) (record { is = tt }) unreadable)))

named_heard : (word name : List ℕ) → Heard (named_says word name)
named_heard word name =
    either (bytes_eq word (codes "replica")) (record { is = tt })
    (either (bytes_eq word (codes "crash")) (record { is = tt })
    (either (bytes_eq word (codes "rejoin")) (record { is = tt })
    (either (bytes_eq word (codes "feed")) (record { is = tt })
    (either (bytes_eq word (codes "cancel")) (record { is = tt })
    (either (bytes_eq word (codes "close")) (record { is = tt }) unreadable)))))

numbered_heard : (word : List ℕ) (number : ℕ) → Heard (numbered_says word number)
numbered_heard word number =
    either (bytes_eq word (codes "tick")) (record { is = tt })
    (either (bytes_eq word (codes "take")) (record { is = tt })
    (either (bytes_eq word (codes "absorb")) (record { is = tt })
    (either (bytes_eq word (codes "release")) (record { is = tt }) unreadable)))

named_numbered_heard : (word name : List ℕ) (number : ℕ) → Heard (named_numbered_says word name number)
named_numbered_heard word name number =
    either (bytes_eq word (codes "feed")) (record { is = tt })
    (either (bytes_eq word (codes "hold")) (record { is = tt }) unreadable)

twice_numbered_heard : (word : List ℕ) (number last : ℕ) → Heard (twice_numbered_says word number last)
twice_numbered_heard word number last = either (bytes_eq word (codes "downgrade")) (record { is = tt }) unreadable

two_heard : (word other : List ℕ) → Heard (two_say word other)
two_heard word other =
    either (is_script_name other) (named_heard word other) (if_number (numbered_says word) (numbered_heard word) (number_of other))

three_heard : (word other : List ℕ) (last : ℕ) → Heard (three_say word other last)
three_heard word other last =
    either (is_script_name other) (named_numbered_heard word other last)
    (if_number (λ number. twice_numbered_says word number last) (λ number. twice_numbered_heard word number last) (number_of other))

words_heard : (words : List (List ℕ)) → Heard (words_say words)
words_heard [] = unreadable
words_heard (word ∷ []) = one_heard word
words_heard (word ∷ other ∷ []) = two_heard word other
words_heard (word ∷ other ∷ last ∷ []) = if_number (three_say word other) (three_heard word other) (number_of last)
words_heard (word ∷ other ∷ last ∷ more ∷ words) = unreadable

words_line_heard : (text : List ℕ) → Heard (words_line_says text)
words_line_heard text = either (has_space_at_end text) unreadable (words_heard (words_of text))

said_heard : (name text : List ℕ) → Heard (Says name text (asked text))
said_heard name text = record { is = each_text_asks text }

colon_heard : (text : List ℕ) (colon : Option ℕ) → Heard (colon_says text colon)
colon_heard text None = words_line_heard text
colon_heard text (Some colon) =
    either (is_script_name (take colon text)) (said_heard (take colon text) (after_spaces (drop (colon + 1) text))) (words_line_heard text)

skipped : Heard Skipped
skipped = record { is = tt }

pub text_heard : (text : List ℕ) → Heard (text_says text)
text_heard text = either (is_skipped text) skipped (colon_heard text (position (λ (b : ℕ). b == 58) text))

line_heard-whole : (line : List ℕ) → Heard (line_says line)
line_heard-whole line = either (nat_lt longest_line (length line) || not (is_utf8 (without_return line))) unreadable (text_heard (without_return line))

-- the text of each session line asks for what is asked
pub line_heard : (line : List ℕ) → IsHeard (line_says line)
line_heard line = (line_heard-whole line).is

-- and so is what was read of it
pub read_heard : {E : Type 0} (line : ScriptLine) (result : Result ScriptLine E) → IfOk result (λ says. says ≡ line) → Heard line → IfOk result IsHeard
read_heard line (Ok says) is heard = subst IsHeard (sym is) heard.is
read_heard line (Err error) is heard = tt
