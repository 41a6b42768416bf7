-- The texts of values, rows, replies and refusals. Numbers are decimal; each line ends with LF.
use Rattle.std.specs.Prelude.{ℕ, ℤ, List, [], ◌∷◌, ◌++◌, true, false, Option, None, Some, codes, decimal, flat_map, length}
use Rattle.std.specs.Fmt.{signed_decimal}
use Rattle.mz_value.specs.declared.datum.Datum.{Datum}
use Rattle.mz_value.specs.declared.datum.Datum.TheVariants.{Int, Text, Bool as Truth, Wide}
use Rattle.mz_bag.specs.Weighted.{Weighted}
use Rattle.mz_statement.specs.declared.statement.Statement.{Statement}
use Rattle.mz_statement.specs.declared.statement.Statement.TheVariants.{Start, Commit, Retain, SetIsolation, SetCluster}
use Rattle.mz_lex.specs.Quoted.{quoted}
use Rattle.mz_refusal.specs.Refusal.{refusal_number, refusal_text}
use Rattle.mz_refusal.specs.declared.refusal.Refusal.{Refusal}
use Rattle.mz_log.specs.declared.reply.FrontierRow.{FrontierRow}
use Rattle.mz_log.specs.declared.reply.Reply.{Reply}
use Rattle.mz_log.specs.declared.reply.Reply.TheVariants as reply
use Rattle.mz_log.specs.declared.reply.SeqReply.{SeqReply}
use Rattle.mz_log.specs.declared.reply.SeqReply.TheVariants as told

-- the end of a line
abbrev pub line_end : List ℕ
line_end = 10 ∷ []

-- ---- rows

-- a value: a number, a text in quotes with each quote inside doubled, or a truth
abbrev pub value_text : Datum → List ℕ
value_text (Int number) = signed_decimal number
value_text (Text text) = quoted text
value_text (Truth true) = codes "TRUE"
value_text (Truth false) = codes "FALSE"
value_text (Wide number) = signed_decimal number

-- values, a comma and a space before each
abbrev pub more_values_text : List Datum → List ℕ
more_values_text values = flat_map (λ value. codes ", " ++ value_text value) values

-- values, a comma and a space between them
abbrev pub values_text : List Datum → List ℕ
values_text [] = []
values_text (value ∷ values) = value_text value ++ more_values_text values

-- a row with its count
abbrev pub row_line : (List Datum × ℤ) → List ℕ
row_line row = codes "  " ++ (signed_decimal row.1 ++ (codes " x (" ++ (values_text row.0 ++ (codes ")" ++ line_end))))

-- rows with their counts, a line each
abbrev pub row_lines : Weighted → List ℕ
row_lines rows = flat_map row_line rows

-- how far a collection is readable
abbrev pub frontier_line : FrontierRow → List ℕ
frontier_line row =
    codes "  " ++ (decimal row.id ++ (codes " " ++ (row.name ++ (codes ": since " ++ (decimal row.since
    ++ (codes ", upper " ++ (decimal row.upper ++ (codes ", holds " ++ (decimal row.holds ++ line_end)))))))))

-- how far collections are readable, a line each
abbrev pub frontier_lines : List FrontierRow → List ℕ
frontier_lines rows = flat_map frontier_line rows

-- ---- replies

-- a refusal: its number and its text
abbrev pub refused_words : Refusal → List ℕ
refused_words refusal = codes "refused " ++ (decimal (refusal_number refusal) ++ refusal_text refusal)

-- what a round replied
abbrev pub reply_words : SeqReply → List ℕ
reply_words (told.Created item) = codes "created"
reply_words told.Dropped = codes "dropped"
reply_words (told.Inserted rows) = codes "inserted " ++ decimal rows
reply_words (told.Deleted rows) = codes "deleted " ++ decimal rows
reply_words (told.Refused refusal) = refused_words refusal

-- how many different rows a query has
abbrev pub rows_words : Weighted → List ℕ
rows_words rows = decimal (length rows) ++ codes " rows"

-- what a statement did that was carried out at once
abbrev pub instant_words : Statement → List ℕ
instant_words Start = codes "began"
instant_words Commit = codes "committed"
instant_words (Retain name keep) = codes "retained"
instant_words (SetIsolation true) = codes "isolation strict"
instant_words (SetIsolation false) = codes "isolation session"
instant_words (SetCluster name) = codes "cluster " ++ name
instant_words other = []

-- what the statement of a call did, where it has one
abbrev pub done_words : Option Statement → List ℕ
done_words None = []
done_words (Some statement) = instant_words statement

-- the words of a reply in a history, with the statement of its call
abbrev pub history_words : Option Statement → Option Reply → List ℕ
history_words statement None = codes "pending"
history_words statement (Some (reply.Command told)) = reply_words told
history_words statement (Some (reply.Rows time rows)) = rows_words rows
history_words statement (Some (reply.Instant time)) = done_words statement
history_words statement (Some (reply.Frontiers time rows)) = decimal (length rows) ++ codes " frontiers"
history_words statement (Some (reply.Refused refusal)) = refused_words refusal
history_words statement (Some (reply.Cancelled time)) = codes "cancelled"

-- the lines below the words of a reply
abbrev pub reply_lines : Option Reply → List ℕ
reply_lines (Some (reply.Rows time rows)) = row_lines rows
reply_lines (Some (reply.Frontiers time rows)) = frontier_lines rows
reply_lines other = []
