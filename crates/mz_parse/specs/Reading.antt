-- Reading from left to right: what stands at the front of some tokens, and the tokens behind it.
use Rattle.std.specs.Prelude.{◌≡◌, ℕ, zero, suc, ◌+◌, Bool, true, false, ◌&&◌, ◌||◌, List, [], ◌∷◌, codes, bytes_eq, nat_le, nat_lt, length, Option, Some, None, Result, Ok, Err, if◌then◌else◌, pos, neg_ℤ}
use Rattle.mz_value.specs.declared.datum.Datum.{Datum}
use Rattle.mz_value.specs.declared.datum.Datum.TheVariants as datum
use Rattle.mz_statement.specs.declared.column.Column.{Column}
use Rattle.mz_statement.specs.declared.column.ColumnType.{ColumnType}
use Rattle.mz_statement.specs.declared.column.ColumnType.TheVariants as kind
use Rattle.mz_statement.specs.declared.condition.Op.{Op}
use Rattle.mz_statement.specs.declared.condition.Op.TheVariants.{Eq, Ne, Lt, Le, Gt, Ge}
use Rattle.mz_statement.specs.declared.condition.Side.{Side}
use Rattle.mz_statement.specs.declared.condition.Side.TheVariants as side
use Rattle.mz_statement.specs.declared.condition.Test.{Test}
use Rattle.mz_statement.specs.declared.condition.Test.TheVariants as test
use Rattle.mz_statement.specs.declared.item.Expression.{Expression}
use Rattle.mz_statement.specs.declared.item.Expression.TheVariants as expression
use Rattle.mz_statement.specs.declared.item.SelectItem.{SelectItem}
use Rattle.mz_statement.specs.declared.query.Select.{Select}
use Rattle.mz_statement.specs.declared.reference.ColumnName.{ColumnName}
use Rattle.mz_statement.specs.declared.reference.ColumnPair.{ColumnPair}
use Rattle.mz_statement.specs.declared.reference.Join.{Join}
use Rattle.mz_statement.specs.declared.reference.Reference.{Reference}
use Rattle.mz_statement.specs.declared.statement.Keep.{Keep}
use Rattle.mz_statement.specs.declared.statement.Keep.TheVariants as keep
use Rattle.mz_statement.specs.declared.statement.Statement.{Statement}
use Rattle.mz_statement.specs.declared.statement.Statement.TheVariants as statement
use Rattle.mz_parse.specs.declared.fault.Fault.{Fault}
use Rattle.mz_parse.specs.declared.fault.Fault.TheVariants.{Syntax, Range}
use Rattle.mz_parse.specs.declared.fault.ReadError.{ReadError}
use Rattle.mz_parse.specs.declared.fault.ReadError.TheVariants as errors
use Rattle.mz_grammar.specs.declared.token.Tok.{Tok}
use Rattle.mz_grammar.specs.declared.token.Tok.TheVariants as t
use Rattle.mz_grammar.specs.declared.key.Key.{Key}
use Rattle.mz_grammar.specs.declared.key.Key.TheVariants as k
use Rattle.mz_grammar.specs.Token.{next}
use Rattle.mz_grammar.specs.Joined.{all_of, any_of}
use Rattle.mz_statement.specs.Statement.{lags, times}
use Rattle.mz_statement.specs.Test.{greatest_depth}
use Rattle.mz_statement.specs.Value.{greatest_int, longest_text}

infixl 10 ◌>>=◌
-- go on with what was read, or stay with the fault
abbrev pub ◌>>=◌ : {A B : Type 0} → Result A Fault → (A → Result B Fault) → Result B Fault
(Ok x) >>= f = f x
(Err e) >>= f = Err e

-- an error of the code is the fault of the reading, or want of memory
abbrev pub Fails : {Y : Type 0} → ReadError → Result Y Fault → Type 0
Fails errors.Memory read = Unit {0}
Fails (errors.Fault f) read = read ≡ Err f

-- what the code gives, as view sees it, is what reading gives, unless memory ran out
abbrev pub Gives : {X Y : Type 0} → (X → Y) → Result X ReadError → Result Y Fault → Type 0
Gives view (Ok x) read = read ≡ Ok (view x)
Gives view (Err e) read = Fails e read

-- what stands at the front, and the tokens behind it
abbrev pub Read : Type 0 → Type 0
Read A = Result (A × List Tok) Fault

-- the fault at the first of the tokens
abbrev pub stuck : {A : Type 0} → List Tok → Result A Fault
stuck ts = Err (Syntax (length ts))

-- ---- keys, and lists with a key between

-- what stands behind the key, or the fault
abbrev pub behind : List Tok → Option (List Tok) → Result (List Tok) Fault
behind ts None = stuck ts
behind ts (Some us) = Ok us

abbrev pub key_at : Key → List Tok → Result (List Tok) Fault
key_at key ts = behind ts (next key ts)

-- none where the key doesn't stand first, or one that stands behind it and then others
abbrev pub more_from : {A : Type 0} → (List Tok → Read A) → (List Tok → Read (List A)) → List Tok → Option (List Tok) → Read (List A)
more_from r others ts None = Ok ([], ts)
more_from r others ts (Some us) = r us >>= λ x. others x.1 >>= λ xs. Ok (x.0 ∷ xs.0, xs.1)

-- others, each behind the key, so many at most
abbrev pub more : {A : Type 0} → ℕ → Key → (List Tok → Read A) → List Tok → Read (List A)
more zero key r ts = Ok ([], ts)
more (suc most) key r ts = more_from r (more most key r) ts (next key ts)

-- one or more with the key between
abbrev pub listed : {A : Type 0} → Key → (List Tok → Read A) → List Tok → Read (List A)
listed key r ts = r ts >>= λ x. more (length x.1) key r x.1 >>= λ xs. Ok (x.0 ∷ xs.0, xs.1)

-- ---- names and columns

abbrev pub name_at : List Tok → Read (List ℕ)
name_at (t.Name n ∷ ts) = Ok (n, ts)
name_at ts = stuck ts

abbrev pub alias_from : List Tok → Option (List Tok) → Read (Option (List ℕ))
alias_from ts None = Ok (None, ts)
alias_from ts (Some us) = name_at us >>= λ n. Ok (Some n.0, n.1)

abbrev pub alias_at : List Tok → Read (Option (List ℕ))
alias_at ts = alias_from ts (next k.As ts)

-- whether something was found
abbrev pub is_found : Option (List Tok) → Bool
is_found None = false
is_found (Some us) = true

-- whether the key stands behind what was found
abbrev pub follows : Key → Option (List Tok) → Bool
follows key None = false
follows key (Some us) = is_found (next key us)

-- whether AS OF stands first
abbrev pub begins_as_of : List Tok → Bool
begins_as_of ts = follows k.Of (next k.As ts)

abbrev pub column_from : List ℕ → List Tok → Option (List Tok) → Read ColumnName
column_from first ts None = Ok (record { qualifier = None; name = first }, ts)
column_from first ts (Some us) = name_at us >>= λ n. Ok (record { qualifier = Some first; name = n.0 }, n.1)

abbrev pub column_at : List Tok → Read ColumnName
column_at ts = name_at ts >>= λ n. column_from n.0 n.1 (next k.Dot n.1)

-- ---- literals and conditions

-- what is within its limits, or the fault at its token
abbrev pub within : {A : Type 0} → Bool → List Tok → A → List Tok → Read A
within true ts x us = Ok (x, us)
within false ts x us = Err (Range (length ts))

-- behind a minus
abbrev pub negative_at : List Tok → Read Datum
negative_at (t.Number n ∷ us) = within (nat_le n (greatest_int + 1)) (t.Number n ∷ us) (datum.Int (neg_ℤ (pos n))) us
negative_at ts = stuck ts

abbrev pub plain_at : List Tok → Read Datum
plain_at (t.Number n ∷ us) = within (nat_le n greatest_int) (t.Number n ∷ us) (datum.Int (pos n)) us
plain_at (t.Text text ∷ us) = within (nat_le (length text) longest_text) (t.Text text ∷ us) (datum.Text text) us
plain_at (t.Key k.True ∷ us) = Ok (datum.Bool true, us)
plain_at (t.Key k.False ∷ us) = Ok (datum.Bool false, us)
plain_at ts = stuck ts

abbrev pub literal_from : List Tok → Option (List Tok) → Read Datum
literal_from ts (Some us) = negative_at us
literal_from ts None = plain_at ts

abbrev pub literal_at : List Tok → Read Datum
literal_at ts = literal_from ts (next k.Minus ts)

abbrev pub value_at : List Tok → Read Side
value_at ts = literal_at ts >>= λ v. Ok (side.Literal v.0, v.1)

abbrev pub side_at : List Tok → Read Side
side_at (t.Name n ∷ ts) = column_at (t.Name n ∷ ts) >>= λ c. Ok (side.Column c.0, c.1)
side_at ts = value_at ts

abbrev pub op_of : Tok → Option Op
op_of (t.Key k.Equal) = Some Eq
op_of (t.Key k.Unequal) = Some Ne
op_of (t.Key k.Less) = Some Lt
op_of (t.Key k.LessEqual) = Some Le
op_of (t.Key k.Greater) = Some Gt
op_of (t.Key k.GreaterEqual) = Some Ge
op_of tok = None

abbrev pub op_from : List Tok → List Tok → Option Op → Read Op
op_from ts us (Some op) = Ok (op, us)
op_from ts us None = stuck ts

abbrev pub op_at : List Tok → Read Op
op_at [] = stuck []
op_at (tok ∷ ts) = op_from (tok ∷ ts) ts (op_of tok)

abbrev pub comparison_at : List Tok → Read Test
comparison_at ts = column_at ts >>= λ c. op_at c.1 >>= λ o. side_at o.1 >>= λ s. Ok (test.Compare c.0 o.0 s.0, s.1)

abbrev pub conjunction_at : (List Tok → Read Test) → List Tok → Read Test
conjunction_at r ts = listed k.And r ts >>= λ xs. Ok (all_of xs.0, xs.1)

abbrev pub disjunction_at : (List Tok → Read Test) → List Tok → Read Test
disjunction_at r ts = listed k.Or (conjunction_at r) ts >>= λ xs. Ok (any_of xs.0, xs.1)

-- behind NOT, behind a parenthesis, or at neither
abbrev pub atom_from : (List Tok → Read Test) → List Tok → Option (List Tok) → Option (List Tok) → Read Test
atom_from r ts (Some us) paren = r us >>= λ x. Ok (test.Not x.0, x.1)
atom_from r ts None (Some us) = disjunction_at r us >>= λ x. key_at k.Close x.1 >>= λ vs. Ok (x.0, vs)
atom_from r ts None None = comparison_at ts

-- with so many NOTs and parentheses that may still be opened
abbrev pub atom_at : ℕ → List Tok → Read Test
atom_at zero ts = comparison_at ts
atom_at (suc depth) ts = atom_from (atom_at depth) ts (next k.Not ts) (next k.Open ts)

abbrev pub condition_at : List Tok → Read Test
condition_at ts = disjunction_at (atom_at greatest_depth) ts

-- ---- selects and queries

-- where the query ends behind a name, that has no alias
abbrev pub reference_from : List ℕ → List Tok → Bool → Read Reference
reference_from name ts true = Ok (record { name = name; alias = None }, ts)
reference_from name ts false = alias_at ts >>= λ a. Ok (record { name = name; alias = a.0 }, a.1)

abbrev pub reference_at : Bool → List Tok → Read Reference
reference_at may_end ts = name_at ts >>= λ n. reference_from n.0 n.1 (may_end && begins_as_of n.1)

abbrev pub pair_at : List Tok → Read ColumnPair
pair_at ts = column_at ts >>= λ l. key_at k.Equal l.1 >>= λ us. column_at us >>= λ r. Ok (record { left = l.0; right = r.0 }, r.1)

abbrev pub join_at : List Tok → Read Join
join_at ts = reference_at false ts >>= λ r. key_at k.On r.1 >>= λ us. listed k.And pair_at us >>= λ ps. Ok (record { reference = r.0; pairs = ps.0 }, ps.1)

-- none, or a list behind the key
abbrev pub list_from : {A : Type 0} → (List Tok → Read (List A)) → List Tok → Option (List Tok) → Read (List A)
list_from r ts None = Ok ([], ts)
list_from r ts (Some us) = r us

abbrev pub joins_at : List Tok → Read (List Join)
joins_at ts = list_from (listed k.Join join_at) ts (next k.Join ts)

abbrev pub grouped_at : List Tok → Read (List ColumnName)
grouped_at ts = key_at k.By ts >>= listed k.Comma column_at

abbrev pub group_at : List Tok → Read (List ColumnName)
group_at ts = list_from grouped_at ts (next k.Group ts)

abbrev pub where_from : List Tok → Option (List Tok) → Read (Option Test)
where_from ts None = Ok (None, ts)
where_from ts (Some us) = condition_at us >>= λ c. Ok (Some c.0, c.1)

abbrev pub where_at : List Tok → Read (Option Test)
where_at ts = where_from ts (next k.Where ts)

-- whether the word is an aggregate of a column
abbrev pub is_aggregate : List ℕ → Bool
is_aggregate word = bytes_eq word (codes "sum") || (bytes_eq word (codes "min") || bytes_eq word (codes "max"))

-- which aggregate of the column it is
abbrev pub aggregate : List ℕ → ColumnName → Expression
aggregate word column =
    if bytes_eq word (codes "sum") then expression.Sum column
    else (if bytes_eq word (codes "min") then expression.Min column else expression.Max column)

abbrev pub counted_at : List Tok → Read Expression
counted_at ts = key_at k.Star ts >>= λ us. key_at k.Close us >>= λ vs. Ok (expression.Count, vs)

abbrev pub aggregated_at : List ℕ → List Tok → Read Expression
aggregated_at word ts = column_at ts >>= λ c. key_at k.Close c.1 >>= λ us. Ok (aggregate word c.0, us)

-- behind a word with a parenthesis, or at a column
abbrev pub expression_from : List ℕ → List Tok → Option (List Tok) → Read Expression
expression_from word ts None = column_from word ts (next k.Dot ts) >>= λ c. Ok (expression.Column c.0, c.1)
expression_from word ts (Some us) =
    if bytes_eq word (codes "count") then counted_at us
    else (if is_aggregate word then aggregated_at word us else stuck ts)

abbrev pub expression_at : List Tok → Read Expression
expression_at ts = name_at ts >>= λ w. expression_from w.0 w.1 (next k.Open w.1)

abbrev pub item_at : List Tok → Read SelectItem
item_at ts = expression_at ts >>= λ e. alias_at e.1 >>= λ a. Ok (record { expression = e.0; alias = a.0 }, a.1)

abbrev pub items_from : List Tok → Option (List Tok) → Read (Option (List SelectItem))
items_from ts (Some us) = Ok (None, us)
items_from ts None = listed k.Comma item_at ts >>= λ is. Ok (Some is.0, is.1)

abbrev pub items_at : List Tok → Read (Option (List SelectItem))
items_at ts = items_from ts (next k.Star ts)

abbrev pub distinct_from : List Tok → Option (List Tok) → Bool × List Tok
distinct_from ts None = (false, ts)
distinct_from ts (Some us) = (true, us)

-- whether DISTINCT stands first, and what stands behind it
abbrev pub distinct_at : List Tok → Bool × List Tok
distinct_at ts = distinct_from ts (next k.Distinct ts)

-- the parts of a select behind its items
abbrev pub select_from : Bool → Bool → Option (List SelectItem) → List Tok → Read Select
select_from may_end distinct items ts =
    key_at k.From ts >>= λ us. reference_at may_end us >>= λ r. joins_at r.1 >>= λ j. where_at j.1 >>= λ w. group_at w.1 >>= λ g.
    Ok (record { distinct = distinct; items = items; first = r.0; joins = j.0; test = w.0; group = g.0 }, g.1)

abbrev pub select_at : Bool → List Tok → Read Select
select_at may_end ts =
    key_at k.Select ts >>= λ us. items_at (distinct_at us).1 >>= λ i. select_from may_end (distinct_at us).0 i.0 i.1

abbrev pub all_select_at : Bool → List Tok → Read Select
all_select_at may_end ts = key_at k.All ts >>= select_at may_end

abbrev pub unions_at : Bool → List Tok → Read (List Select)
unions_at may_end ts = list_from (listed k.Union (all_select_at may_end)) ts (next k.Union ts)

abbrev pub query_at : Bool → List Tok → Read (List Select)
query_at may_end ts = select_at may_end ts >>= λ s. unions_at may_end s.1 >>= λ ss. Ok (s.0 ∷ ss.0, ss.1)

-- ---- statements

abbrev pub time_at : List Tok → Read ℕ
time_at (t.Number n ∷ ts) = within (nat_lt n times) (t.Number n ∷ ts) n ts
time_at ts = stuck ts

abbrev pub lag_at : List Tok → Read ℕ
lag_at (t.Number n ∷ ts) = within (nat_le 1 n && nat_lt n lags) (t.Number n ∷ ts) n ts
lag_at ts = stuck ts

abbrev pub as_of_from : List Tok → Option (List Tok) → Read (Option ℕ)
as_of_from ts None = Ok (None, ts)
as_of_from ts (Some us) = key_at k.Of us >>= λ vs. time_at vs >>= λ n. Ok (Some n.0, n.1)

abbrev pub as_of_at : List Tok → Read (Option ℕ)
as_of_at ts = as_of_from ts (next k.As ts)

-- the types of columns, by their words
abbrev pub type_of : List ℕ → Option ColumnType
type_of word =
    if bytes_eq word (codes "int") then Some kind.Int
    else (if bytes_eq word (codes "text") then Some kind.Text else (if bytes_eq word (codes "bool") then Some kind.Bool else None))

abbrev pub type_from : List Tok → List Tok → Option ColumnType → Read ColumnType
type_from ts us (Some kind) = Ok (kind, us)
type_from ts us None = stuck ts

abbrev pub type_at : List Tok → Read ColumnType
type_at ts = name_at ts >>= λ w. type_from ts w.1 (type_of w.0)

abbrev pub definition_at : List Tok → Read Column
definition_at ts = name_at ts >>= λ n. type_at n.1 >>= λ k. Ok (record { name = n.0; kind = k.0 }, k.1)

abbrev pub create_table_at : List Tok → Read Statement
create_table_at ts = name_at ts >>= λ n. key_at k.Open n.1 >>= λ us. listed k.Comma definition_at us >>= λ cs. key_at k.Close cs.1 >>= λ vs. Ok (statement.CreateTable n.0 cs.0, vs)

abbrev pub create_view_at : List Tok → Read Statement
create_view_at ts = name_at ts >>= λ n. key_at k.As n.1 >>= λ us. query_at false us >>= λ q. Ok (statement.CreateView n.0 q.0, q.1)

abbrev pub create_index_at : List Tok → Read Statement
create_index_at ts = name_at ts >>= λ n. key_at k.On n.1 >>= λ us. name_at us >>= λ r. Ok (statement.CreateIndex n.0 r.0, r.1)

abbrev pub create_at : List Tok → Read Statement
create_at (t.Key k.Table ∷ ts) = create_table_at ts
create_at (t.Key k.View ∷ ts) = create_view_at ts
create_at (t.Key k.Index ∷ ts) = create_index_at ts
create_at ts = stuck ts

abbrev pub drop_at : List Tok → Read Statement
drop_at (t.Key k.Table ∷ ts) = name_at ts >>= λ n. Ok (statement.DropTable n.0, n.1)
drop_at (t.Key k.View ∷ ts) = name_at ts >>= λ n. Ok (statement.DropView n.0, n.1)
drop_at (t.Key k.Index ∷ ts) = name_at ts >>= λ n. Ok (statement.DropIndex n.0, n.1)
drop_at ts = stuck ts

abbrev pub tuple_at : List Tok → Read (List Datum)
tuple_at ts = key_at k.Open ts >>= λ us. listed k.Comma literal_at us >>= λ vs. key_at k.Close vs.1 >>= λ ws. Ok (vs.0, ws)

abbrev pub insert_at : List Tok → Read Statement
insert_at ts = key_at k.Into ts >>= λ us. name_at us >>= λ n. key_at k.Values n.1 >>= λ vs. listed k.Comma tuple_at vs >>= λ rs. Ok (statement.Insert n.0 rs.0, rs.1)

abbrev pub delete_at : List Tok → Read Statement
delete_at ts = key_at k.From ts >>= λ us. name_at us >>= λ n. where_at n.1 >>= λ w. Ok (statement.Delete n.0 w.0, w.1)

abbrev pub show_from : List Tok → List Tok → Bool → Read Statement
show_from ts us true = Ok (statement.ShowFrontiers, us)
show_from ts us false = stuck ts

abbrev pub show_at : List Tok → Read Statement
show_at ts = name_at ts >>= λ w. show_from ts w.1 (bytes_eq w.0 (codes "frontiers"))

-- behind LAG, behind STAY, or at neither
abbrev pub keep_named : List Tok → List Tok → Bool → Bool → Read Keep
keep_named ts us true stay = lag_at us >>= λ n. Ok (keep.Lag n.0, n.1)
keep_named ts us false true = Ok (keep.Stay, us)
keep_named ts us false false = stuck ts

abbrev pub keep_word_at : List Tok → List ℕ → List Tok → Read Keep
keep_word_at ts word us = keep_named ts us (bytes_eq word (codes "lag")) (bytes_eq word (codes "stay"))

abbrev pub keep_from : List Tok → Option (List Tok) → Read Keep
keep_from ts (Some us) = time_at us >>= λ n. Ok (keep.From n.0, n.1)
keep_from ts None = name_at ts >>= λ w. keep_word_at ts w.0 w.1

abbrev pub keep_at : List Tok → Read Keep
keep_at ts = keep_from ts (next k.From ts)

abbrev pub retain_at : List Tok → Read Statement
retain_at ts = name_at ts >>= λ n. keep_at n.1 >>= λ k. Ok (statement.Retain n.0 k.0, k.1)

abbrev pub top_query_at : List Tok → Read Statement
top_query_at ts = query_at true ts >>= λ q. as_of_at q.1 >>= λ n. Ok (statement.Query q.0 n.0, n.1)

-- the statement that the first token begins
abbrev pub statement_at : List Tok → Read Statement
statement_at (t.Key k.Create ∷ ts) = create_at ts
statement_at (t.Key k.Drop ∷ ts) = drop_at ts
statement_at (t.Key k.Insert ∷ ts) = insert_at ts
statement_at (t.Key k.Delete ∷ ts) = delete_at ts
statement_at (t.Key k.Begin ∷ ts) = Ok (statement.Start, ts)
statement_at (t.Key k.Commit ∷ ts) = Ok (statement.Commit, ts)
statement_at (t.Key k.Show ∷ ts) = show_at ts
statement_at (t.Key k.Retain ∷ ts) = retain_at ts
statement_at ts = top_query_at ts

-- what stands behind a semicolon, if one stands first
abbrev pub past_semicolon : List Tok → Option (List Tok) → List Tok
past_semicolon ts None = ts
past_semicolon ts (Some us) = us

abbrev pub nothing_behind : Statement → List Tok → Result Statement Fault
nothing_behind s [] = Ok s
nothing_behind s (tok ∷ ts) = stuck (tok ∷ ts)

-- a statement, and nothing behind it
abbrev pub whole_at : List Tok → Result Statement Fault
whole_at ts = statement_at ts >>= λ s. nothing_behind s.0 (past_semicolon s.1 (next k.Semicolon s.1))
