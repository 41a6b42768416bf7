-- The grammar: which tokens spell a statement. Each rule says that ts is a spelling of x, and then rest.
use Rattle.std.specs.Prelude.{◌≡◌, ℕ, zero, suc, ◌≤◌, ◌<◌, ◌+◌, Bool, true, false, List, [], ◌∷◌, codes, length, Option, Some, None, ◌⊎◌, ℤ, pos, neg_ℤ}
use Rattle.mz_lex.specs.declared.token.Token.{Token}
use Rattle.mz_lex.specs.Cut.{IsCutInto}
use Rattle.mz_value.specs.declared.datum.Datum.{Datum}
use Rattle.mz_value.specs.declared.datum.Datum.TheVariants.{Int, Text, Bool as Truth, Wide}
use Rattle.mz_statement.specs.declared.column.Column.{Column}
use Rattle.mz_statement.specs.declared.column.ColumnType.{ColumnType}
use Rattle.mz_statement.specs.declared.column.ColumnType.TheVariants as kind
use Rattle.mz_statement.specs.declared.condition.Op.{Op}
use Rattle.mz_statement.specs.declared.condition.Op.TheVariants.{Eq, Ne, Lt, Le, Gt, Ge}
use Rattle.mz_statement.specs.declared.condition.Side.{Side}
use Rattle.mz_statement.specs.declared.condition.Side.TheVariants as side
use Rattle.mz_statement.specs.declared.condition.Test.{Test}
use Rattle.mz_statement.specs.declared.condition.Test.TheVariants.{Not, Compare}
use Rattle.mz_statement.specs.declared.item.Expression.{Expression}
use Rattle.mz_statement.specs.declared.item.Expression.TheVariants as expression
use Rattle.mz_statement.specs.declared.item.SelectItem.{SelectItem}
use Rattle.mz_statement.specs.declared.query.Select.{Select}
use Rattle.mz_statement.specs.declared.reference.ColumnName.{ColumnName}
use Rattle.mz_statement.specs.declared.reference.ColumnPair.{ColumnPair}
use Rattle.mz_statement.specs.declared.reference.Join.{Join}
use Rattle.mz_statement.specs.declared.reference.Reference.{Reference}
use Rattle.mz_statement.specs.declared.statement.Keep.{Keep}
use Rattle.mz_statement.specs.declared.statement.Keep.TheVariants.{Lag, From, Stay}
use Rattle.mz_statement.specs.declared.statement.Statement.{Statement}
use Rattle.mz_statement.specs.declared.statement.Statement.TheVariants.{Query, CreateTable, CreateView, CreateIndex, DropTable, DropView, DropIndex, Insert, Delete, Start, Commit, ShowFrontiers, Retain, SetIsolation, SetCluster}
use Rattle.mz_statement.specs.Statement.{IsTime, lags}
use Rattle.mz_statement.specs.Test.{greatest_depth}
use Rattle.mz_statement.specs.Value.{greatest_int, longest_text}
use Rattle.mz_grammar.specs.declared.key.Key.{Key}
use Rattle.mz_grammar.specs.declared.key.Key.TheVariants as k
use Rattle.mz_grammar.specs.declared.token.Tok.{Tok}
use Rattle.mz_grammar.specs.declared.token.Tok.TheVariants.{Key as K, Name as N, Number, Text as T}
use Rattle.mz_grammar.specs.Joined.{all_of, any_of}
use Rattle.mz_grammar.specs.Token.{toks_of}

-- a rule for an A
abbrev pub Rule : Type 0 → Type 1
Rule A = A → List Tok → List Tok → Type 0

-- ---- lists

-- others, each behind the key
abbrev pub IsMore : {A : Type 0} → Key → Rule A → Rule (List A)
IsMore key Is [] ts rest = ts ≡ rest
IsMore key Is (x ∷ xs) ts rest = (us vs : List Tok) × (ts ≡ K key ∷ us) × Is x us vs × IsMore key Is xs vs rest

-- one or more with the key between
abbrev pub IsListed : {A : Type 0} → Key → Rule A → Rule (List A)
IsListed key Is [] ts rest = ⊥
IsListed key Is (x ∷ xs) ts rest = (us : List Tok) × Is x ts us × IsMore key Is xs us rest

-- ---- names and columns

abbrev pub SpellsName : Rule (List ℕ)
SpellsName name ts rest = ts ≡ N name ∷ rest

-- [AS name]
abbrev pub SpellsAlias : Rule (Option (List ℕ))
SpellsAlias None ts rest = ts ≡ rest
SpellsAlias (Some name) ts rest = ts ≡ K k.As ∷ N name ∷ rest

-- [name .] name
abbrev pub SpellsQualified : Option (List ℕ) → Rule (List ℕ)
SpellsQualified None name ts rest = ts ≡ N name ∷ rest
SpellsQualified (Some qualifier) name ts rest = ts ≡ N qualifier ∷ K k.Dot ∷ N name ∷ rest

abbrev pub SpellsColumn : Rule ColumnName
SpellsColumn column ts rest = SpellsQualified column.qualifier column.name ts rest

-- ---- literals and comparisons

-- a whole number, of 32 bits with its sign
abbrev pub SpellsWhole : Rule ℤ
SpellsWhole z ts rest = (n : ℕ)
    × (((n ≤ greatest_int) × (z ≡ pos n) × (ts ≡ Number n ∷ rest))
    ⊎ ((n ≤ greatest_int + 1) × (z ≡ neg_ℤ (pos n)) × (ts ≡ K k.Minus ∷ Number n ∷ rest)))

abbrev pub SpellsLiteral : Rule Datum
SpellsLiteral (Int z) ts rest = SpellsWhole z ts rest
SpellsLiteral (Text text) ts rest = (length text ≤ longest_text) × (ts ≡ T text ∷ rest)
SpellsLiteral (Truth true) ts rest = ts ≡ K k.True ∷ rest
SpellsLiteral (Truth false) ts rest = ts ≡ K k.False ∷ rest
SpellsLiteral (Wide z) ts rest = ⊥

abbrev pub SpellsSide : Rule Side
SpellsSide (side.Column column) ts rest = SpellsColumn column ts rest
SpellsSide (side.Literal value) ts rest = SpellsLiteral value ts rest

-- the sign of a comparison
abbrev pub op_key : Op → Key
op_key Eq = k.Equal
op_key Ne = k.Unequal
op_key Lt = k.Less
op_key Le = k.LessEqual
op_key Gt = k.Greater
op_key Ge = k.GreaterEqual

-- column op side
abbrev pub SpellsComparison : Rule Test
SpellsComparison test ts rest = (column : ColumnName) × (op : Op) × (side : Side) × (us : List Tok)
    × (test ≡ Compare column op side) × SpellsColumn column ts (K (op_key op) ∷ us) × SpellsSide side us rest

-- ---- conditions

-- NOT and a test
abbrev pub SpellsNegated : Rule Test → Rule Test
SpellsNegated Is test ts rest = (inner : Test) × (us : List Tok) × (test ≡ Not inner) × (ts ≡ K k.Not ∷ us) × Is inner us rest

-- a test in parentheses
abbrev pub IsClosed : Rule Test → Rule Test
IsClosed Is test ts rest = (us : List Tok) × (ts ≡ K k.Open ∷ us) × Is test us (K k.Close ∷ rest)

-- tests joined by AND
abbrev pub SpellsConjunction : Rule Test → Rule Test
SpellsConjunction Is test ts rest = (tests : List Test) × (test ≡ all_of tests) × IsListed k.And Is tests ts rest

-- and these joined by OR
abbrev pub SpellsDisjunction : Rule Test → Rule Test
SpellsDisjunction Is test ts rest = (tests : List Test) × (test ≡ any_of tests) × IsListed k.Or (SpellsConjunction Is) tests ts rest

-- with so many NOTs and parentheses that may still be opened
abbrev pub SpellsAtom : ℕ → Rule Test
SpellsAtom zero test ts rest = SpellsComparison test ts rest
SpellsAtom (suc depth) test ts rest = SpellsComparison test ts rest
    ⊎ (SpellsNegated (SpellsAtom depth) test ts rest ⊎ IsClosed (SpellsDisjunction (SpellsAtom depth)) test ts rest)

abbrev pub SpellsCondition : Rule Test
SpellsCondition = SpellsDisjunction (SpellsAtom greatest_depth)

-- [WHERE condition]
abbrev pub SpellsWhere : Rule (Option Test)
SpellsWhere None ts rest = ts ≡ rest
SpellsWhere (Some test) ts rest = (us : List Tok) × (ts ≡ K k.Where ∷ us) × SpellsCondition test us rest

-- ---- selects and queries

-- an aggregate of a column
abbrev pub SpellsCall : List ℕ → Rule ColumnName
SpellsCall word column ts rest = (us : List Tok) × (ts ≡ N word ∷ K k.Open ∷ us) × SpellsColumn column us (K k.Close ∷ rest)

abbrev pub SpellsExpression : Rule Expression
SpellsExpression (expression.Column column) ts rest = SpellsColumn column ts rest
SpellsExpression expression.Count ts rest = ts ≡ N (codes "count") ∷ K k.Open ∷ K k.Star ∷ K k.Close ∷ rest
SpellsExpression (expression.Sum column) ts rest = SpellsCall (codes "sum") column ts rest
SpellsExpression (expression.Min column) ts rest = SpellsCall (codes "min") column ts rest
SpellsExpression (expression.Max column) ts rest = SpellsCall (codes "max") column ts rest

abbrev pub SpellsItem : Rule SelectItem
SpellsItem item ts rest = (us : List Tok) × SpellsExpression item.expression ts us × SpellsAlias item.alias us rest

-- a star, or items
abbrev pub SpellsItems : Rule (Option (List SelectItem))
SpellsItems None ts rest = ts ≡ K k.Star ∷ rest
SpellsItems (Some items) ts rest = IsListed k.Comma SpellsItem items ts rest

-- name [AS name]
abbrev pub SpellsReference : Rule Reference
SpellsReference reference ts rest = (us : List Tok) × (ts ≡ N reference.name ∷ us) × SpellsAlias reference.alias us rest

-- column = column
abbrev pub SpellsPair : Rule ColumnPair
SpellsPair pair ts rest = (us : List Tok) × SpellsColumn pair.left ts (K k.Equal ∷ us) × SpellsColumn pair.right us rest

-- what stands behind JOIN
abbrev pub SpellsJoin : Rule Join
SpellsJoin join ts rest = (us : List Tok) × SpellsReference join.reference ts (K k.On ∷ us) × IsListed k.And SpellsPair join.pairs us rest

-- [GROUP BY columns]
abbrev pub SpellsGroup : Rule (List ColumnName)
SpellsGroup [] ts rest = ts ≡ rest
SpellsGroup (column ∷ columns) ts rest = (us : List Tok) × (ts ≡ K k.Group ∷ K k.By ∷ us) × IsListed k.Comma SpellsColumn (column ∷ columns) us rest

-- [DISTINCT]
abbrev pub SpellsDistinct : Rule Bool
SpellsDistinct false ts rest = ts ≡ rest
SpellsDistinct true ts rest = ts ≡ K k.Distinct ∷ rest

-- what stands behind the items
abbrev pub SpellsSource : Rule Select
SpellsSource select ts rest = (a b c d : List Tok)
    × (ts ≡ K k.From ∷ a) × SpellsReference select.first a b × IsMore k.Join SpellsJoin select.joins b c
    × SpellsWhere select.test c d × SpellsGroup select.group d rest

abbrev pub SpellsSelect : Rule Select
SpellsSelect select ts rest = (a b c : List Tok)
    × (ts ≡ K k.Select ∷ a) × SpellsDistinct select.distinct a b × SpellsItems select.items b c × SpellsSource select c rest

-- ALL and a select
abbrev pub SpellsOther : Rule Select
SpellsOther select ts rest = (us : List Tok) × (ts ≡ K k.All ∷ us) × SpellsSelect select us rest

-- selects with UNION ALL between
abbrev pub SpellsQuery : Rule (List Select)
SpellsQuery [] ts rest = ⊥
SpellsQuery (first ∷ others) ts rest = (us : List Tok) × SpellsSelect first ts us × IsMore k.Union SpellsOther others us rest

-- ---- statements

abbrev pub SpellsTime : Rule ℕ
SpellsTime n ts rest = IsTime n × (ts ≡ Number n ∷ rest)

-- [AS OF number]
abbrev pub SpellsAsOf : Rule (Option ℕ)
SpellsAsOf None ts rest = ts ≡ rest
SpellsAsOf (Some n) ts rest = (us : List Tok) × (ts ≡ K k.As ∷ K k.Of ∷ us) × SpellsTime n us rest

abbrev pub SpellsType : Rule ColumnType
SpellsType kind.Int ts rest = ts ≡ N (codes "int") ∷ rest
SpellsType kind.Text ts rest = ts ≡ N (codes "text") ∷ rest
SpellsType kind.Bool ts rest = ts ≡ N (codes "bool") ∷ rest
SpellsType kind.Wide ts rest = ⊥

-- name type
abbrev pub SpellsDefinition : Rule Column
SpellsDefinition column ts rest = (us : List Tok) × (ts ≡ N column.name ∷ us) × SpellsType column.kind us rest

-- literals in parentheses
abbrev pub SpellsTuple : Rule (List Datum)
SpellsTuple values ts rest = (us : List Tok) × (ts ≡ K k.Open ∷ us) × IsListed k.Comma SpellsLiteral values us (K k.Close ∷ rest)

-- LAG number, FROM number or STAY
abbrev pub SpellsKeep : Rule Keep
SpellsKeep (Lag n) ts rest = (1 ≤ n) × (n < lags) × (ts ≡ N (codes "lag") ∷ Number n ∷ rest)
SpellsKeep (From n) ts rest = (us : List Tok) × (ts ≡ K k.From ∷ us) × SpellsTime n us rest
SpellsKeep Stay ts rest = ts ≡ N (codes "stay") ∷ rest

abbrev pub SpellsStatement : Rule Statement
SpellsStatement (Query query as_of) ts rest = (us : List Tok) × SpellsQuery query ts us × SpellsAsOf as_of us rest
SpellsStatement (CreateTable name columns) ts rest = (us : List Tok)
    × (ts ≡ K k.Create ∷ K k.Table ∷ N name ∷ K k.Open ∷ us) × IsListed k.Comma SpellsDefinition columns us (K k.Close ∷ rest)
SpellsStatement (CreateView name query) ts rest = (us : List Tok)
    × (ts ≡ K k.Create ∷ K k.View ∷ N name ∷ K k.As ∷ us) × SpellsQuery query us rest
SpellsStatement (CreateIndex name relation) ts rest = ts ≡ K k.Create ∷ K k.Index ∷ N name ∷ K k.On ∷ N relation ∷ rest
SpellsStatement (DropTable name) ts rest = ts ≡ K k.Drop ∷ K k.Table ∷ N name ∷ rest
SpellsStatement (DropView name) ts rest = ts ≡ K k.Drop ∷ K k.View ∷ N name ∷ rest
SpellsStatement (DropIndex name) ts rest = ts ≡ K k.Drop ∷ K k.Index ∷ N name ∷ rest
SpellsStatement (Insert name rows) ts rest = (us : List Tok)
    × (ts ≡ K k.Insert ∷ K k.Into ∷ N name ∷ K k.Values ∷ us) × IsListed k.Comma SpellsTuple rows us rest
SpellsStatement (Delete name test) ts rest = (us : List Tok)
    × (ts ≡ K k.Delete ∷ K k.From ∷ N name ∷ us) × SpellsWhere test us rest
SpellsStatement Start ts rest = ts ≡ K k.Begin ∷ rest
SpellsStatement Commit ts rest = ts ≡ K k.Commit ∷ rest
SpellsStatement ShowFrontiers ts rest = ts ≡ K k.Show ∷ N (codes "frontiers") ∷ rest
SpellsStatement (Retain name keep) ts rest = (us : List Tok) × (ts ≡ K k.Retain ∷ N name ∷ us) × SpellsKeep keep us rest
SpellsStatement (SetIsolation strict) ts rest = ⊥
SpellsStatement (SetCluster name) ts rest = ⊥

-- the tokens are a statement, with a semicolon behind it or without
abbrev pub Spells : List Tok → Statement → Type 0
Spells ts statement = SpellsStatement statement ts [] ⊎ SpellsStatement statement ts (K k.Semicolon ∷ [])

-- the text is cut into tokens that spell the statement
abbrev pub IsSpelling : List ℕ → Statement → Type 0
IsSpelling text statement = (tokens : List Token) × IsCutInto text tokens × Spells (toks_of text tokens) statement
