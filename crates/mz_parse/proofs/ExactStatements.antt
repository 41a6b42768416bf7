-- The faults of the readers of statements are exact.
use Rattle.std.proofs.Common.{◌≡◌, ℕ, suc, Bool, true, false, ◌&&◌, List, [], ◌∷◌, length, Option, Some, None, Ok, Err, refl, sym, subst, arith}
use Rattle.std.specs.Prelude.{codes, bytes_eq, nat_le, nat_lt}
use Rattle.mz_statement.specs.declared.column.ColumnType.{ColumnType}
use Rattle.mz_statement.specs.declared.column.ColumnType.TheVariants as kind
use Rattle.mz_statement.specs.declared.query.Select.{Select}
use Rattle.mz_statement.specs.declared.statement.Keep.{Keep}
use Rattle.mz_statement.specs.declared.statement.Keep.TheVariants as keeps
use Rattle.mz_statement.specs.declared.statement.Statement.{Statement}
use Rattle.mz_statement.specs.declared.statement.Statement.TheVariants as statement
use Rattle.mz_parse.specs.declared.fault.Fault.{Fault}
use Rattle.mz_grammar.specs.declared.key.Key.TheVariants as k
use Rattle.mz_grammar.specs.declared.token.Tok.{Tok}
use Rattle.mz_grammar.specs.declared.token.Tok.TheVariants.{Key as K, Name as N, Number, Text as T}
use Rattle.mz_grammar.specs.Token.{next}
use Rattle.mz_grammar.specs.Grammar.{SpellsLiteral, SpellsDefinition, SpellsTuple}
use Rattle.mz_parse.proofs.Shorter.{literal_shrinks, definition_shrinks, tuple_shrinks}
use Rattle.mz_parse.proofs.Sound.{literal_sound, definition_sound, tuple_sound}
use Rattle.mz_parse.specs.Reading.{◌>>=◌, Read, listed, key_at, name_at, literal_at, where_at, query_at, time_at, lag_at, as_of_from, as_of_at, type_of, type_from, type_at, definition_at, create_table_at, create_view_at, create_index_at, create_at, drop_at, tuple_at, insert_at, delete_at, show_from, show_at, keep_named, keep_at, retain_at, top_query_at, statement_at, past_semicolon, nothing_behind, whole_at}
use Rattle.mz_parse.proofs.Exact.{IsExact, Rest, past, Live, Exact, EndsAsOf, Good, AllGood, Then, Passes, Step, TokenSteps, goes, refused, alike, Chooses, choice_passes, exact_by, next_none, then_ends, then_passes, value_passes, name_passes, name_then, key_then, optional_passes, token_passes, within_step, like_cases, Lists, listed_passes}
use Rattle.mz_parse.proofs.ExactConditions.{shortens, number_live, number_alive, literal_passes, where_passes}
use Rattle.mz_parse.proofs.ExactSelects.{query_passes}
use Rattle.mz_statement.specs.Statement.{lags, times}

-- ---- times, types and lists

-- a number is read on within its limit
time_step : TokenSteps time_at
time_step most go good (Number n) =
    within_step most time_at go (Number n) (Number 0) (nat_lt n times) n (λ ts. refl) tt
    (number_alive time_at go 0 0 (good 0).live (λ ts. refl)) (good n).exact
time_step most go good (K key) = refused (λ ts. refl)
time_step most go good (N name) = refused (λ ts. refl)
time_step most go good (T text) = refused (λ other ts. refl)

-- a time
time_passes : Passes true false time_at
time_passes = token_passes time_at refl (λ most go good. number_live time_at go 0 0 (good 0).live (λ ts. refl)) time_step

-- a number is read on within its limits
lag_step : TokenSteps lag_at
lag_step most go good (Number n) =
    within_step most lag_at go (Number n) (Number 1) (nat_le 1 n && nat_lt n lags) n (λ ts. refl) tt
    (number_alive lag_at go 1 1 (good 1).live (λ ts. refl)) (good n).exact
lag_step most go good (K key) = refused (λ ts. refl)
lag_step most go good (N name) = refused (λ ts. refl)
lag_step most go good (T text) = refused (λ other ts. refl)

-- a lag
lag_passes : Passes true false lag_at
lag_passes = token_passes lag_at refl (λ most go good. number_live lag_at go 1 1 (good 1).live (λ ts. refl)) lag_step

-- OF and a time
of_passes : Passes true false (λ ts. key_at k.Of ts >>= λ us. time_at us >>= λ n. Ok (Some n.0, n.1))
of_passes = key_then k.Of _ (then_passes time_at _ time_passes (λ n. value_passes (Some n)))

-- [AS OF number]
as_of_passes : Passes true false as_of_at
as_of_passes =
    optional_passes k.As refl as_of_from (λ ts. key_at k.Of ts >>= λ us. time_at us >>= λ n. Ok (Some n.0, n.1)) (λ ts. refl) of_passes
    (value_passes None)

-- a word is read on if it is a type
type_word : (most : ℕ) (go : ColumnType → Rest) → AllGood false most go → (word : List ℕ) (found : Option ColumnType) → type_of word ≡ found
    → Step most most (Then type_at go) (N word)
type_word most go good word (Some kind) is =
    let same : past (N word) (Then type_at go) ≡ go kind = λ i ts. type_from (N word ∷ ts) ts (is i) >>= λ x. go x.0 x.1 in
    goes (subst (Exact most) (sym same) (good kind).exact)
type_word most go good word None is = refused (λ ts i. type_from (N word ∷ ts) ts (is i) >>= λ x. go x.0 x.1)

-- a word may be read on, and no other token is
type_step : TokenSteps type_at
type_step most go good (N word) = type_word most go good word (type_of word) refl
type_step most go good (K key) = refused (λ ts. refl)
type_step most go good (Number n) = refused (λ m ts. refl)
type_step most go good (T text) = refused (λ other ts. refl)

-- a type is alive
type_live : (go : ColumnType → Rest) → Live true (go kind.Int) → Live true (Then type_at go)
type_live go (ts, plain, s, e) = (N (codes "int") ∷ ts, tt, s, e)

-- a type
type_passes : Passes true false type_at
type_passes = token_passes type_at refl (λ most go good. type_live go (good kind.Int).live) type_step

-- name type
definition_passes : Passes true false definition_at
definition_passes = then_passes name_at _ name_passes (λ n. then_passes type_at _ type_passes (λ k. value_passes _))

-- columns with their types in a list
definitions_list : Lists true false k.Comma definition_at
definitions_list = record {
  optional = refl;
  stops = tt;
  short = shortens definition_at SpellsDefinition definition_sound definition_shrinks;
  passes = definition_passes;
}

-- literals in a list
literals_list : Lists true false k.Comma literal_at
literals_list =
    record { optional = refl; stops = tt; short = shortens literal_at SpellsLiteral literal_sound literal_shrinks; passes = literal_passes }

-- literals in parentheses
tuple_passes : Passes false false tuple_at
tuple_passes =
    key_then k.Open _ (then_passes (listed k.Comma literal_at) _ (listed_passes literals_list) (λ vs. key_then k.Close _ (value_passes vs)))

-- tuples in a list
tuples_list : Lists false false k.Comma tuple_at
tuples_list = record { optional = refl; stops = tt; short = shortens tuple_at SpellsTuple tuple_sound tuple_shrinks; passes = tuple_passes }

-- ---- statements

-- behind CREATE TABLE
create_table_passes : Passes true false create_table_at
create_table_passes =
    name_then _ (λ n. key_then k.Open _
    (then_passes (listed k.Comma definition_at) _ (listed_passes definitions_list)
    (λ cs. key_then k.Close _ (value_passes (statement.CreateTable n cs)))))

-- behind CREATE VIEW
create_view_passes : Passes true false create_view_at
create_view_passes =
    name_then _ (λ n. key_then k.As _ (then_passes (query_at false) _ (query_passes false) (λ q. value_passes (statement.CreateView n q))))

-- behind CREATE INDEX
create_index_passes : Passes true false create_index_at
create_index_passes = name_then _ (λ n. key_then k.On _ (then_passes name_at _ name_passes (λ r. value_passes (statement.CreateIndex n r))))

-- a name, as a statement
named_passes : (make : List ℕ → Statement) → Passes true false (λ ts. name_at ts >>= λ n. Ok (make n.0, n.1))
named_passes make = then_passes name_at _ name_passes (λ n. value_passes (make n))

-- TABLE, VIEW and INDEX are read on behind CREATE
create_step : TokenSteps create_at
create_step most go good (K k.Table) = goes (create_table_passes.on most go good).0
create_step most go good (K k.View) = goes (create_view_passes.on most go good).0
create_step most go good (K k.Index) = goes (create_index_passes.on most go good).0
create_step most go good (K key) = refused (λ ts. refl)
create_step most go good (N name) = refused (λ ts. refl)
create_step most go good (Number n) = refused (λ m ts. refl)
create_step most go good (T text) = refused (λ other ts. refl)

-- what stands behind CREATE is alive
create_live : (go : Statement → Rest) → Live true (Then create_index_at go) → Live true (Then create_at go)
create_live go (ts, plain, s, e) = (K k.Index ∷ ts, refl, s, e)

-- behind CREATE
create_passes : Passes true false create_at
create_passes = token_passes create_at refl (λ most go good. create_live go (create_index_passes.on most go good).1) create_step

-- TABLE, VIEW and INDEX are read on behind DROP
drop_step : TokenSteps drop_at
drop_step most go good (K k.Table) = goes ((named_passes statement.DropTable).on most go good).0
drop_step most go good (K k.View) = goes ((named_passes statement.DropView).on most go good).0
drop_step most go good (K k.Index) = goes ((named_passes statement.DropIndex).on most go good).0
drop_step most go good (K key) = refused (λ ts. refl)
drop_step most go good (N name) = refused (λ ts. refl)
drop_step most go good (Number n) = refused (λ m ts. refl)
drop_step most go good (T text) = refused (λ other ts. refl)

-- what stands behind DROP is alive
drop_live : (go : Statement → Rest) → Live true (go (statement.DropView [])) → Live true (Then drop_at go)
drop_live go (ts, plain, s, e) = (K k.View ∷ N [] ∷ ts, refl, s, e)

-- behind DROP
drop_passes : Passes true false drop_at
drop_passes = token_passes drop_at refl (λ most go good. drop_live go (good _).live) drop_step

-- behind INSERT
insert_passes : Passes true false insert_at
insert_passes =
    key_then k.Into _ (name_then _
    (λ n. key_then k.Values _ (then_passes (listed k.Comma tuple_at) _ (listed_passes tuples_list)
    (λ rs. value_passes (statement.Insert n rs)))))

-- behind DELETE
delete_passes : Passes true false delete_at
delete_passes =
    key_then k.From _ (then_passes name_at _ name_passes
    (λ n. then_passes where_at _ where_passes (λ w. value_passes (statement.Delete n w))))

-- a word is read on if it is FRONTIERS
show_word : (most : ℕ) (go : Statement → Rest) → AllGood false most go → (word : List ℕ) (shows : Bool)
    → bytes_eq word (codes "frontiers") ≡ shows → Step most most (Then show_at go) (N word)
show_word most go good word true is =
    let same : past (N word) (Then show_at go) ≡ go statement.ShowFrontiers = λ i ts. show_from (N word ∷ ts) ts (is i)
    >>= λ x. go x.0 x.1 in
    goes (subst (Exact most) (sym same) (good statement.ShowFrontiers).exact)
show_word most go good word false is = refused (λ ts i. show_from (N word ∷ ts) ts (is i) >>= λ x. go x.0 x.1)

-- a word may be read on, and no other token is
show_step : TokenSteps show_at
show_step most go good (N word) = show_word most go good word (bytes_eq word (codes "frontiers")) refl
show_step most go good (K key) = refused (λ ts. refl)
show_step most go good (Number n) = refused (λ m ts. refl)
show_step most go good (T text) = refused (λ other ts. refl)

-- what stands behind SHOW is alive
show_live : (go : Statement → Rest) → Live true (go statement.ShowFrontiers) → Live true (Then show_at go)
show_live go (ts, plain, s, e) = (N (codes "frontiers") ∷ ts, tt, s, e)

-- behind SHOW
show_passes : Passes true false show_at
show_passes = token_passes show_at refl (λ most go good. show_live go (good statement.ShowFrontiers).live) show_step

-- behind LAG
lagged_passes : Passes true false (λ ts. lag_at ts >>= λ n. Ok (keeps.Lag n.0, n.1))
lagged_passes = then_passes lag_at _ lag_passes (λ n. value_passes (keeps.Lag n))

-- behind FROM
from_passes : Passes true false (λ ts. time_at ts >>= λ n. Ok (keeps.From n.0, n.1))
from_passes = then_passes time_at _ time_passes (λ n. value_passes (keeps.From n))

-- a word is read on if it is LAG or STAY
keep_word : (most : ℕ) (go : Keep → Rest) → AllGood false most go → (word : List ℕ) (lag stay : Bool) → bytes_eq word (codes "lag") ≡ lag
    → bytes_eq word (codes "stay") ≡ stay → Step most most (Then keep_at go) (N word)
keep_word most go good word true stay is also =
    let same : past (N word) (Then keep_at go) ≡ Then (λ ts. lag_at ts >>= λ n. Ok (keeps.Lag n.0, n.1)) go = λ i ts. keep_named
    (N word ∷ ts) ts (is i) (bytes_eq word (codes "stay")) >>= λ x. go x.0 x.1 in
    goes (subst (Exact most) (sym same) (lagged_passes.on most go good).0)
keep_word most go good word false true is also =
    let same : past (N word) (Then keep_at go) ≡ go keeps.Stay = λ i ts. keep_named (N word ∷ ts) ts (is i) (also i) >>= λ x. go x.0 x.1 in
    goes (subst (Exact most) (sym same) (good keeps.Stay).exact)
keep_word most go good word false false is also = refused (λ ts i. keep_named (N word ∷ ts) ts (is i) (also i) >>= λ x. go x.0 x.1)

-- FROM and some words are read on
keep_step : TokenSteps keep_at
keep_step most go good (N word) = keep_word most go good word (bytes_eq word (codes "lag")) (bytes_eq word (codes "stay")) refl refl
keep_step most go good (K k.From) = goes (from_passes.on most go good).0
keep_step most go good (K key) = refused (λ ts. refl)
keep_step most go good (Number n) = refused (λ m ts. refl)
keep_step most go good (T text) = refused (λ other ts. refl)

-- what is kept is alive
keep_live : (go : Keep → Rest) → Live true (go keeps.Stay) → Live true (Then keep_at go)
keep_live go (ts, plain, s, e) = (N (codes "stay") ∷ ts, tt, s, e)

-- what is kept
keep_passes : Passes true false keep_at
keep_passes = token_passes keep_at refl (λ most go good. keep_live go (good keeps.Stay).live) keep_step

-- behind RETAIN
retain_passes : Passes true false retain_at
retain_passes = then_passes name_at _ name_passes (λ n. then_passes keep_at _ keep_passes (λ p. value_passes (statement.Retain n p)))

-- AS OF behind the query
timed_query_passes : (query : List Select) → Passes true false (λ ts. as_of_at ts >>= λ n. Ok (statement.Query query n.0, n.1))
timed_query_passes query = then_passes as_of_at _ as_of_passes (λ n. value_passes (statement.Query query n))

-- the time of AS OF
abbrev some_time : List Tok → Read (Option ℕ)
some_time ts = time_at ts >>= λ n. Ok (Some n.0, n.1)

-- such a time
some_time_passes : Passes true false some_time
some_time_passes = then_passes time_at _ time_passes (λ n. value_passes (Some n))

-- a query and its time
timed_passes : (query : List Select) → Passes true false (λ ts. some_time ts >>= λ n. Ok (statement.Query query n.0, n.1))
timed_passes query = then_passes some_time _ some_time_passes (λ n. value_passes (statement.Query query n))

-- AS OF goes on with a query
query_ends : (query : List Select) (most : ℕ) (go : Statement → Rest) → AllGood false most go
    → EndsAsOf true most (Then (λ ts. as_of_at ts >>= λ n. Ok (statement.Query query n.0, n.1)) go)
query_ends query most go good =
    (Then (λ ts. some_time ts >>= λ n. Ok (statement.Query query n.0, n.1)) go, ((timed_passes query).on most go good).0, λ ts. refl)

-- query [AS OF number]
top_query_passes : Passes true false top_query_at
top_query_passes = then_ends (query_at true) _ (query_passes true) timed_query_passes query_ends

-- a token that begins no other statement begins a query, if any
statement_step : TokenSteps statement_at
statement_step most go good (K k.Create) = goes (create_passes.on most go good).0
statement_step most go good (K k.Drop) = goes (drop_passes.on most go good).0
statement_step most go good (K k.Insert) = goes (insert_passes.on most go good).0
statement_step most go good (K k.Delete) = goes (delete_passes.on most go good).0
statement_step most go good (K k.Begin) = goes (good statement.Start).exact
statement_step most go good (K k.Commit) = goes (good statement.Commit).exact
statement_step most go good (K k.Show) = goes (show_passes.on most go good).0
statement_step most go good (K k.Retain) = goes (retain_passes.on most go good).0
statement_step most go good tok =
    alike (Then top_query_at go) (top_query_passes.on most go good).0
    (λ one like. like_cases (λ u. past u (Then statement_at go) ≡ past u (Then top_query_at go)) tok one like refl (λ n. refl)
    (λ text. refl))

-- a statement is alive
statement_live : (go : Statement → Rest) → Live true (go statement.Start) → Live true (Then statement_at go)
statement_live go (ts, plain, s, e) = (K k.Begin ∷ ts, refl, s, e)

-- a statement
statement_passes : Passes true false statement_at
statement_passes = token_passes statement_at refl (λ most go good. statement_live go (good statement.Start).live) statement_step

-- ---- the whole

-- what stands behind a statement
abbrev end_at : Statement → Rest
end_at s ts = nothing_behind s (past_semicolon ts (next k.Semicolon ts))

-- no token is read on behind the end
nothing_step : (most : ℕ) (s : Statement) (tok : Tok) → Step most most (nothing_behind s) tok
nothing_step most s (K key) = refused (λ ts. refl)
nothing_step most s (N name) = refused (λ ts. refl)
nothing_step most s (Number n) = refused (λ m ts. refl)
nothing_step most s (T text) = refused (λ other ts. refl)

-- the end
nothing_exact : (most : ℕ) (s : Statement) → Exact most (nothing_behind s)
nothing_exact most s = exact_by most most (omega arith) (nothing_behind s) ([], s, refl) (λ fault lt e. absurd cc) (nothing_step most s)

-- a semicolon may stand before the end
semicolon_chooses : (s : Statement) → Chooses k.Semicolon (end_at s) (nothing_behind s) (nothing_behind s)
semicolon_chooses s = record {
  empty = refl;
  found = refl;
  other = λ tok differs i ts. nothing_behind s (past_semicolon (tok ∷ ts) (next_none k.Semicolon tok ts differs i));
}

-- the end, with a semicolon or without
end_good : (most : ℕ) (s : Statement) → Good false most (end_at s)
end_good most s =
    let exact = nothing_exact most s in
    let both = choice_passes k.Semicolon refl most (end_at s) (nothing_behind s) (nothing_behind s) (semicolon_chooses s) exact exact
    ([], tt, s, refl) in
    record { exact = both.0; live = both.1; ends = tt }

-- each fault of a whole text's tokens is exact
pub whole_exact : (ts : List Tok) (fault : Fault) → whole_at ts ≡ Err fault → IsExact whole_at fault ts
whole_exact ts fault e = (statement_passes.on (suc (length ts)) end_at (end_good (suc (length ts)))).0 ts fault (omega arith) e
