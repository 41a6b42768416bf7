-- The faults of the readers of names, literals and conditions are exact.
use Rattle.std.proofs.Common.{◌≡◌, ℕ, ◌+◌, zero, suc, true, false, List, [], ◌∷◌, length, Some, None, Ok, refl, sym, subst, ◌∙◌}
use Rattle.std.specs.Prelude.{nat_le, pos, neg_ℤ}
use Rattle.mz_value.specs.declared.datum.Datum.{Datum}
use Rattle.mz_value.specs.declared.datum.Datum.TheVariants.{Int, Text, Bool as Truth}
use Rattle.mz_statement.specs.declared.condition.Op.{Op}
use Rattle.mz_statement.specs.declared.condition.Op.TheVariants.{Eq, Ne, Lt, Le, Gt, Ge}
use Rattle.mz_statement.specs.declared.condition.Side.TheVariants as side
use Rattle.mz_statement.specs.declared.condition.Test.{Test}
use Rattle.mz_statement.specs.declared.condition.Test.TheVariants.{Not, Compare}
use Rattle.mz_grammar.specs.declared.key.Key.TheVariants as k
use Rattle.mz_grammar.specs.declared.token.Tok.{Tok}
use Rattle.mz_grammar.specs.declared.token.Tok.TheVariants.{Key as K, Name as N, Number, Text as T}
use Rattle.mz_grammar.specs.Token.{next}
use Rattle.mz_grammar.specs.Joined.{all_of, any_of}
use Rattle.mz_grammar.specs.Grammar.{Rule, SpellsColumn, SpellsConjunction, SpellsAtom}
use Rattle.mz_parse.specs.Reading.{◌>>=◌, Read, listed, key_at, name_at, alias_from, alias_at, column_from, column_at, negative_at, plain_at, literal_from, literal_at, value_at, side_at, op_at, comparison_at, conjunction_at, disjunction_at, atom_from, atom_at, condition_at, where_from, where_at}
use Rattle.mz_parse.proofs.Shorter.{Shrinks, column_shrinks, conjunction_shrinks, atom_shrinks}
use Rattle.mz_parse.proofs.Sound.{Sound, column_sound, conjunction_sound, atom_sound}
use Rattle.mz_parse.proofs.Exact.{Rest, past, Alive, Live, Exact, Then, Passes, TokenSteps, goes, refused, alike, then_passes, value_passes, name_passes, key_then, optional_passes, token_passes, within_step, like_cases, Shortens, Lists, listed_passes}
use Rattle.mz_statement.specs.Value.{greatest_int, longest_text}
use Rattle.mz_statement.specs.Test.{greatest_depth}

-- what a rule spells is read, and no longer behind it than before it
pub shortens : {A : Type 0} (r : List Tok → Read A) (Is : Rule A) → Sound r Is → Shrinks Is → Shortens r
shortens r Is sound shrinks ts x us e = shrinks x ts us (sound ts x us e)

-- ---- names and columns

-- [AS name]
pub alias_passes : Passes true false alias_at
alias_passes =
    optional_passes k.As refl alias_from (λ ts. name_at ts >>= λ n. Ok (Some n.0, n.1)) (λ ts. refl)
    (then_passes name_at _ name_passes (λ n. value_passes (Some n))) (value_passes None)

-- a column behind its first word
pub column_from_passes : (first : List ℕ) → Passes true false (λ ts. column_from first ts (next k.Dot ts))
column_from_passes first =
    optional_passes k.Dot refl (column_from first) (λ ts. name_at ts >>= λ n. Ok (record { qualifier = Some first; name = n.0 }, n.1))
    (λ ts. refl)
    (then_passes name_at _ name_passes (λ n. value_passes _)) (value_passes _)

-- a column
pub column_passes : Passes true false column_at
column_passes = then_passes name_at _ name_passes column_from_passes

-- columns in a list
pub columns_list : Lists true false k.Comma column_at
columns_list =
    record { optional = refl; stops = tt; short = shortens column_at SpellsColumn column_sound column_shrinks; passes = column_passes }

-- ---- literals and comparisons

-- what begins with a number is alive
pub number_live : {A : Type 0} (r : List Tok → Read A) (go : A → Rest) (n : ℕ) (x : A) → Live true (go x)
    → ((ts : List Tok) → r (Number n ∷ ts) ≡ Ok (x, ts)) → Live true (Then r go)
number_live r go n x (ts, plain, s, e) is = (Number n ∷ ts, tt, s, (λ i. is ts i >>= λ y. go y.0 y.1) ∙ e)

-- what goes on behind a number is alive
pub number_alive : {A : Type 0} (r : List Tok → Read A) (go : A → Rest) (n : ℕ) (x : A) → Live true (go x)
    → ((ts : List Tok) → r (Number n ∷ ts) ≡ Ok (x, ts)) → Alive (past (Number n) (Then r go))
number_alive r go n x (ts, plain, s, e) is = (ts, s, (λ i. is ts i >>= λ y. go y.0 y.1) ∙ e)

-- a number behind a minus is read on within its limit
negative_step : TokenSteps negative_at
negative_step most go good (Number n) =
    within_step most negative_at go (Number n) (Number 0) (nat_le n (greatest_int + 1)) (Int (neg_ℤ (pos n))) (λ ts. refl) tt
    (number_alive negative_at go 0 (Int (neg_ℤ (pos 0))) (good _).live (λ ts. refl)) (good _).exact
negative_step most go good (K key) = refused (λ ts. refl)
negative_step most go good (N name) = refused (λ ts. refl)
negative_step most go good (T text) = refused (λ other ts. refl)

-- a number behind a minus
negative_passes : Passes true false negative_at
negative_passes =
    token_passes negative_at refl (λ most go good. number_live negative_at go 0 (Int (neg_ℤ (pos 0))) (good _).live
    (λ ts. refl)) negative_step

-- what goes on behind a text is alive
text_alive : (go : Datum → Rest) → Live true (go (Text [])) → Alive (past (T []) (Then plain_at go))
text_alive go (ts, plain, s, e) = (ts, s, e)

-- a number and a text are read on within their limits, and the words of truth
plain_step : TokenSteps plain_at
plain_step most go good (Number n) =
    within_step most plain_at go (Number n) (Number 0) (nat_le n greatest_int) (Int (pos n)) (λ ts. refl) tt
    (number_alive plain_at go 0 (Int (pos 0)) (good _).live (λ ts. refl)) (good _).exact
plain_step most go good (T text) =
    within_step most plain_at go (T text) (T []) (nat_le (length text) longest_text) (Text text) (λ ts. refl) tt (text_alive go (good _).live)
    (good _).exact
plain_step most go good (K k.True) = goes (good (Truth true)).exact
plain_step most go good (K k.False) = goes (good (Truth false)).exact
plain_step most go good (K key) = refused (λ ts. refl)
plain_step most go good (N name) = refused (λ ts. refl)

-- a literal without a minus
plain_passes : Passes true false plain_at
plain_passes = token_passes plain_at refl (λ most go good. number_live plain_at go 0 (Int (pos 0)) (good _).live (λ ts. refl)) plain_step

-- a literal
pub literal_passes : Passes true false literal_at
literal_passes = optional_passes k.Minus refl literal_from negative_at (λ ts. refl) negative_passes plain_passes

-- a literal as a side
value_side_passes : Passes true false value_at
value_side_passes = then_passes literal_at _ literal_passes (λ v. value_passes (side.Literal v))

-- a column as a side, behind its first word
column_side_passes : (first : List ℕ) → Passes true false (λ ts. column_from first ts (next k.Dot ts) >>= λ c. Ok (side.Column c.0, c.1))
column_side_passes first =
    then_passes (λ ts. column_from first ts (next k.Dot ts)) _ (column_from_passes first) (λ c. value_passes (side.Column c))

-- a side that begins with a name is a column, and else a value
side_step : TokenSteps side_at
side_step most go good (N name) =
    let is : past (N name) (Then side_at go) ≡ Then
    (λ ts. column_from name ts (next k.Dot ts) >>= λ c. Ok (side.Column c.0, c.1)) go = refl in
    goes (subst (Exact most) (sym is) ((column_side_passes name).on most go good).0)
side_step most go good tok =
    alike (Then value_at go) (value_side_passes.on most go good).0
    (λ one like. like_cases (λ u. past u (Then side_at go) ≡ past u (Then value_at go)) tok one like refl (λ n. refl) (λ text. refl))

-- a side
side_passes : Passes true false side_at
side_passes =
    token_passes side_at refl (λ most go good. number_live side_at go 0 (side.Literal (Int (pos 0))) (good _).live (λ ts. refl)) side_step

-- the signs that compare are read on
op_step : TokenSteps op_at
op_step most go good (K k.Equal) = goes (good Eq).exact
op_step most go good (K k.Unequal) = goes (good Ne).exact
op_step most go good (K k.Less) = goes (good Lt).exact
op_step most go good (K k.LessEqual) = goes (good Le).exact
op_step most go good (K k.Greater) = goes (good Gt).exact
op_step most go good (K k.GreaterEqual) = goes (good Ge).exact
op_step most go good (K key) = refused (λ ts. refl)
op_step most go good (N name) = refused (λ ts. refl)
op_step most go good (Number n) = refused (λ m ts. refl)
op_step most go good (T text) = refused (λ other ts. refl)

-- a sign is alive
op_live : (go : Op → Rest) → Live true (go Eq) → Live true (Then op_at go)
op_live go (ts, plain, s, e) = (K k.Equal ∷ ts, refl, s, e)

-- a sign
op_passes : Passes true false op_at
op_passes = token_passes op_at refl (λ most go good. op_live go (good Eq).live) op_step

-- a comparison
comparison_passes : Passes true false comparison_at
comparison_passes =
    then_passes column_at _ column_passes
    (λ c. then_passes op_at _ op_passes (λ o. then_passes side_at _ side_passes (λ s. value_passes (Compare c o s))))

-- ---- conditions

-- tests joined by AND
conjunction_passes : (r : List Tok → Read Test) → Lists true false k.And r → Passes true false (conjunction_at r)
conjunction_passes r lists = then_passes (listed k.And r) _ (listed_passes lists) (λ tests. value_passes (all_of tests))

-- tests joined by OR
disjunction_passes : (r : List Tok → Read Test) → Lists true false k.Or (conjunction_at r) → Passes true false (disjunction_at r)
disjunction_passes r lists = then_passes (listed k.Or (conjunction_at r)) _ (listed_passes lists) (λ tests. value_passes (any_of tests))

-- tests in a list that AND joins
atoms_list : (depth : ℕ) → Passes true false (atom_at depth) → Lists true false k.And (atom_at depth)
atoms_list depth one =
    record {
      optional = refl;
      stops = tt;
      short = shortens (atom_at depth) (SpellsAtom depth) (atom_sound depth)
          (atom_shrinks depth);
      passes = one;
    }

-- tests in a list that OR joins
conjunctions_list : (depth : ℕ) → Passes true false (atom_at depth) → Lists true false k.Or (conjunction_at (atom_at depth))
conjunctions_list depth one = record {
  optional = refl;
  stops = tt;
  short = shortens (conjunction_at (atom_at depth)) (SpellsConjunction (SpellsAtom depth))
      (conjunction_sound (atom_at depth) (SpellsAtom depth) (atom_sound depth)) (conjunction_shrinks (SpellsAtom depth) (atom_shrinks depth));
  passes = conjunction_passes (atom_at depth) (atoms_list depth one);
}

-- all tests of one depth
tests_passes : (depth : ℕ) → Passes true false (atom_at depth) → Passes true false (disjunction_at (atom_at depth))
tests_passes depth one = disjunction_passes (atom_at depth) (conjunctions_list depth one)

-- a test of so many NOTs and parentheses
atom_passes : (depth : ℕ) → Passes true false (atom_at depth)
atom_passes zero = comparison_passes
atom_passes (suc depth) =
    optional_passes k.Not refl (λ ts found. atom_from (atom_at depth) ts found (next k.Open ts))
    (λ ts. atom_at depth ts >>= λ x. Ok (Not x.0, x.1)) (λ ts. refl)
    (then_passes (atom_at depth) _ (atom_passes depth) (λ x. value_passes (Not x)))
    (optional_passes k.Open refl (λ ts found. atom_from (atom_at depth) ts None found)
    (λ ts. disjunction_at (atom_at depth) ts >>= λ x. key_at k.Close x.1 >>= λ vs. Ok (x.0, vs)) (λ ts. refl)
    (then_passes (disjunction_at (atom_at depth)) _ (tests_passes depth (atom_passes depth))
    (λ x. key_then k.Close _ (value_passes x))) comparison_passes)

-- a condition
condition_passes : Passes true false condition_at
condition_passes = tests_passes greatest_depth (atom_passes greatest_depth)

-- [WHERE condition]
pub where_passes : Passes true false where_at
where_passes =
    optional_passes k.Where refl where_from (λ ts. condition_at ts >>= λ c. Ok (Some c.0, c.1)) (λ ts. refl)
    (then_passes condition_at _ condition_passes (λ c. value_passes (Some c))) (value_passes None)
