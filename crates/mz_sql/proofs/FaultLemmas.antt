-- A text has one fault at most, and none where it spells a statement.
use Rattle.std.proofs.Common.{◌≡◌, ◌≢◌, ℕ, List, [], ◌∷◌, ◌++◌, length, ◌⊎◌, inl, inr, refl, sym, ap, subst, ◌∙◌, append_assoc, append-nil}
use Rattle.mz_lex.specs.declared.token.Token.{Token}
use Rattle.mz_lex.specs.Cut.{IsCutInto}
use Rattle.mz_lex.specs.Fault.{IsFirstFault}
use Rattle.mz_lex.proofs.CutLemmas as cuts
use Rattle.mz_statement.specs.declared.statement.Statement.{Statement}
use Rattle.mz_grammar.specs.declared.token.Tok.{Tok}
use Rattle.mz_grammar.specs.declared.token.Tok.TheVariants.{Key, Name, Number, Text}
use Rattle.mz_grammar.specs.Token.{toks_of}
use Rattle.mz_grammar.specs.Grammar.{Spells, IsSpelling}
use Rattle.mz_grammar.specs.declared.fault.ParseFault.{ParseFault}
use Rattle.mz_grammar.specs.declared.fault.ParseFault.TheVariants.{Syntax, LiteralRange, Memory}
use Rattle.mz_grammar.specs.Faults.{Viable, IsLike, IsStuck, IsOutOfRange, place_of, literal_start, IsSyntaxAt, IsRangeAt, IsParseFault}

-- ---- fronts of the same tokens

-- the front of what can be made a statement can be made one
shorter_viable : (front more : List Tok) → Viable (front ++ more) → Viable front
shorter_viable front more (statement, rest, spelled) =
    (statement, more ++ rest, subst (λ l. Spells l statement) (append_assoc front more rest) spelled)

-- so can the front with the token behind it
next_viable : (front : List Tok) (tok : Tok) (more : List Tok) → Viable (front ++ tok ∷ more) → Viable (front ++ tok ∷ [])
next_viable front tok more on =
    shorter_viable (front ++ tok ∷ []) more (subst Viable (sym (append_assoc front (tok ∷ []) more)) on)

-- the other front begins with this one and the token behind it
record Passes (front rest other : List Tok) : Type 0 where
  tok : Tok
  behind : List Tok
  more : List Tok
  begins : rest ≡ tok ∷ behind
  parts : other ≡ front ++ tok ∷ more

-- with one token more before both fronts too
passes_more : (tok same : Tok) (front rest other : List Tok) → tok ≡ same → Passes front rest other
    → Passes (tok ∷ front) rest (same ∷ other)
passes_more tok same front rest other is passes = record {
  tok = passes.tok;
  behind = passes.behind;
  more = passes.more;
  begins = passes.begins;
  parts = λ i. sym is i ∷ passes.parts i;
}

-- two fronts are one, or one begins with the other and the token behind it
abbrev Compared : List Tok → List Tok → List Tok → List Tok → Type 0
Compared front rest other left = ((front ≡ other) × (rest ≡ left)) ⊎ (Passes front rest other ⊎ Passes other left front)

-- with one token more before both too
compared_more : (tok same : Tok) (front rest other left : List Tok) → tok ≡ same → Compared front rest other left
    → Compared (tok ∷ front) rest (same ∷ other) left
compared_more tok same front rest other left is (inl (fronts, rests)) = inl (λ i. is i ∷ fronts i, rests)
compared_more tok same front rest other left is (inr (inl passes)) = inr (inl (passes_more tok same front rest other is passes))
compared_more tok same front rest other left is (inr (inr passes)) = inr (inr (passes_more same tok other left front (sym is) passes))

-- so it is with any two fronts of the same tokens
compared : (front rest other left : List Tok) → front ++ rest ≡ other ++ left → Compared front rest other left
compared [] rest [] left parts = inl (refl, parts)
compared [] rest (tok ∷ other) left parts =
    inr (inl (record { tok = tok; behind = other ++ left; more = other; begins = parts; parts = refl }))
compared (tok ∷ front) rest [] left parts =
    inr (inr (record { tok = tok; behind = front ++ rest; more = front; begins = sym parts; parts = refl }))
compared (tok ∷ front) rest (same ∷ other) left parts =
    let first : tok ≡ same = cc in
    let later : front ++ rest ≡ other ++ left = cc in
    compared_more tok same front rest other left first (compared front rest other left later)

-- ---- where tokens stop

-- the front can be made a statement, but not with the token behind it
record Stops (ts front rest : List Tok) : Type 0 where
  parts : ts ≡ front ++ rest
  before : Viable front
  here : (tok : Tok) (more : List Tok) → rest ≡ tok ∷ more → Viable (front ++ tok ∷ []) → ⊥

-- nothing that passes it can be made a statement
none_passes : (ts front rest other : List Tok) → Stops ts front rest → Viable other → Passes front rest other → ⊥
none_passes ts front rest other stops viable passes =
    stops.here passes.tok passes.behind passes.begins (next_viable front passes.tok passes.more (subst Viable passes.parts viable))

-- two stops are one, since neither passes the other
same_stop : (ts front rest other left : List Tok) → Stops ts front rest → Stops ts other left → Compared front rest other left
    → (front ≡ other) × (rest ≡ left)
same_stop ts front rest other left one two (inl same) = same
same_stop ts front rest other left one two (inr (inl passes)) = absurd (none_passes ts front rest other one two.before passes)
same_stop ts front rest other left one two (inr (inr passes)) = absurd (none_passes ts other left front two one.before passes)

-- tokens have one stop at most
one_stop : (ts front rest other left : List Tok) → Stops ts front rest → Stops ts other left → (front ≡ other) × (rest ≡ left)
one_stop ts front rest other left one two =
    same_stop ts front rest other left one two (compared front rest other left (sym one.parts ∙ two.parts))

-- a token is like itself
like_itself : (tok : Tok) → IsLike tok tok
like_itself (Key key) = refl
like_itself (Name name) = refl
like_itself (Number n) = tt
like_itself (Text text) = tt

-- tokens stop where they can't go on
stuck_stops : (ts front rest : List Tok) → IsStuck ts front rest → Stops ts front rest
stuck_stops ts front rest stuck = record {
  parts = stuck.parts;
  before = stuck.before;
  here = λ tok more is. stuck.here tok more is tok (like_itself tok);
}

-- and where a literal is out of its range
range_stops : (ts front : List Tok) (literal : Tok) (rest : List Tok) → IsOutOfRange ts front literal rest
    → Stops ts front (literal ∷ rest)
range_stops ts front literal rest over = record {
  parts = over.parts;
  before = over.before;
  here = λ tok more is on. over.here (let same : tok ≡ literal = cc in subst (λ one. Viable (front ++ one ∷ [])) same on);
}

-- they don't do both: another literal in place of this one would go on
not_stuck_at_literal : (ts front rest other : List Tok) (literal : Tok) (left : List Tok) → IsStuck ts front rest
    → IsOutOfRange ts other literal left → ⊥
not_stuck_at_literal ts front rest other literal left stuck over =
    let (fronts, rests) =
    one_stop ts front rest other (literal ∷ left) (stuck_stops ts front rest stuck) (range_stops ts other literal left over) in
    let (another, like, on) = over.another in
    stuck.here literal left rests another like (subst (λ l. Viable (l ++ another ∷ [])) (sym fronts) on)

-- ---- faults among the tokens of a text

-- the place where these tokens can't go on
abbrev IsSyntaxAmong : List ℕ → List Token → ℕ → Type 0
IsSyntaxAmong text tokens at = (front rest : List Tok)
    × IsStuck (toks_of text tokens) front rest × (at ≡ place_of text tokens (length front))

-- the place of a literal among these tokens that is out of its range
abbrev IsRangeAmong : List ℕ → List Token → ℕ → Type 0
IsRangeAmong text tokens at = (front : List Tok) × (literal : Tok) × (rest : List Tok)
    × IsOutOfRange (toks_of text tokens) front literal rest × (at ≡ place_of text tokens (literal_start front))

-- a fault of the text is one among its tokens, since it has no others
syntax_among : (text : List ℕ) (tokens : List Token) (at : ℕ) → IsCutInto text tokens → IsSyntaxAt text at
    → IsSyntaxAmong text tokens at
syntax_among text tokens at cut (others, front, rest, again, stuck, is) =
    subst (λ l. IsSyntaxAmong text l at) (cuts.one_cut text others tokens again cut) (front, rest, stuck, is)

-- so is a literal out of its range
range_among : (text : List ℕ) (tokens : List Token) (at : ℕ) → IsCutInto text tokens → IsRangeAt text at
    → IsRangeAmong text tokens at
range_among text tokens at cut (others, front, literal, rest, again, over, is) =
    subst (λ l. IsRangeAmong text l at) (cuts.one_cut text others tokens again cut) (front, literal, rest, over, is)

-- tokens can't go on at one place at most
one_syntax : (text : List ℕ) (tokens : List Token) (at place : ℕ) → IsSyntaxAmong text tokens at → IsSyntaxAmong text tokens place
    → at ≡ place
one_syntax text tokens at place (front, rest, stuck, is) (other, left, caught, so) =
    let list = toks_of text tokens in
    let (fronts, rests) = one_stop list front rest other left (stuck_stops list front rest stuck) (stuck_stops list other left caught) in
    is ∙ ap (λ l. place_of text tokens (length l)) fronts ∙ sym so

-- tokens have a literal out of its range at one place at most
one_range : (text : List ℕ) (tokens : List Token) (at place : ℕ) → IsRangeAmong text tokens at → IsRangeAmong text tokens place
    → at ≡ place
one_range text tokens at place (front, literal, rest, over, is) (other, second, left, beyond, so) =
    let list = toks_of text tokens in
    let one = range_stops list front literal rest over in
    let two = range_stops list other second left beyond in
    let (fronts, rests) = one_stop list front (literal ∷ rest) other (second ∷ left) one two in
    is ∙ ap (λ l. place_of text tokens (literal_start l)) fronts ∙ sym so

-- tokens don't have both faults
not_both : (text : List ℕ) (tokens : List Token) (at place : ℕ) → IsSyntaxAmong text tokens at → IsRangeAmong text tokens place → ⊥
not_both text tokens at place (front, rest, stuck, is) (other, literal, left, over, so) =
    not_stuck_at_literal (toks_of text tokens) front rest other literal left stuck over

-- ---- one fault

-- a text where no token begins has no tokens that can't go on
not_cut_for_syntax : (text : List ℕ) (at place : ℕ) → IsFirstFault text at → IsSyntaxAt text place → ⊥
not_cut_for_syntax text at place first (tokens, front, rest, cut, stuck, is) = cuts.not_both text tokens at cut first

-- nor a literal out of its range
not_cut_for_range : (text : List ℕ) (at place : ℕ) → IsFirstFault text at → IsRangeAt text place → ⊥
not_cut_for_range text at place first (tokens, front, literal, rest, cut, over, is) = cuts.not_both text tokens at cut first

-- a text has a syntax fault at one place at most
one_place : (text : List ℕ) (at place : ℕ) → IsParseFault text (Syntax at) → IsParseFault text (Syntax place) → at ≡ place
one_place text at place (inl one) (inl two) = cuts.one_fault text at place one two
one_place text at place (inl one) (inr two) = absurd (not_cut_for_syntax text at place one two)
one_place text at place (inr one) (inl two) = absurd (not_cut_for_syntax text place at two one)
one_place text at place (inr (tokens, front, rest, cut, stuck, is)) (inr two) =
    one_syntax text tokens at place (front, rest, stuck, is) (syntax_among text tokens place cut two)

-- a text has a literal out of its range at one place at most
one_literal : (text : List ℕ) (at place : ℕ) → IsRangeAt text at → IsRangeAt text place → at ≡ place
one_literal text at place (tokens, front, literal, rest, cut, over, is) two =
    one_range text tokens at place (front, literal, rest, over, is) (range_among text tokens place cut two)

-- a text with a syntax fault has no literal out of its range
one_kind : (text : List ℕ) (at place : ℕ) → IsParseFault text (Syntax at) → IsParseFault text (LiteralRange place) → ⊥
one_kind text at place (inl one) two = not_cut_for_range text at place one two
one_kind text at place (inr (tokens, front, rest, cut, stuck, is)) two =
    not_both text tokens at place (front, rest, stuck, is) (range_among text tokens place cut two)

-- a text has one fault at most, want of memory aside
pub one_fault : (text : List ℕ) (one two : ParseFault) → IsParseFault text one → IsParseFault text two → one ≢ Memory → two ≢ Memory
    → one ≡ two
one_fault text Memory two first second some other = absurd (some refl)
one_fault text (Syntax at) Memory first second some other = absurd (other refl)
one_fault text (LiteralRange at) Memory first second some other = absurd (other refl)
one_fault text (Syntax at) (Syntax place) first second some other = ap (λ n. Syntax n) (one_place text at place first second)
one_fault text (LiteralRange at) (LiteralRange place) first second some other =
    ap (λ n. LiteralRange n) (one_literal text at place first second)
one_fault text (Syntax at) (LiteralRange place) first second some other = absurd (one_kind text at place first second)
one_fault text (LiteralRange at) (Syntax place) first second some other = absurd (one_kind text place at second first)

-- ---- no fault

-- tokens that spell a statement can go on
spelled_not_stuck : (text : List ℕ) (tokens : List Token) (statement : Statement) (at : ℕ) → Spells (toks_of text tokens) statement
    → IsSyntaxAmong text tokens at → ⊥
spelled_not_stuck text tokens statement at spelled (front, rest, stuck, is) = stuck.none statement spelled

-- no front of such tokens stops at a token
none_stops : (ts front : List Tok) (tok : Tok) (rest : List Tok) (statement : Statement) → Spells ts statement
    → Stops ts front (tok ∷ rest) → ⊥
none_stops ts front tok rest statement spelled stops =
    let all = stops.parts ∙ sym (append-nil (front ++ tok ∷ rest)) in
    stops.here tok rest refl (next_viable front tok rest (statement, [], subst (λ l. Spells l statement) all spelled))

-- so their literals are in their ranges
spelled_in_range : (text : List ℕ) (tokens : List Token) (statement : Statement) (at : ℕ) → Spells (toks_of text tokens) statement
    → IsRangeAmong text tokens at → ⊥
spelled_in_range text tokens statement at spelled (front, literal, rest, over, is) =
    let list = toks_of text tokens in
    none_stops list front literal rest statement spelled (range_stops list front literal rest over)

-- a text that spells a statement has no fault, want of memory aside
pub no_fault : (text : List ℕ) (statement : Statement) (fault : ParseFault) → IsSpelling text statement → IsParseFault text fault
    → fault ≡ Memory
no_fault text statement Memory spelled fault = refl
no_fault text statement (Syntax at) (tokens, cut, spelled) (inl first) = absurd (cuts.not_both text tokens at cut first)
no_fault text statement (Syntax at) (tokens, cut, spelled) (inr stuck) =
    absurd (spelled_not_stuck text tokens statement at spelled (syntax_among text tokens at cut stuck))
no_fault text statement (LiteralRange at) (tokens, cut, spelled) over =
    absurd (spelled_in_range text tokens statement at spelled (range_among text tokens at cut over))
