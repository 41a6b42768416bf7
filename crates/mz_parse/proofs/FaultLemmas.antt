-- From the fault of reading to the fault of the tokens, and to its place in the text.
use Rattle.std.proofs.Common.{◌≡◌, ℕ, suc, ◌-◌, List, [], ◌∷◌, ◌++◌, length, take, Result, Ok, Err, inl, inr, refl, sym, ap, subst, ◌∙◌, append_assoc}
use Rattle.mz_lex.specs.declared.token.Token.{Token}
use Rattle.mz_lex.specs.Cut.{IsCutInto}
use Rattle.mz_parse.specs.declared.fault.Fault.{Fault}
use Rattle.mz_parse.specs.declared.fault.Fault.TheVariants as fault
use Rattle.mz_statement.specs.declared.statement.Statement.{Statement}
use Rattle.mz_grammar.specs.declared.token.Tok.{Tok}
use Rattle.mz_grammar.specs.Grammar.{Spells}
use Rattle.mz_grammar.specs.Token.{toks_of}
use Rattle.mz_grammar.specs.Faults.{Viable, IsLike, IsStuck, IsOutOfRange, place_of, literal_start, IsSyntaxAt, IsRangeAt, IsParseFault}
use Rattle.mz_grammar.specs.declared.fault.ParseFault.{ParseFault}
use Rattle.mz_grammar.specs.declared.fault.ParseFault.TheVariants as faults
use Rattle.mz_parse.specs.declared.fault.ReadError.{ReadError}
use Rattle.mz_parse.specs.declared.fault.ReadError.TheVariants as errors
use Rattle.mz_parse.specs.Reading.{Fails, whole_at}
use Rattle.mz_parse.proofs.PlaceLemmas.{before_rest, front_of}
use Rattle.mz_parse.proofs.Sound.{whole_sound}
use Rattle.mz_parse.proofs.Complete.{whole_complete}
use Rattle.mz_parse.proofs.Exact.{Rest, past, Alive, Here, IsExact}
use Rattle.mz_parse.proofs.ExactStatements.{whole_exact}

-- what reads behind a front
abbrev after : List Tok → Rest → Rest
after front go ts = go (front ++ ts)

-- the front before the fault, and the rest at it
split : (go : Rest) (fault : Fault) (ts : List Tok) → IsExact go fault ts
    → (front : List Tok) × (rest : List Tok) × (ts ≡ front ++ rest) × Here (after front go) fault rest
split go fault [] here = ([], [], refl, here)
split go fault (tok ∷ ts) (inl here) = ([], tok ∷ ts, refl, here)
split go fault (tok ∷ ts) (inr later) =
    let (front, rest, parts, here) = split (past tok go) fault ts later in
    (tok ∷ front, rest, ap (λ l. tok ∷ l) parts, here)

-- what is read to the end spells a statement
viable : (front : List Tok) → Alive (after front whole_at) → Viable front
viable front (more, s, read) = (s, more, whole_sound (front ++ more) s read)

-- what spells a statement is read to the end
viable_read : (front : List Tok) (tok : Tok) → Viable (front ++ tok ∷ []) → Alive (past tok (after front whole_at))
viable_read front tok (s, more, spelled) = (more, s, ap whole_at (sym (append_assoc front (tok ∷ []) more)) ∙ whole_complete _ s spelled)

-- the same of the token behind the front
viable_next : (front : List Tok) (tok : Tok) → Alive (past tok (after front whole_at)) → Viable (front ++ tok ∷ [])
viable_next front tok (more, s, read) = (s, more, whole_sound _ s (ap whole_at (append_assoc front (tok ∷ []) more) ∙ read))

-- what was read
abbrev found : Statement → Result Statement Fault
found s = Ok s

-- a fault is no statement
not_found : (e : Fault) (s : Statement) → found s ≡ Err e → ⊥
not_found e s is = cc

-- tokens that are not read spell nothing
none_spelled : (ts : List Tok) (e : Fault) → whole_at ts ≡ Err e → (s : Statement) → Spells ts s → ⊥
none_spelled ts e is s spelled = not_found e s (sym (whole_complete ts s spelled) ∙ is)

-- the fault at the rest, as one of the tokens
stuck_here : (ts front rest : List Tok) (n : ℕ) → ((s : Statement) → Spells ts s → ⊥) → ts ≡ front ++ rest
    → Here (after front whole_at) (fault.Syntax n) rest
    → IsStuck ts front rest
stuck_here ts front [] n none parts here = record {
  none = none;
  parts = parts;
  before = viable front here.1;
  here = λ tok more is. absurd cc;
}
stuck_here ts front (tok ∷ rest) n none parts here = record {
  none = none;
  parts = parts;
  before = viable front here.1;
  here = λ one more is other like on. here.2 other (let same : tok ≡ one = cc in subst (λ u. IsLike u other) (sym same) like)
      (viable_read front other on);
}

-- a syntax fault of reading is one of the tokens
pub stuck_at : (ts : List Tok) (n : ℕ) → whole_at ts ≡ Err (fault.Syntax n)
    → (front : List Tok) × (rest : List Tok) × IsStuck ts front rest × (n ≡ length rest)
stuck_at ts n e =
    let (front, rest, parts, here) = split whole_at (fault.Syntax n) ts (whole_exact ts (fault.Syntax n) e) in
    (front, rest, stuck_here ts front rest n (none_spelled ts (fault.Syntax n) e) parts here, here.0)

-- the range fault at the rest, as one of the tokens
over_here : (ts front rest : List Tok) (n : ℕ) → ts ≡ front ++ rest → Here (after front whole_at) (fault.Range n) rest
    → (literal : Tok) × (more : List Tok) × IsOutOfRange ts front literal more × (n ≡ suc (length more))
over_here ts front [] n parts here = absurd here.2
over_here ts front (tok ∷ rest) n parts here =
    let (none, (other, like, on)) = here.2 in (
      tok,
      rest,
      record {
        parts = parts;
        before = viable front here.1;
        here = λ it. none
            (viable_read front tok it);
        another = (other, like, viable_next front other on);
      },
      here.0,
    )

-- a range fault of reading is one of the tokens
pub over_at : (ts : List Tok) (n : ℕ) → whole_at ts ≡ Err (fault.Range n)
    → (front : List Tok) × (literal : Tok) × (rest : List Tok) × IsOutOfRange ts front literal rest × (n ≡ suc (length rest))
over_at ts n e =
    let (front, rest, parts, here) = split whole_at (fault.Range n) ts (whole_exact ts (fault.Range n) e) in
    let (literal, more, over, place) = over_here ts front rest n parts here in
    (front, literal, more, over, place)

-- the place of a syntax fault
syntax_told : (text : List ℕ) (tokens : List Token) (list : List Tok) (n : ℕ) → IsCutInto text tokens → list ≡ toks_of text tokens
    → whole_at list ≡ Err (fault.Syntax n) → IsSyntaxAt text (place_of text tokens (length list - n))
syntax_told text tokens list n cut stand e =
    let (front, rest, stuck, place) = stuck_at list n e in (
      tokens,
      front,
      rest,
      cut,
      subst (λ l. IsStuck l front rest) stand stuck,
      ap (place_of text tokens)
          (before_rest list front rest n stuck.parts place),
    )

-- the place of a range fault
range_told : (text : List ℕ) (tokens : List Token) (list : List Tok) (n : ℕ) → IsCutInto text tokens → list ≡ toks_of text tokens
    → whole_at list ≡ Err (fault.Range n)
    → IsRangeAt text (place_of text tokens (literal_start (take (length list - n) list)))
range_told text tokens list n cut stand e =
    let (front, literal, rest, over, place) = over_at list n e in (
      tokens,
      front,
      literal,
      rest,
      cut,
      subst (λ l. IsOutOfRange l front literal rest) stand over,
      ap (λ l. place_of text tokens (literal_start l)) (front_of list front (literal ∷ rest) n over.parts place),
    )

-- the fault of a reading, at its place, is the text's
pub fault_told : (text : List ℕ) (tokens : List Token) (list : List Tok) (e : ReadError) (found : ParseFault) → IsCutInto text tokens
    → list ≡ toks_of text tokens → Fails e (whole_at list) → (e ≡ errors.Memory → found ≡ faults.Memory)
    → ((left : ℕ) → e ≡ errors.Fault (fault.Syntax left) → found ≡ faults.Syntax (place_of text tokens (length list - left)))
    → ((left : ℕ) → e ≡ errors.Fault (fault.Range left) → found ≡ faults.LiteralRange
    (place_of text tokens (literal_start (take (length list - left) list))))
    → IsParseFault text found
fault_told text tokens list errors.Memory found cut stand read memory syntax range = subst (IsParseFault text) (sym (memory refl)) tt
fault_told text tokens list (errors.Fault (fault.Syntax n)) found cut stand read memory syntax range =
    subst (IsParseFault text) (sym (syntax n refl)) (inr (syntax_told text tokens list n cut stand read))
fault_told text tokens list (errors.Fault (fault.Range n)) found cut stand read memory syntax range =
    subst (IsParseFault text) (sym (range n refl)) (range_told text tokens list n cut stand read)
