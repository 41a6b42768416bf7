-- The places of tokens in a text.
use Rattle.std.proofs.Common.{◌≡◌, ℕ, zero, suc, ◌+◌, ◌-◌, ◌≤◌, ◌<◌, List, [], ◌∷◌, ◌++◌, length, take, get_or, refl, ap, ◌∙◌, length-append, arith}
use Rattle.std.proofs.Math.Seq.{take-append_seam}
use Rattle.mz_lex.specs.declared.token.Token.{Token}
use Rattle.mz_grammar.specs.declared.token.Tok.{Tok}
use Rattle.mz_grammar.specs.Faults.{place_of, is_minus, ends_in_minus}

-- the place of a token that is there
pub place_at : (text : List ℕ) (tokens : List Token) (n : ℕ) (token : Token) → n < length tokens → token ≡ get_or tokens n token
    → token.start ≡ place_of text tokens n
place_at text [] n token lt is = absurd (omega arith)
place_at text (first ∷ tokens) zero token lt is = ap (λ (one : Token). one.start) is
place_at text (first ∷ tokens) (suc n) token lt is = place_at text tokens n token (omega arith) is

-- the place behind all tokens
pub place_behind : (text : List ℕ) (tokens : List Token) (n : ℕ) → length tokens ≤ n → length text ≡ place_of text tokens n
place_behind text [] n le = refl
place_behind text (token ∷ tokens) zero le = absurd (omega arith)
place_behind text (token ∷ tokens) (suc n) le = place_behind text tokens n (omega arith)

-- the last token tells whether a minus ends the tokens
pub last_minus : (ts : List Tok) (last : Tok) → 1 ≤ length ts → last ≡ get_or ts (length ts - 1) last → is_minus last ≡ ends_in_minus ts
last_minus [] last le is = absurd (omega arith)
last_minus (tok ∷ []) last le is = ap is_minus is
last_minus (tok ∷ next ∷ more) last le is =
    let here : length (tok ∷ next ∷ more) - 1 ≡ suc (length more) = omega arith in
    let there : length more ≡ length (next ∷ more) - 1 = omega arith in
    last_minus (next ∷ more) last (omega arith)
    (is ∙ ap (λ n. get_or (tok ∷ next ∷ more) n last) here ∙ ap (λ n. get_or (next ∷ more) n last) there)

-- what stands before so many of the last tokens
pub before_rest : (ts front rest : List Tok) (n : ℕ) → ts ≡ front ++ rest → n ≡ length rest → length ts - n ≡ length front
before_rest ts front rest n parts is =
    let long : length ts ≡ length front + length rest = ap length parts ∙ length-append front rest in
    omega arith

-- the tokens before so many of the last
pub front_of : (ts front rest : List Tok) (n : ℕ) → ts ≡ front ++ rest → n ≡ length rest → take (length ts - n) ts ≡ front
front_of ts front rest n parts is =
    ap (λ m. take m ts) (before_rest ts front rest n parts is) ∙ ap (take (length front)) parts ∙ take-append_seam front rest
