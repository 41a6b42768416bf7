-- From a text's tokens to its statement, and back.
use Rattle.std.proofs.Common.{◌≡◌, ℕ, List, Result, Ok, Err, refl, sym, ap, subst, ◌∙◌}
use Rattle.mz_lex.specs.declared.token.Token.{Token}
use Rattle.mz_lex.specs.Cut.{IsCutInto}
use Rattle.mz_lex.proofs.CutLemmas.{one_cut}
use Rattle.mz_statement.specs.declared.statement.Statement.{Statement}
use Rattle.mz_parse.specs.declared.fault.Fault.{Fault}
use Rattle.mz_parse.specs.declared.fault.ReadError.{ReadError}
use Rattle.mz_parse.specs.declared.fault.ReadError.TheVariants as errors
use Rattle.mz_grammar.specs.declared.token.Tok.{Tok}
use Rattle.mz_grammar.specs.Token.{toks_of}
use Rattle.mz_parse.specs.Reading.{Fails, whole_at}
use Rattle.mz_grammar.specs.Grammar.{Spells, IsSpelling}
use Rattle.mz_parse.proofs.Sound.{whole_sound}
use Rattle.mz_parse.proofs.Complete.{whole_complete}

-- what is read of the tokens of a text is spelled by it
pub read_spelled : (text : List ℕ) (tokens : List Token) (toks : List Tok) (s : Statement) → IsCutInto text tokens → toks ≡ toks_of text tokens → whole_at toks ≡ Ok s → IsSpelling text s
read_spelled text tokens toks s cut stand read = (tokens, cut, subst (λ l. Spells l s) stand (whole_sound toks s read))

-- what a text spells is read of its tokens
pub spelled_read : (text : List ℕ) (tokens : List Token) (toks : List Tok) (s : Statement) → IsCutInto text tokens → toks ≡ toks_of text tokens → IsSpelling text s → whole_at toks ≡ Ok s
spelled_read text tokens toks s one stand (ts, cut, spelled) = whole_complete toks s (subst (λ l. Spells l s) (ap (toks_of text) (one_cut text ts tokens cut one) ∙ sym stand) spelled)

-- two statements that were read are one
abbrev found : Statement → Result Statement Fault
found s = Ok s

pub same_statement : (one two : Statement) → found one ≡ found two → one ≡ two
same_statement one two e = cc

-- a fault is no statement
abbrev fault : Fault → Result Statement Fault
fault f = Err f

no_fault : (f : Fault) (s : Statement) → fault f ≡ Ok s → ⊥
no_fault f s e = cc

-- what is read fails for want of memory alone
pub only_memory : (e : ReadError) (read : Result Statement Fault) (s : Statement) → Fails e read → read ≡ Ok s → e ≡ errors.Memory
only_memory errors.Memory read s fails is = refl
only_memory (errors.Fault f) read s fails is = absurd (no_fault f s (sym fails ∙ is))
