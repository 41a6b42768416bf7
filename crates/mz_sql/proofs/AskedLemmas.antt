-- Each text asks for one thing.
use Rattle.std.proofs.Common.{◌≡◌, ℕ, List, Result, Ok, Err, inl, refl, sym, ap, subst, ◌∙◌}
use Rattle.mz_lex.specs.declared.token.Token.{Token}
use Rattle.mz_lex.specs.Cut.{IsCutInto}
use Rattle.mz_lex.proofs.CutLemmas as cuts
use Rattle.mz_statement.specs.declared.statement.Statement.{Statement}
use Rattle.mz_grammar.specs.declared.asked.Asked.{Asked}
use Rattle.mz_grammar.specs.declared.asked.Asked.TheVariants as asks
use Rattle.mz_grammar.specs.declared.fault.ParseFault.TheVariants as faults
use Rattle.mz_grammar.specs.Asked.{IsAsked}
use Rattle.mz_grammar.specs.Grammar.{Spells, IsSpelling}
use Rattle.mz_grammar.specs.Token.{toks_of}
use Rattle.mz_parse.specs.declared.fault.Fault.{Fault}
use Rattle.mz_parse.specs.declared.fault.Fault.TheVariants.{Syntax, Range}
use Rattle.mz_parse.specs.declared.fault.ReadError.TheVariants as errors
use Rattle.mz_parse.specs.Reading.{whole_at}
use Rattle.mz_parse.proofs.Complete.{whole_complete}
use Rattle.mz_parse.proofs.FaultLemmas.{fault_told}
use Rattle.mz_parse.proofs.Parsing.{read_spelled, same_statement}
use Rattle.mz_sql.specs.Cutting.{Cut, cut_text}
use Rattle.mz_sql.specs.Asked.{told, asked_of, asked}
use Rattle.mz_sql.proofs.CuttingLemmas.{IsCutSo, text_is_cut}
use Rattle.mz_sql.proofs.FaultLemmas.{one_fault, no_fault}

-- ---- each text asks

-- the fault of a reading, at its place, is the text's
fault_told_of : (text : List ℕ) (tokens : List Token) (fault : Fault) → IsCutInto text tokens
    → whole_at (toks_of text tokens) ≡ Err fault
    → IsAsked text (told text tokens (toks_of text tokens) (Err fault))
fault_told_of text tokens (Syntax left) cut read =
    fault_told text tokens (toks_of text tokens) (errors.Fault (Syntax left)) (faults.Syntax _) cut refl read (λ e. cc)
    (λ n e. cc) (λ n e. cc)
fault_told_of text tokens (Range left) cut read =
    fault_told text tokens (toks_of text tokens) (errors.Fault (Range left)) (faults.LiteralRange _) cut refl read (λ e. cc)
    (λ n e. cc) (λ n e. cc)

-- what was read of the tokens is what the text asks for
read_asked : (text : List ℕ) (tokens : List Token) (read : Result Statement Fault) → IsCutInto text tokens
    → whole_at (toks_of text tokens) ≡ read → IsAsked text (told text tokens (toks_of text tokens) read)
read_asked text tokens (Ok statement) cut is = read_spelled text tokens (toks_of text tokens) statement cut refl is
read_asked text tokens (Err fault) cut is = fault_told_of text tokens fault cut is

-- whether the text is cut or not
either_asked : (text : List ℕ) (cut : Cut) → IsCutSo text cut → IsAsked text (asked_of text cut)
either_asked text (Ok tokens) cut = read_asked text tokens (whole_at (toks_of text tokens)) cut refl
either_asked text (Err at) first = inl first

-- a text has what it asks for
pub each_text_asks : (text : List ℕ) → IsAsked text (asked text)
unfolding asked
each_text_asks text = either_asked text (cut_text text) (text_is_cut text)

-- ---- and for one thing

-- a text spells one statement
pub one_spelled : (text : List ℕ) (one other : Statement) → IsSpelling text one → IsSpelling text other → one ≡ other
one_spelled text one other (tokens, cut, first) (others, again, second) =
    let same = ap (toks_of text) (cuts.one_cut text others tokens again cut) in
    let both = subst (λ toks. Spells toks other) same second in
    same_statement one other (sym (whole_complete (toks_of text tokens) one first) ∙ whole_complete (toks_of text tokens) other both)

-- a text asks for one thing
pub a_text_asks_once : (text : List ℕ) (one other : Asked) → IsAsked text one → IsAsked text other → one ≡ other
a_text_asks_once text (asks.Statement one) (asks.Statement other) first second = ap asks.Statement (one_spelled text one other first second)
a_text_asks_once text (asks.Statement one) (asks.Syntax at) first second =
    let never = no_fault text one (faults.Syntax at) first second in cc
a_text_asks_once text (asks.Statement one) (asks.LiteralRange at) first second =
    let never = no_fault text one (faults.LiteralRange at) first second in cc
a_text_asks_once text (asks.Syntax at) (asks.Statement other) first second =
    let never = no_fault text other (faults.Syntax at) second first in cc
a_text_asks_once text (asks.LiteralRange at) (asks.Statement other) first second =
    let never = no_fault text other (faults.LiteralRange at) second first in cc
a_text_asks_once text (asks.Syntax at) (asks.Syntax place) first second =
    let same = one_fault text (faults.Syntax at) (faults.Syntax place) first second (λ e. cc) (λ e. cc) in cc
a_text_asks_once text (asks.Syntax at) (asks.LiteralRange place) first second =
    let same = one_fault text (faults.Syntax at) (faults.LiteralRange place) first second (λ e. cc) (λ e. cc) in cc
a_text_asks_once text (asks.LiteralRange at) (asks.Syntax place) first second =
    let same = one_fault text (faults.LiteralRange at) (faults.Syntax place) first second (λ e. cc) (λ e. cc) in cc
a_text_asks_once text (asks.LiteralRange at) (asks.LiteralRange place) first second =
    let same = one_fault text (faults.LiteralRange at) (faults.LiteralRange place) first second (λ e. cc) (λ e. cc) in cc

-- what a text asks for is what `asked` gives
pub asked_is : (text : List ℕ) (one : Asked) → IsAsked text one → one ≡ asked text
asked_is text one asks = a_text_asks_once text one (asked text) asks (each_text_asks text)
