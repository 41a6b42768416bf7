use Rattle.std.proofs.Common.{◌≡◌, ℕ, ◌<◌, ◌^◌, sym, ap, subst, ◌∙◌}
use Rattle.std.specs.Str.Parse.{IsNumeral, digits_value, without_leading_plus}
use Rattle.mz_grammar.proofs.DigitLemmas.{digits_utf8, digits_numeral, digits_plain}
use Rattle.mz_grammar.proofs.token.Digits.value.Goals as goal

-- digits are text
pub unreachable-requires : goal.unreachable-requires
unreachable-requires c = (c.in-Err.ensures.cases).0 (digits_utf8 c.self.inside.bytes.now c.self.invariant)

-- a number that does not parse is too great
pub returns-in-Err-parse : goal.returns-in-Err-parse
returns-in-Err-parse c lt =
    let bytes = c.self.inside.bytes.now in
    let plain : without_leading_plus c.in-Ok.text.now ≡ bytes = ap without_leading_plus c.in-Ok.ensures.cases.0 ∙ digits_plain bytes c.self.invariant in
    let value = ap (digits_value 10) plain ∙ c.self.view_is in
    c.in-Err-parse.ensures.value.0 (subst (IsNumeral 10) (sym plain) (digits_numeral bytes c.self.invariant), subst (λ (n : ℕ). n < 2 ^ 64) (sym value) lt)
