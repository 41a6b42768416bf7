-- Unquoting takes back what quoting did.
use Rattle.std.proofs.Common.{◌≡◌, ℕ, ◌-◌, ◌≤◌, Bool, true, false, List, [], ◌∷◌, ◌++◌, length, take, refl, ap, sym, ◌∙◌, arith, length-append, suc}
use Rattle.std.specs.List.{flat_map}
use Rattle.std.proofs.Math.Seq.{take-append_seam}
use Rattle.mz_lex.specs.Bytes.{is_quote}
use Rattle.mz_lex.specs.Quoted.{doubled, quoted, singled, unquoted, IsQuoted}
use Rattle.mz_lex.proofs.ReachLemmas.{doubled-quote, doubled-other}

-- there are two quotes at least
pub quoted_long : (bs : List ℕ) → IsQuoted bs → 2 ≤ length bs
quoted_long bs is = let long = ap length is.2 ∙ ap suc (length-append (flat_map doubled is.0) (39 ∷ [])) in omega arith

-- a byte that is no quote stays
singled-other : (b : ℕ) (bs : List ℕ) → is_quote b ≡ false → singled (b ∷ bs) ≡ b ∷ singled bs
singled-other b [] no_quote = refl
singled-other b (c ∷ bs) no_quote = rw no_quote refl

-- one byte more
singled_next : (b : ℕ) (text : List ℕ) (t : Bool) → is_quote b ≡ t → singled (flat_map doubled text) ≡ text → singled (flat_map doubled (b ∷ text)) ≡ b ∷ text
singled_next b text true is more = rw (doubled-quote b is) (rw is (ap (λ l. b ∷ l) more))
singled_next b text false is more = rw (doubled-other b is) (singled-other b (flat_map doubled text) is ∙ ap (λ l. b ∷ l) more)

-- doubled quotes made single
singled-doubled : (text : List ℕ) → singled (flat_map doubled text) ≡ text
singled-doubled [] = refl
singled-doubled (b ∷ text) = singled_next b text (is_quote b) refl (singled-doubled text)

-- the text in quotes is the text that was quoted
pub unquoted-quoted : (text : List ℕ) → unquoted (quoted text) ≡ text
unquoted-quoted text =
    let inside = flat_map doubled text in
    let long : length (quoted text) - 1 - 1 ≡ length inside = omega (arith, length-append inside (39 ∷ [])) in
    ap (λ n. singled (take n (inside ++ 39 ∷ []))) long ∙ ap singled (take-append_seam inside (39 ∷ [])) ∙ singled-doubled text

-- what the unquoted text is quoted to
pub quoted-unquoted : (bs : List ℕ) → IsQuoted bs → quoted (unquoted bs) ≡ bs
quoted-unquoted bs is = ap (λ l. quoted (unquoted l)) is.2 ∙ ap quoted (unquoted-quoted is.0) ∙ sym is.2
