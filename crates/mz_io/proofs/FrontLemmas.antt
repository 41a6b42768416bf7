-- Fronts of a list of bytes that are taken one after the other.
use Rattle.std.proofs.Common.{◌≡◌, ◌+◌, ◌<◌, ◌∙◌, ◌++◌, ℕ, List, [], take, drop, length, min, ap, sym, subst, arith}
use Rattle.std.proofs.Math.Seq.{take-add}
use Rattle.std.proofs.KnownBytes.{Appends-trans}
use Rattle.std.proofs.lemmas.List.{drop-drop, drop_all, length-drop, take-append-drop}
use Rattle.std.specs.declared.option.Option.{Option}
use Rattle.std.specs.Io.KnownBytes.{Appends}

-- after the front up to `done`, n more bytes of the piece were appended
pub front_more : (old mid new : Option (List ℕ)) (piece : List ℕ) (done n : ℕ) → Appends old mid (take done piece)
    → Appends mid new (take n (drop done piece)) → Appends old new (take (done + n) piece)
front_more old mid new piece done n first more =
    subst (Appends old new) (sym (take-add done n piece)) (Appends-trans old mid new _ _ first more)

-- the bytes left are those that were copied, and then those that are left after them
pub front_given : (bytes into : List ℕ) (given n : ℕ) → take n into ≡ take n (drop given bytes)
    → drop given bytes ≡ take n into ++ drop (given + n) bytes
front_given bytes into given n same =
    sym (take-append-drop n (drop given bytes)) ∙ ap (λ l. l ++ drop n (drop given bytes)) (sym same)
    ∙ ap (λ l. take n into ++ l) (drop-drop n given bytes)

-- nothing was copied though there was room: nothing was left
pub none_left : (bytes : List ℕ) (given room largest n : ℕ) → 0 < largest → n ≡ min room (min largest (length (drop given bytes)))
    → n ≡ 0 → 0 < room → drop (given + n) bytes ≡ []
none_left bytes given room largest n some count none here = drop_all (given + n) bytes (omega (arith, length-drop given bytes))
