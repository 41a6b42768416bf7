-- What lines name, of two lists in a row.
use Rattle.std.proofs.Common.{◌≡◌, ℕ, ◌==◌, ◌||◌, Bool, true, false, cond, List, [], ◌∷◌, ◌++◌, max, refl, sym, ap, ◌∙◌, arith}
use Rattle.std.proofs.lemmas.Bool.{false≢true}
use Rattle.mz_time.specs.declared.frontier.Frontier.{Frontier}
use Rattle.mz_time.specs.declared.frontier.Frontier.TheVariants.{At, Done}
use Rattle.mz_time.specs.Frontier.{join}
use Rattle.mz_time.proofs.FrontierLemmas.{join_assoc}
use Rattle.mz_plan.specs.declared.command.Command.{Command}
use Rattle.mz_plan.specs.declared.command.Command.TheVariants.{Create, Allow, Retire}
use Rattle.mz_rules.specs.Streams.{told, is_named, created, is_retired}

-- time 0 changes no greater frontier
pub join_zero : (f : Frontier) → join (At 0) f ≡ f
join_zero (At t) = let same : max 0 t ≡ t = omega arith in ap At same
join_zero Done = refl

-- what may be named first goes into the greater of the two
named_first : (b : Bool) (f g h k : Frontier) → g ≡ join h k → cond b (join f g) g ≡ join (cond b (join f h) h) k
named_first true f g h k e = ap (join f) e ∙ sym (join_assoc f h k)
named_first false f g h k e = e

-- two lists name the greater of what each names
pub told_append : (number : ℕ) (xs ys : List Command) → told number (xs ++ ys) ≡ join (told number xs) (told number ys)
told_append number [] ys = sym (join_zero (told number ys))
told_append number (Create collection plan t ∷ xs) ys =
    named_first (collection == number) (At t) (told number (xs ++ ys)) (told number xs) (told number ys) (told_append number xs ys)
told_append number (Allow collection f ∷ xs) ys =
    named_first (collection == number) f (told number (xs ++ ys)) (told number xs) (told number ys) (told_append number xs ys)
told_append number (line ∷ xs) ys = told_append number xs ys

-- what isn't named first isn't in the greater of the two
unnamed_first : (b c : Bool) (f g : Frontier) → (b || c) ≡ false → (c ≡ false → g ≡ At 0) → cond b (join f g) g ≡ At 0
unnamed_first true c f g e h = absurd (false≢true (sym e))
unnamed_first false c f g e h = h e

-- a list that names nothing of a collection tells time 0
pub told_unnamed : (number : ℕ) (lines : List Command) → is_named number lines ≡ false → told number lines ≡ At 0
told_unnamed number [] e = refl
told_unnamed number (Create collection plan t ∷ lines) e =
    unnamed_first (collection == number) (is_named number lines) (At t) (told number lines) e (told_unnamed number lines)
told_unnamed number (Allow collection f ∷ lines) e =
    unnamed_first (collection == number) (is_named number lines) f (told number lines) e (told_unnamed number lines)
told_unnamed number (line ∷ lines) e = told_unnamed number lines e

-- one of three, however they are grouped
one_of_three : (b c d e : Bool) → c ≡ (d || e) → (b || c) ≡ ((b || d) || e)
one_of_three true c d e h = refl
one_of_three false c d e h = h

-- two lists name what one of them names
pub named_append : (number : ℕ) (xs ys : List Command) → is_named number (xs ++ ys) ≡ (is_named number xs || is_named number ys)
named_append number [] ys = refl
named_append number (Create collection plan t ∷ xs) ys =
    one_of_three (collection == number) (is_named number (xs ++ ys)) (is_named number xs) (is_named number ys) (named_append number xs ys)
named_append number (Allow collection f ∷ xs) ys =
    one_of_three (collection == number) (is_named number (xs ++ ys)) (is_named number xs) (is_named number ys) (named_append number xs ys)
named_append number (line ∷ xs) ys = named_append number xs ys

-- two lists make what each makes, in order
pub created_append : (xs ys : List Command) → created (xs ++ ys) ≡ created xs ++ created ys
created_append [] ys = refl
created_append (Create collection plan t ∷ xs) ys = ap (λ rest. collection ∷ rest) (created_append xs ys)
created_append (line ∷ xs) ys = created_append xs ys

-- two lists end what one of them ends
pub retired_append : (peek : ℕ) (xs ys : List Command) → is_retired peek (xs ++ ys) ≡ (is_retired peek xs || is_retired peek ys)
retired_append peek [] ys = refl
retired_append peek (Retire other ∷ xs) ys =
    one_of_three (other == peek) (is_retired peek (xs ++ ys)) (is_retired peek xs) (is_retired peek ys)
    (retired_append peek xs ys)
retired_append peek (line ∷ xs) ys = retired_append peek xs ys
