-- A list that was reduced goes on as the list itself would, and reducing twice is reducing once.
use Rattle.std.proofs.Common.{◌≡◌, ℕ, ◌==◌, ◌||◌, Bool, true, false, cond, List, [], ◌∷◌, ◌++◌, refl, sym, ap, ◌∙◌}
use Rattle.std.specs.List.{AllByRecursion as Each, list_any}
use Rattle.std.proofs.lemmas.Bool.{or_left, or_right, eq-eqb}
use Rattle.std.proofs.lemmas.List.{append-nil}
use Rattle.mz_time.specs.declared.frontier.Frontier.{Frontier}
use Rattle.mz_time.specs.declared.frontier.Frontier.TheVariants.{At, Done}
use Rattle.mz_time.specs.Frontier.{join}
use Rattle.mz_plan.specs.declared.command.Command.{Command}
use Rattle.mz_plan.specs.declared.command.Command.TheVariants.{Create, Peek}
use Rattle.mz_rules.specs.Reduced.{made_before, creations_left, peeks_left, reduced, GoesOn}
use Rattle.mz_rules.specs.Streams.{told, is_named, created, is_created, is_retired, asked}
use Rattle.mz_rules.proofs.Told.{told_append, told_unnamed, retired_append}
use Rattle.mz_rules.proofs.Left.{left_append, asks_append, no_creations, no_peeks}
use Rattle.mz_rules.proofs.Reduced.{reduced_ends_none, reduced_created, told_same, told_none}
use Rattle.mz_rules.proofs.Each.{each_of}

-- what is left of what is left: all that the first function gave `Done` of has to stay out
left_twice : (f g h : ℕ → Frontier) (lines : List Command) → ((number : ℕ) → is_created number (creations_left f lines) ≡ true → g number ≡ h number)
    → ((number : ℕ) → f number ≡ Done → h number ≡ Done) → creations_left g (creations_left f lines) ≡ creations_left h lines
left_twice f g h [] same done = refl
left_twice f g h (Create number plan t ∷ lines) same done = step (f number) refl same (λ s. left_twice f g h lines s done)
  where
    step : (left : Frontier) → f number ≡ left
        → ((other : ℕ) → is_created other (made_before number plan left (creations_left f lines)) ≡ true → g other ≡ h other)
        → (((other : ℕ) → is_created other (creations_left f lines) ≡ true → g other ≡ h other)
        → creations_left g (creations_left f lines) ≡ creations_left h lines)
        → creations_left g (made_before number plan left (creations_left f lines)) ≡ made_before number plan (h number) (creations_left h lines)
    step Done e s rest = rest s ∙ ap (λ left. made_before number plan left (creations_left h lines)) (sym (done number e))
    step (At u) e s rest =
        let own = s number (or_left (number == number) (is_created number (creations_left f lines)) (eq-eqb number number refl)) in
        let others = rest (λ other is. s other (or_right (number == other) (is_created other (creations_left f lines)) is)) in
        (λ i. made_before number plan (own i) (others i))
left_twice f g h (line ∷ lines) same done = left_twice f g h lines same done

-- what is left hangs on what is made alone
left_same : (g h : ℕ → Frontier) (lines : List Command) → Each (λ number. g number ≡ h number) (created lines)
    → creations_left g lines ≡ creations_left h lines
left_same g h [] e = refl
left_same g h (Create number plan t ∷ lines) e = (λ i. made_before number plan (e.0 i) (left_same g h lines e.1 i))
left_same g h (line ∷ lines) e = left_same g h lines e

-- the peeks that are left of those that are left
asks_twice : (q r s : ℕ → Bool) (lines : List Command) → ((peek : ℕ) → q peek ≡ true → s peek ≡ true)
    → ((peek : ℕ) → q peek ≡ false → r peek ≡ s peek) → peeks_left r (peeks_left q lines) ≡ peeks_left s lines
asks_twice q r s [] ends same = refl
asks_twice q r s (Peek peek collection t ∷ lines) ends same = step (q peek) refl (asks_twice q r s lines ends same)
  where
    step : (b : Bool) → q peek ≡ b → peeks_left r (peeks_left q lines) ≡ peeks_left s lines
        → peeks_left r (cond b (peeks_left q lines) (Peek peek collection t ∷ peeks_left q lines))
        ≡ cond (s peek) (peeks_left s lines) (Peek peek collection t ∷ peeks_left s lines)
    step true e rest = rest ∙ ap (λ b. cond b (peeks_left s lines) (Peek peek collection t ∷ peeks_left s lines)) (sym (ends peek e))
    step false e rest = (λ i. cond (same peek e i) (rest i) (Peek peek collection t ∷ rest i))
asks_twice q r s (line ∷ lines) ends same = asks_twice q r s lines ends same

-- which peeks are left hangs on what is asked alone
asks_same : (r s : ℕ → Bool) (lines : List Command) → Each (λ peek. r peek ≡ s peek) (asked lines) → peeks_left r lines ≡ peeks_left s lines
asks_same r s [] e = refl
asks_same r s (Peek peek collection t ∷ lines) e =
    (λ i. cond (e.0 i) (asks_same r s lines e.1 i) (Peek peek collection t ∷ asks_same r s lines e.1 i))
asks_same r s (line ∷ lines) e = asks_same r s lines e

-- the creations that are left of a reduced list and further lines
creations_on : (lines further : List Command) → GoesOn lines further
    → creations_left (λ number. told number (reduced lines ++ further)) (reduced lines ++ further)
    ≡ creations_left (λ number. told number (lines ++ further)) (lines ++ further)
creations_on lines further goes =
    let f : ℕ → Frontier = λ number. told number lines in
    let g : ℕ → Frontier = λ number. told number (reduced lines ++ further) in
    let h : ℕ → Frontier = λ number. told number (lines ++ further) in
    let ended : ℕ → Bool = λ peek. is_retired peek lines in
    let twice = left_twice f g h lines
    (λ number is. told_append number (reduced lines) further
    ∙ ap (λ before. join before (told number further))
    (told_same number lines (ap (λ ns. list_any (λ other. other == number) ns) (reduced_created lines) ∙ is))
    ∙ sym (told_append number lines further))
    (λ number e. told_append number lines further ∙ ap (λ before. join before (told number further)) e) in
    let first : creations_left g (reduced lines) ≡ creations_left h lines =
    left_append g (creations_left f lines) (peeks_left ended lines)
    ∙ ap (λ rest. creations_left g (creations_left f lines) ++ rest) (no_creations g ended lines)
    ∙ append-nil (creations_left g (creations_left f lines)) ∙ twice in
    let second : creations_left g further ≡ creations_left h further =
    left_same g h further (each_of (λ number. is_named number lines ≡ false) (λ number. g number ≡ h number)
    (λ number e. told_append number (reduced lines) further
    ∙ ap (λ before. join before (told number further)) (told_none number lines e ∙ sym (told_unnamed number lines e))
    ∙ sym (told_append number lines further)) (created further) goes.makes_new) in
    left_append g (reduced lines) further ∙ (λ i. first i ++ second i) ∙ sym (left_append h lines further)

-- and the peeks
asks_on : (lines further : List Command) → GoesOn lines further
    → peeks_left (λ peek. is_retired peek (reduced lines ++ further)) (reduced lines ++ further)
    ≡ peeks_left (λ peek. is_retired peek (lines ++ further)) (lines ++ further)
asks_on lines further goes =
    let since : ℕ → Frontier = λ number. told number lines in
    let q : ℕ → Bool = λ peek. is_retired peek lines in
    let r : ℕ → Bool = λ peek. is_retired peek (reduced lines ++ further) in
    let s : ℕ → Bool = λ peek. is_retired peek (lines ++ further) in
    let same : (peek : ℕ) → q peek ≡ false → r peek ≡ s peek = λ peek e.
    retired_append peek (reduced lines) further
    ∙ ap (λ b. b || is_retired peek further) (reduced_ends_none peek lines ∙ sym e)
    ∙ sym (retired_append peek lines further) in
    let twice = asks_twice q r s lines (λ peek e. retired_append peek lines further ∙ ap (λ b. b || is_retired peek further) e) same in
    let first : peeks_left r (reduced lines) ≡ peeks_left s lines =
    asks_append r (creations_left since lines) (peeks_left q lines)
    ∙ ap (λ rest. rest ++ peeks_left r (peeks_left q lines)) (no_peeks r since lines) ∙ twice in
    let second : peeks_left r further ≡ peeks_left s further =
    asks_same r s further (each_of (λ peek. is_retired peek lines ≡ false) (λ peek. r peek ≡ s peek) same (asked further) goes.asks_new) in
    asks_append r (reduced lines) further ∙ (λ i. first i ++ second i) ∙ sym (asks_append s lines further)

-- a list that was reduced on the way is reduced in the end to what the whole list is
pub reduced_on : (lines further : List Command) → GoesOn lines further → reduced (reduced lines ++ further) ≡ reduced (lines ++ further)
reduced_on lines further goes = (λ i. creations_on lines further goes i ++ asks_on lines further goes i)

-- reducing twice is reducing once
pub reduced_twice : (lines : List Command) → reduced (reduced lines) ≡ reduced lines
reduced_twice lines =
    ap reduced (sym (append-nil (reduced lines))) ∙ reduced_on lines [] (record { makes_new = tt; asks_new = tt })
    ∙ ap reduced (append-nil lines)
