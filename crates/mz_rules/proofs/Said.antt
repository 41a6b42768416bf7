-- What is named line by line within a bound is told within it, and where the lines of streams are.
use Rattle.std.proofs.Common.{ℕ, ◌==◌, Bool, true, false, cond, List, [], ◌∷◌, map, filter, reverse, subst}
use Rattle.std.specs.List.{AllByRecursion as Each}
use Rattle.std.proofs.lemmas.Bool.{cond_both, eqb-true}
use Rattle.mz_time.specs.declared.frontier.Frontier.{Frontier}
use Rattle.mz_time.specs.declared.frontier.Frontier.TheVariants.{At, Done}
use Rattle.mz_time.specs.Frontier.{Le, join}
use Rattle.mz_time.proofs.FrontierLemmas.{Le-refl, Le-trans, join-least}
use Rattle.mz_plan.specs.declared.command.Command.{Command}
use Rattle.mz_plan.specs.declared.command.Command.TheVariants.{Create, Allow, Peek}
use Rattle.mz_plan.specs.declared.command.PendingPeek.{PendingPeek}
use Rattle.mz_rules.specs.declared.capability.Collection.{Collection}
use Rattle.mz_rules.specs.declared.capability.Settled.{Settled}
use Rattle.mz_rules.specs.Capabilities.{Capability}
use Rattle.mz_rules.specs.Frontiers.{is_le}
use Rattle.mz_rules.specs.Joining.{is_made_in, is_read_in, ask, creation, creations, joined_before, joined, joining, numbers, allowances_of, allowances}
use Rattle.mz_rules.specs.Numbering.{Numbered}
use Rattle.mz_rules.specs.Since.{settle, since_of}
use Rattle.mz_rules.specs.Reduced.{made_before, creations_left, peeks_left, reduced}
use Rattle.mz_rules.specs.Streams.{told, created, is_retired, IsSaidWithin}
use Rattle.mz_rules.proofs.Each.{each_append, each_of, each_map, each_filter}
use Rattle.mz_rules.proofs.Falls.{bound_by}
use Rattle.mz_rules.proofs.FrontierLemmas.{zero_least}

-- lines that each name no more than a bound tell no more
pub told_within : (since : ℕ → Frontier) (lines : List Command) → Each (IsSaidWithin since) lines → (number : ℕ)
    → Le (told number lines) (since number)
told_within since [] p number = zero_least (since number)
told_within since (Create collection plan t ∷ lines) p number =
    let rest = told_within since lines p.1 number in
    cond_both (collection == number) (join (At t) (told number lines)) (told number lines) (λ f. Le f (since number))
    (λ e. join-least (since number) (At t) (told number lines) (subst (λ n. Le (At t) (since n)) (eqb-true collection number e) p.0) rest)
    (λ e. rest)
told_within since (Allow collection f ∷ lines) p number =
    let rest = told_within since lines p.1 number in
    cond_both (collection == number) (join f (told number lines)) (told number lines) (λ g. Le g (since number))
    (λ e. join-least (since number) f (told number lines) (subst (λ n. Le f (since n)) (eqb-true collection number e) p.0) rest)
    (λ e. rest)
told_within since (line ∷ lines) p number = told_within since lines p.1 number

-- a line within a bound is within a greater one
later_line : (since later : ℕ → Frontier) → ((number : ℕ) → Le (since number) (later number)) → (line : Command)
    → IsSaidWithin since line → IsSaidWithin later line
later_line since later rises (Create number plan t) p = Le-trans (At t) (since number) (later number) p (rises number)
later_line since later rises (Allow number f) p = Le-trans f (since number) (later number) p (rises number)
later_line since later rises line p = tt

-- and so are all
pub said_later : (since later : ℕ → Frontier) → ((number : ℕ) → Le (since number) (later number)) → (lines : List Command)
    → Each (IsSaidWithin since) lines → Each (IsSaidWithin later) lines
said_later since later rises lines p = each_of (IsSaidWithin since) (IsSaidWithin later) (later_line since later rises) lines p

-- what is left is within what bounds the function by which it is left
left_said : (since given : ℕ → Frontier) → ((number : ℕ) → Le (given number) (since number)) → (lines : List Command)
    → Each (IsSaidWithin since) (creations_left given lines)
left_said since given bound [] = tt
left_said since given bound (Create number plan t ∷ lines) = step (given number) (bound number) (left_said since given bound lines)
  where
    step : (f : Frontier) → Le f (since number) → Each (IsSaidWithin since) (creations_left given lines)
        → Each (IsSaidWithin since) (made_before number plan f (creations_left given lines))
    step Done h rest = rest
    step (At u) h rest = (h, rest)
left_said since given bound (line ∷ lines) = left_said since given bound lines

-- peeks name nothing
peeks_said : (since : ℕ → Frontier) (ended : ℕ → Bool) (lines : List Command) → Each (IsSaidWithin since) (peeks_left ended lines)
peeks_said since ended [] = tt
peeks_said since ended (Peek peek collection t ∷ lines) = step (ended peek) (peeks_said since ended lines)
  where
    step : (b : Bool) → Each (IsSaidWithin since) (peeks_left ended lines)
        → Each (IsSaidWithin since) (cond b (peeks_left ended lines) (Peek peek collection t ∷ peeks_left ended lines))
    step true rest = rest
    step false rest = (tt, rest)
peeks_said since ended (line ∷ lines) = peeks_said since ended lines

-- a reduced list names no more than the list
pub reduced_said : (since : ℕ → Frontier) (lines : List Command) → Each (IsSaidWithin since) lines → Each (IsSaidWithin since) (reduced lines)
reduced_said since lines p =
    let given : ℕ → Frontier = λ number. told number lines in
    let ended : ℕ → Bool = λ peek. is_retired peek lines in
    each_append (IsSaidWithin since) (creations_left given lines) (peeks_left ended lines)
    (left_said since given (told_within since lines p) lines) (peeks_said since ended lines)

-- what is made as of sinces is within what bounds them
joined_said : (names : List (ℕ × ℕ)) (cluster : ℕ) (since : ℕ → Frontier) (ss : List Settled) → Each (λ s. Le s.since (since s.collection.number)) ss
    → Each (IsSaidWithin since) (joined names cluster ss)
joined_said names cluster since [] p = tt
joined_said names cluster since (s ∷ ss) p = step (is_made_in cluster s.collection) s.since p.0 (joined_said names cluster since ss p.1)
  where
    step : (b : Bool) (f : Frontier) → Le f (since s.collection.number) → Each (IsSaidWithin since) (joined names cluster ss)
        → Each (IsSaidWithin since) (cond b (joined_before names s.collection f (joined names cluster ss)) (joined names cluster ss))
    step false f h rest = rest
    step true Done h rest = rest
    step true (At u) h rest = (h, rest)

-- lines for peeks name nothing
asks_said : (since : ℕ → Frontier) (peeks : List PendingPeek) → Each (IsSaidWithin since) (map ask peeks)
asks_said since [] = tt
asks_said since (peek ∷ peeks) = (tt, asks_said since peeks)

-- the first lines of a joining replica name no more than the sinces
pub joining_said : (cluster first : ℕ) (kept : List Capability) (cs : List Collection) (peeks : List PendingPeek) → Numbered first cs
    → Each (IsSaidWithin (λ number. since_of number (settle kept cs))) (joining cluster (settle kept cs) peeks)
joining_said cluster first kept cs peeks n =
    let ss = settle kept cs in
    let since : ℕ → Frontier = λ number. since_of number ss in
    let here = filter (λ peek. is_read_in cluster ss peek.collection) peeks in
    each_append (IsSaidWithin since) (joined (numbers ss) cluster ss) (map ask here)
    (joined_said (numbers ss) cluster since ss (bound_by (At 0) kept first cs n)) (asks_said since here)

-- nor do later creations, where the sinces are from the as-ofs on
pub creations_said : (names : List (ℕ × ℕ)) (cluster : ℕ) (since : ℕ → Frontier) (cs : List Collection)
    → Each (λ c. Le (At c.as_of) (since c.number)) cs → Each (IsSaidWithin since) (creations names cluster cs)
creations_said names cluster since cs p =
    each_map (λ c. Le (At c.as_of) (since c.number)) (IsSaidWithin since) (λ c. creation names c c.as_of) (λ c h. h)
    (filter (λ c. is_made_in cluster c) cs) (each_filter (λ c. Le (At c.as_of) (since c.number)) (λ c. is_made_in cluster c) cs p)

-- nor do allowances
allowed_said : (ss : List Settled) (lines : List Command) (numbers : List ℕ)
    → Each (IsSaidWithin (λ number. since_of number ss)) (allowances_of ss lines numbers)
allowed_said ss lines [] = tt
allowed_said ss lines (number ∷ older) =
    let rest = allowed_said ss lines older in
    cond_both (is_le (since_of number ss) (told number lines)) (allowances_of ss lines older)
    (Allow number (since_of number ss) ∷ allowances_of ss lines older) (Each (IsSaidWithin (λ n. since_of n ss)))
    (λ e. rest) (λ e. (Le-refl (since_of number ss), rest))

-- those of a feed
pub allowances_said : (ss : List Settled) (lines : List Command) → Each (IsSaidWithin (λ number. since_of number ss)) (allowances ss lines)
allowances_said ss lines = allowed_said ss lines (reverse (created lines))
