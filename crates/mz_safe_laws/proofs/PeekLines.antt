-- What the entries of a log tell replicas of peeks: each line is of a peek that was made, and agrees with each that stays pending.
use Rattle.std.specs.Prelude.{⊤}
use Rattle.std.proofs.Common.{◌≡◌, ℕ, Bool, true, false, cond, List, [], ◌∷◌, ◌++◌, drop, length, filter, reverse, refl, arith}
use Rattle.std.specs.List.{AllByRecursion as Each}
use Rattle.std.proofs.lemmas.Bool.{cond_both}
use Rattle.mz_time.specs.declared.frontier.Frontier.{Frontier}
use Rattle.mz_time.specs.declared.frontier.Frontier.TheVariants.{At, Done}
use Rattle.mz_plan.specs.declared.command.Command.{Command}
use Rattle.mz_plan.specs.declared.command.Command.TheVariants.{Create, Allow, Peek, Retire}
use Rattle.mz_plan.specs.declared.command.PendingPeek.{PendingPeek}
use Rattle.mz_rules.specs.Frontiers.{is_le}
use Rattle.mz_rules.specs.Joining.{allowances, allowances_of, creation, is_made_in, joined, joined_before, numbers}
use Rattle.mz_rules.specs.Since.{since_of}
use Rattle.mz_rules.specs.Streams.{created, told}
use Rattle.mz_rules.specs.declared.capability.Collection.{Collection}
use Rattle.mz_rules.specs.declared.capability.Settled.{Settled}
use Rattle.mz_rules.proofs.Each.{each_all, each_append, each_both, each_map, each_of}
use Rattle.mz_books.specs.Streams.{item_numbers, new_lines}
use Rattle.mz_call_laws.specs.Members.{Pairwise}
use Rattle.mz_call_laws.specs.Waiting.{IsMadeBefore}
use Rattle.mz_safe_laws.proofs.Reached.{IsNumbered, Agrees}

-- ---- what is so of further lines

-- a list of lines names peeks that were made, and agrees with each of these
pub record Fits (made : ℕ) (peeks : List PendingPeek) (lines : List Command) : Type 0 where
  pub numbered : Each (IsNumbered made) lines
  pub agrees : Each (λ waiting. Each (Agrees waiting) lines) peeks

-- two such lists in a row
pub fits_append : (made : ℕ) (peeks : List PendingPeek) (xs ys : List Command) → Fits made peeks xs → Fits made peeks ys
    → Fits made peeks (xs ++ ys)
fits_append made peeks xs ys p q = record {
  numbered = each_append (IsNumbered made) xs ys p.numbered q.numbered;
  agrees = each_both (λ waiting. Each (Agrees waiting) xs) (λ waiting. Each (Agrees waiting) ys) (λ waiting. Each (Agrees waiting) (xs ++ ys))
      (λ waiting a b. each_append (Agrees waiting) xs ys a b) peeks p.agrees q.agrees;
}

-- no lines fit always
pub fits_none : (made : ℕ) (peeks : List PendingPeek) → Fits made peeks []
fits_none made peeks = record { numbered = tt; agrees = each_all (λ waiting. ⊤) (λ waiting. tt) peeks }

-- ---- lines of collections

-- the line says nothing of peeks
abbrev pub IsOfCollection : Command → Type 0
IsOfCollection (Create collection plan t) = ⊤
IsOfCollection (Allow collection f) = ⊤
IsOfCollection line = ⊥

-- such a line names no peek
names_none : (made : ℕ) (line : Command) → IsOfCollection line → IsNumbered made line
names_none made (Create collection plan t) p = tt
names_none made (Allow collection f) p = tt
names_none made (Peek peek collection t) p = absurd p
names_none made (Retire peek) p = absurd p

-- and agrees with each
agrees_with_all : (waiting : PendingPeek) (line : Command) → IsOfCollection line → Agrees waiting line
agrees_with_all waiting (Create collection plan t) p = tt
agrees_with_all waiting (Allow collection f) p = tt
agrees_with_all waiting (Peek peek collection t) p = absurd p
agrees_with_all waiting (Retire peek) p = absurd p

-- so these fit
of_collections_fit : (made : ℕ) (peeks : List PendingPeek) (lines : List Command) → Each IsOfCollection lines → Fits made peeks lines
of_collections_fit made peeks lines p = record {
  numbered = each_of IsOfCollection (IsNumbered made) (names_none made) lines p;
  agrees = each_all (λ waiting. Each (Agrees waiting) lines)
      (λ waiting. each_of IsOfCollection (Agrees waiting) (agrees_with_all waiting) lines p) peeks;
}

-- the lines of new collections
pub new_lines_fit : (made : ℕ) (peeks : List PendingPeek) (before after : List Collection) (cluster : ℕ)
    → Fits made peeks (new_lines before after cluster)
new_lines_fit made peeks before after cluster =
    let new = filter (λ c. is_made_in cluster c) (drop (length before) after) in
    of_collections_fit made peeks (new_lines before after cluster)
    (each_map (λ c. ⊤) IsOfCollection (λ c. creation (item_numbers after) c c.as_of) (λ c p. tt) new (each_all (λ c. ⊤) (λ c. tt) new))

-- a feed's lines are of collections
allowed : (ss : List Settled) (lines : List Command) (ns : List ℕ) → Each IsOfCollection (allowances_of ss lines ns)
allowed ss lines [] = tt
allowed ss lines (number ∷ ns) =
    let rest = allowed ss lines ns in
    cond_both (is_le (since_of number ss) (told number lines)) (allowances_of ss lines ns)
    (Allow number (since_of number ss) ∷ allowances_of ss lines ns) (Each IsOfCollection) (λ e. rest) (λ e. (tt, rest))

-- so they fit
pub allowances_fit : (made : ℕ) (peeks : List PendingPeek) (ss : List Settled) (lines : List Command)
    → Fits made peeks (allowances ss lines)
allowances_fit made peeks ss lines =
    of_collections_fit made peeks (allowances ss lines) (allowed ss lines (reverse (created lines)))

-- the lines that make collections for a replica that joins are of collections
joined_are : (names : List (ℕ × ℕ)) (cluster : ℕ) (ss : List Settled) → Each IsOfCollection (joined names cluster ss)
joined_are names cluster [] = tt
joined_are names cluster (s ∷ ss) = step (is_made_in cluster s.collection) s.since (joined_are names cluster ss)
  where
    step : (b : Bool) (f : Frontier) → Each IsOfCollection (joined names cluster ss)
        → Each IsOfCollection (cond b (joined_before names s.collection f (joined names cluster ss)) (joined names cluster ss))
    step false f rest = rest
    step true Done rest = rest
    step true (At t) rest = (tt, rest)

-- so they fit
pub joined_fit : (made : ℕ) (peeks : List PendingPeek) (cluster : ℕ) (ss : List Settled) → Fits made peeks (joined (numbers ss) cluster ss)
joined_fit made peeks cluster ss = of_collections_fit made peeks (joined (numbers ss) cluster ss) (joined_are (numbers ss) cluster ss)

-- ---- lines of peeks

-- pending peeks of one number are one
abbrev pub AreApart : List PendingPeek → Type 0
AreApart peeks = Each (λ waiting. Each (λ other. other.peek ≡ waiting.peek → other ≡ waiting) peeks) peeks

-- for their numbers rise
pub are_apart : (peeks : List PendingPeek) → Pairwise IsMadeBefore peeks → AreApart peeks
are_apart [] p = tt
are_apart (first ∷ peeks) p = (
  ((λ e. refl), each_of (IsMadeBefore first) (λ other. other.peek ≡ first.peek → other ≡ first) (λ other h e. absurd (omega (arith, h, e))) peeks p.0),
  each_both (IsMadeBefore first) (λ waiting. Each (λ other. other.peek ≡ waiting.peek → other ≡ waiting) peeks)
      (λ waiting. Each (λ other. other.peek ≡ waiting.peek → other ≡ waiting) (first ∷ peeks))
      (λ waiting h q. ((λ e. absurd (omega (arith, h, e))), q)) peeks p.0 (are_apart peeks p.1),
)
