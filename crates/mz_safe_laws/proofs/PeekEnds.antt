-- Lines that ask for peeks and end them: they are of peeks that were made, and agree with each that stays pending.
use Rattle.std.proofs.Common.{◌≡◌, ℕ, ◌+◌, Bool, false, not, List, [], ◌∷◌, ◌++◌, map, filter, sym, ap, ◌∙◌, refl, arith}
use Rattle.std.specs.List.{AllByRecursion as Each}
use Rattle.std.proofs.lemmas.Bool.{cond_both, false≢true, not-true}
use Rattle.mz_plan.specs.declared.command.Command.TheVariants.{Peek, Retire}
use Rattle.mz_plan.specs.declared.command.PendingPeek.{PendingPeek}
use Rattle.mz_rules.specs.Joining.{ask, is_read_in, joined, joining, numbers}
use Rattle.mz_rules.specs.declared.capability.Collection.{Collection}
use Rattle.mz_rules.specs.declared.capability.Settled.{Settled}
use Rattle.mz_rules.proofs.Each.{each_filter, each_map, each_of, each_one}
use Rattle.mz_books.specs.Streams.{asking_lines, ending_lines, is_kept_in}
use Rattle.mz_call_laws.specs.Waiting.{IsMadeWithin}
use Rattle.mz_safe_laws.proofs.Reached.{IsNumbered, Agrees, each_left}
use Rattle.mz_safe_laws.proofs.PeekLines.{AreApart, Fits, fits_append, fits_none, joined_fit}

-- the other peek has another number, or is this one
abbrev IsApart : PendingPeek → PendingPeek → Type 0
IsApart waiting other = other.peek ≡ waiting.peek → other ≡ waiting

-- lines that end some peeks don't end one that isn't among them
ends_agree : (gone : PendingPeek → Bool) (cs : List Collection) (cluster : ℕ) (waiting : PendingPeek) (peeks : List PendingPeek)
    → gone waiting ≡ false → Each (IsApart waiting) peeks → Each (Agrees waiting) (ending_lines cs (filter gone peeks) cluster)
ends_agree gone cs cluster waiting peeks stays p =
    let other : PendingPeek → Type 0 = λ peek. peek.peek ≡ waiting.peek → ⊥ in
    each_map other (Agrees waiting) (λ peek. Retire peek.peek) (λ peek q. q)
    (filter (λ peek. is_kept_in cluster cs peek.collection) (filter gone peeks))
    (each_filter other (λ peek. is_kept_in cluster cs peek.collection) (filter gone peeks)
    (each_left (IsApart waiting) other gone (λ peek e q same. false≢true (sym stays ∙ (ap gone (sym (q same)) ∙ e))) peeks p))

-- so they fit all that stay
pub ending_fits : (made : ℕ) (gone : PendingPeek → Bool) (cs : List Collection) (peeks : List PendingPeek) (cluster : ℕ)
    → Each (IsMadeWithin made) peeks → AreApart peeks
    → Fits made (filter (λ waiting. not (gone waiting)) peeks) (ending_lines cs (filter gone peeks) cluster)
ending_fits made gone cs peeks cluster within apart = record {
  numbered = each_map (IsMadeWithin made) (IsNumbered made) (λ peek. Retire peek.peek) (λ peek q. q.1)
      (filter (λ peek. is_kept_in cluster cs peek.collection) (filter gone peeks))
      (each_filter (IsMadeWithin made) (λ peek. is_kept_in cluster cs peek.collection) (filter gone peeks)
      (each_filter (IsMadeWithin made) gone peeks within));
  agrees = each_left (λ waiting. Each (IsApart waiting) peeks) (λ waiting. Each (Agrees waiting) (ending_lines cs (filter gone peeks) cluster))
      (λ waiting. not (gone waiting)) (λ waiting e q. ends_agree gone cs cluster waiting peeks (not-true (gone waiting) e) q) peeks apart;
}

-- the line that asks for the next peek fits those that were pending, and that one
pub asking_fits : (made : ℕ) (cs : List Collection) (waiting : PendingPeek) (peeks : List PendingPeek) (cluster : ℕ)
    → waiting.peek ≡ made + 1 → Each (IsMadeWithin made) peeks
    → Fits (made + 1) (peeks ++ (waiting ∷ [])) (asking_lines cs (Peek waiting.peek waiting.collection waiting.time) waiting.collection cluster)
asking_fits made cs waiting peeks cluster next within =
    let line = ask waiting in
    let all = peeks ++ (waiting ∷ []) in
    cond_both (is_kept_in cluster cs waiting.collection) (line ∷ []) [] (Fits (made + 1) all)
    (λ e. record {
      numbered = (omega (arith, next), tt);
      agrees = each_one (λ other. Each (Agrees other) (line ∷ [])) peeks waiting
          (each_of (IsMadeWithin made) (λ other. Each (Agrees other) (line ∷ [])) (λ other h. ((λ same. absurd (omega (arith, h.1, same, next))), tt)) peeks within)
          ((λ same. refl), tt);
    }) (λ e. fits_none (made + 1) all)

-- and the first lines of a replica that joins
pub joining_fits : (made cluster : ℕ) (ss : List Settled) (peeks : List PendingPeek) → Each (IsMadeWithin made) peeks → AreApart peeks
    → Fits made peeks (joining cluster ss peeks)
joining_fits made cluster ss peeks within apart =
    let read : PendingPeek → Bool = λ peek. is_read_in cluster ss peek.collection in
    fits_append made peeks (joined (numbers ss) cluster ss) (map ask (filter read peeks)) (joined_fit made peeks cluster ss) (record {
      numbered = each_map (IsMadeWithin made) (IsNumbered made) ask (λ peek q. q.1) (filter read peeks) (each_filter (IsMadeWithin made) read peeks within);
      agrees = each_of (λ waiting. Each (IsApart waiting) peeks) (λ waiting. Each (Agrees waiting) (map ask (filter read peeks)))
          (λ waiting q. each_map (IsApart waiting) (Agrees waiting) ask (λ peek same e. ap (λ x. x.time) (same e)) (filter read peeks)
          (each_filter (IsApart waiting) read peeks q)) peeks apart;
    })
