-- What lines say of peeks, and what is so of each pending peek that the first few lines of a stream ask for.
use Rattle.std.specs.Prelude.{⊤}
use Rattle.std.proofs.Common.{◌≡◌, ℕ, ◌<◌, ◌≤◌, ◌==◌, Bool, true, false, List, [], ◌∷◌, ◌++◌, length, filter, take, refl, sym, ap, ◌∙◌, arith, length-append}
use Rattle.std.specs.List.{AllByRecursion as Each}
use Rattle.std.proofs.lemmas.Bool.{cond_both, false≢true, ne_eqb, or_from}
use Rattle.std.proofs.lemmas.List.{take-append-le}
use Rattle.mz_plan.specs.declared.command.Command.{Command}
use Rattle.mz_plan.specs.declared.command.Command.TheVariants.{Create, Allow, Peek, Retire}
use Rattle.mz_plan.specs.declared.command.PendingPeek.{PendingPeek}
use Rattle.mz_rules.specs.Streams.{is_retired}
use Rattle.mz_rules.proofs.Each.{each_of, each_one, each_take}
use Rattle.mz_books.specs.Safe.{asks_for}

-- the peek that the line names, where it names one, is among the first so many
abbrev pub IsNumbered : ℕ → Command → Type 0
IsNumbered n (Peek peek collection t) = peek ≤ n
IsNumbered n (Retire peek) = peek ≤ n
IsNumbered n line = ⊤

-- and among more
pub numbered_later : (n m : ℕ) → n ≤ m → (line : Command) → IsNumbered n line → IsNumbered m line
numbered_later n m h (Create collection plan t) p = tt
numbered_later n m h (Allow collection f) p = tt
numbered_later n m h (Peek peek collection t) p = omega arith
numbered_later n m h (Retire peek) p = omega arith

-- the line agrees with a pending peek: if it asks for it, then at its own time, and it doesn't end it
abbrev pub Agrees : PendingPeek → Command → Type 0
Agrees waiting (Peek peek collection t) = peek ≡ waiting.peek → t ≡ waiting.time
Agrees waiting (Retire peek) = peek ≡ waiting.peek → ⊥
Agrees waiting line = ⊤

-- earlier lines agree with a later peek
pub agrees_later : (n : ℕ) (waiting : PendingPeek) → n < waiting.peek → (line : Command) → IsNumbered n line → Agrees waiting line
agrees_later n waiting h (Create collection plan t) p = tt
agrees_later n waiting h (Allow collection f) p = tt
agrees_later n waiting h (Peek peek collection t) p = λ e. absurd (omega arith)
agrees_later n waiting h (Retire peek) p = λ e. omega arith

-- and they don't ask for it
asks_earlier : (n peek : ℕ) → n < peek → (lines : List Command) → Each (IsNumbered n) lines → asks_for peek lines ≡ false
asks_earlier n peek h [] p = refl
asks_earlier n peek h (Create collection plan t ∷ lines) p = asks_earlier n peek h lines p.1
asks_earlier n peek h (Allow collection f ∷ lines) p = asks_earlier n peek h lines p.1
asks_earlier n peek h (Peek other collection t ∷ lines) p =
    or_from (other == peek) (asks_for peek lines) (ne_eqb other peek (λ e. omega (arith, p.0, h, e))) (asks_earlier n peek h lines p.1)
asks_earlier n peek h (Retire other ∷ lines) p = asks_earlier n peek h lines p.1

-- lines that agree with a peek don't end it
pub not_retired : (waiting : PendingPeek) (lines : List Command) → Each (Agrees waiting) lines → is_retired waiting.peek lines ≡ false
not_retired waiting [] p = refl
not_retired waiting (Create collection plan t ∷ lines) p = not_retired waiting lines p.1
not_retired waiting (Allow collection f ∷ lines) p = not_retired waiting lines p.1
not_retired waiting (Peek peek collection t ∷ lines) p = not_retired waiting lines p.1
not_retired waiting (Retire peek ∷ lines) p =
    or_from (peek == waiting.peek) (is_retired waiting.peek lines) (ne_eqb peek waiting.peek p.0) (not_retired waiting lines p.1)

-- if the first so many lines ask for the peek, this is so of it
abbrev pub IfAsked : (PendingPeek → Type 0) → ℕ → List Command → PendingPeek → Type 0
IfAsked Q taken lines waiting = asks_for waiting.peek (take taken lines) ≡ true → Q waiting

-- there are so many lines, and this is so of each of these peeks that they ask for
pub record Reach (Q : PendingPeek → Type 0) (taken : ℕ) (lines : List Command) (peeks : List PendingPeek) : Type 0 where
  pub within : taken ≤ length lines
  pub means : Each (IfAsked Q taken lines) peeks

-- so it is once there are further lines
pub reach_longer : (Q : PendingPeek → Type 0) (taken : ℕ) (lines more : List Command) (peeks : List PendingPeek)
    → Reach Q taken lines peeks → Reach Q taken (lines ++ more) peeks
reach_longer Q taken lines more peeks p =
    let same : take taken (lines ++ more) ≡ take taken lines = take-append-le taken lines more p.within in
    let within = p.within in
    record {
      within = omega (arith, length-append lines more);
      means = each_of (IfAsked Q taken lines) (IfAsked Q taken (lines ++ more))
          (λ waiting q e. q (sym (ap (asks_for waiting.peek) same) ∙ e)) peeks p.means;
    }

-- and with a further peek, which they don't ask for
pub reach_more : (Q : PendingPeek → Type 0) (taken n : ℕ) (lines : List Command) (peeks : List PendingPeek) (waiting : PendingPeek)
    → n < waiting.peek → Each (IsNumbered n) lines → Reach Q taken lines peeks → Reach Q taken lines (peeks ++ (waiting ∷ []))
reach_more Q taken n lines peeks waiting h numbers p = record {
  within = p.within;
  means = each_one (IfAsked Q taken lines) peeks waiting p.means
      (λ e. absurd (false≢true (sym (asks_earlier n waiting.peek h (take taken lines) (each_take (IsNumbered n) taken lines numbers)) ∙ e)));
}

-- what is so of those that a test leaves, by what it tests
pub each_left : {A : Type 0} (P Q : A → Type 0) (test : A → Bool) → ((x : A) → test x ≡ true → P x → Q x) → (xs : List A)
    → Each P xs → Each Q (filter test xs)
each_left P Q test f [] p = tt
each_left P Q test f (x ∷ xs) p =
    let rest = each_left P Q test f xs p.1 in
    cond_both (test x) (x ∷ filter test xs) (filter test xs) (Each Q) (λ e. (f x e p.0, rest)) (λ e. rest)

-- and with fewer peeks, of which more may be known
pub reach_fewer : (Q R : PendingPeek → Type 0) (test : PendingPeek → Bool)
    → ((waiting : PendingPeek) → test waiting ≡ true → Q waiting → R waiting)
    → (taken : ℕ) (lines : List Command) (peeks : List PendingPeek) → Reach Q taken lines peeks → Reach R taken lines (filter test peeks)
reach_fewer Q R test f taken lines peeks p = record {
  within = p.within;
  means = each_left (IfAsked Q taken lines) (IfAsked R taken lines) test (λ waiting e q asks. f waiting e (q asks)) peeks p.means;
}

-- and of what follows
pub reach_of : (Q R : PendingPeek → Type 0) → ((waiting : PendingPeek) → Q waiting → R waiting)
    → (taken : ℕ) (lines : List Command) (peeks : List PendingPeek) → Reach Q taken lines peeks → Reach R taken lines peeks
reach_of Q R f taken lines peeks p = record {
  within = p.within;
  means = each_of (IfAsked Q taken lines) (IfAsked R taken lines) (λ waiting q e. f waiting (q e)) peeks p.means;
}
