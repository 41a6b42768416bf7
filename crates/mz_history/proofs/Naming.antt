-- What a line more names, and what is named without the last.
use Rattle.std.proofs.Common.{◌≡◌, ℕ, zero, suc, ◌<◌, ◌==◌, ◌||◌, Bool, true, false, cond, List, [], ◌∷◌, ◌++◌, Option, None, Some, IsSome, drop, get_or, length, refl, sym, ap, ◌∙◌, subst, arith}
use Rattle.std.proofs.lemmas.Bool.{eqb-true, eq-eqb}
use Rattle.std.proofs.lemmas.List.{append-nil, append_assoc}
use Rattle.mz_time.specs.declared.frontier.Frontier.{Frontier}
use Rattle.mz_time.specs.declared.frontier.Frontier.TheVariants.{At}
use Rattle.mz_time.specs.Frontier.{join}
use Rattle.mz_time.proofs.FrontierLemmas.{join_comm}
use Rattle.mz_plan.specs.declared.command.Command.{Command}
use Rattle.mz_plan.specs.declared.command.Command.TheVariants.{Create, Allow}
use Rattle.mz_rules.specs.Streams.{told, told_where_named, is_named}
use Rattle.mz_rules.proofs.Told.{join_zero, told_append, told_unnamed, named_append}
use Rattle.mz_history.specs.Lines.{after_line, after_lines, beside, collection_of}

-- what is there where a test passes
abbrev pub some_if : Bool → Frontier → Option Frontier
some_if b f = cond b (Some f) None

join_zero_last : (f : Frontier) → join f (At 0) ≡ f
join_zero_last f = join_comm f (At 0) ∙ join_zero f

-- a frontier named last, beside what was named before
one_more : (b d : Bool) (g f : Frontier) → (b ≡ false → g ≡ At 0)
    → some_if (b || (d || false)) (join g (cond d (join f (At 0)) (At 0))) ≡ cond d (Some (beside (some_if b g) f)) (some_if b g)
one_more true true g f h = ap (λ k. Some (join g k)) (join_zero_last f)
one_more true false g f h = ap Some (join_zero_last g)
one_more false true g f h = ap (λ k. Some k) ((λ i. join (h refl i) (join_zero_last f i)) ∙ join_zero f)
one_more false false g f h = refl

-- nothing named last
none_more : (b : Bool) (g : Frontier) → some_if (b || false) (join g (At 0)) ≡ some_if b g
none_more true g = ap Some (join_zero_last g)
none_more false g = refl

-- what is named once a line more is, from both lists
both : (number : ℕ) (lines : List Command) (line : Command)
    → told_where_named number (lines ++ line ∷ [])
    ≡ some_if (is_named number lines || is_named number (line ∷ [])) (join (told number lines) (told number (line ∷ [])))
both number lines line =
    (λ i. some_if (named_append number lines (line ∷ []) i) (told_append number lines (line ∷ []) i))

-- a line more
pub named_push : (number : ℕ) (lines : List Command) (line : Command)
    → told_where_named number (lines ++ line ∷ []) ≡ after_line line number (told_where_named number lines)
named_push number lines (Create collection plan t) =
    both number lines (Create collection plan t)
    ∙ one_more (is_named number lines) (collection == number) (told number lines) (At t) (told_unnamed number lines)
named_push number lines (Allow collection f) =
    both number lines (Allow collection f) ∙ one_more (is_named number lines) (collection == number) (told number lines) f (told_unnamed number lines)
named_push number lines line = both number lines line ∙ none_more (is_named number lines) (told number lines)

-- further lines
pub named_on : (number : ℕ) (lines further : List Command)
    → after_lines further number (told_where_named number lines) ≡ told_where_named number (lines ++ further)
named_on number lines [] = ap (told_where_named number) (sym (append-nil lines))
named_on number lines (line ∷ further) =
    ap (after_lines further number) (sym (named_push number lines line)) ∙ named_on number (lines ++ line ∷ []) further
    ∙ ap (told_where_named number) (append_assoc lines (line ∷ []) further)

-- all lines
pub named_all : (number : ℕ) (lines : List Command) → after_lines lines number None ≡ told_where_named number lines
named_all number lines = named_on number [] lines

-- one line more of those that are gone over
pub named_step : (number : ℕ) (lines : List Command) (k : ℕ) (x : Command) (old new : Option Frontier) → k < length lines → x ≡ get_or lines k x
    → new ≡ after_line x number old → after_lines (drop (suc k) lines) number new ≡ after_lines (drop k lines) number old
named_step number [] k x old new h i e = absurd (omega (arith, h))
named_step number (line ∷ lines) zero x old new h i e = ap (after_lines lines number) (e ∙ ap (λ y. after_line y number old) i)
named_step number (line ∷ lines) (suc k) x old new h i e = named_step number lines k x old new (omega (arith, h)) i e

-- ---- without the last line

-- a line names nothing of another collection
other_line : (line : Command) (collection : ℕ) → Some collection ≡ collection_of line → (number : ℕ) (old : Option Frontier)
    → (collection == number) ≡ false → after_line line number old ≡ old
other_line (Create c plan t) collection e number old k =
    let same : collection ≡ c = cc in
    ap (λ b. cond b (Some (beside old (At t))) old) (ap (λ n. n == number) (sym same) ∙ k)
other_line (Allow c f) collection e number old k =
    let same : collection ≡ c = cc in
    ap (λ b. cond b (Some (beside old f)) old) (ap (λ n. n == number) (sym same) ∙ k)
other_line line collection e number old k = absurd (cc)

-- a line that names no collection names nothing
pub no_line : (line : Command) → None ≡ collection_of line → (number : ℕ) (old : Option Frontier) → after_line line number old ≡ old
no_line (Create c plan t) e number old = absurd (cc)
no_line (Allow c f) e number old = absurd (cc)
no_line line e number old = refl

-- a number is its own
there : (n : ℕ) (new old : Option Frontier) → IsSome new → IsSome (cond (n == n) new old)
there n new old h = subst (λ b. IsSome (cond b new old)) (sym (eq-eqb n n refl)) h

-- a line names something of its own collection
own_line : (line : Command) (collection : ℕ) → Some collection ≡ collection_of line → (old : Option Frontier) → IsSome (after_line line collection old)
own_line (Create c plan t) collection e old =
    let same : collection ≡ c = cc in
    subst (λ n. IsSome (cond (c == n) (Some (beside old (At t))) old)) (sym same) (there c (Some (beside old (At t))) old refl)
own_line (Allow c f) collection e old =
    let same : collection ≡ c = cc in
    subst (λ n. IsSome (cond (c == n) (Some (beside old f)) old)) (sym same) (there c (Some (beside old f)) old refl)
own_line line collection e old = absurd (cc)

-- so the last line's collection is found
pub last_found : (lines : List Command) (line : Command) (collection : ℕ) → Some collection ≡ collection_of line
    → IsSome (told_where_named collection (lines ++ line ∷ []))
last_found lines line collection e =
    subst IsSome (sym (named_push collection lines line)) (own_line line collection e (told_where_named collection lines))

-- what is found without the last line, where its own collection is put back
pub put_back_is : (lines : List Command) (line : Command) (collection : ℕ) → Some collection ≡ collection_of line
    → (number : ℕ) (old : Option Frontier) → old ≡ told_where_named number (lines ++ line ∷ [])
    → cond (collection == number) (told_where_named collection lines) old ≡ told_where_named number lines
put_back_is lines line collection e number old h = by (collection == number) refl
  where
    by : (b : Bool) → (collection == number) ≡ b → cond b (told_where_named collection lines) old ≡ told_where_named number lines
    by true k = ap (λ n. told_where_named n lines) (eqb-true collection number k)
    by false k = h ∙ named_push number lines line ∙ other_line line collection e number (told_where_named number lines) k
