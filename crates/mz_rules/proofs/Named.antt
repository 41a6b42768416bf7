-- Which collections a reduced list makes, and as of what; and where a list drops one.
use Rattle.std.proofs.Common.{◌≡◌, ℕ, ◌==◌, ◌||◌, ◌&&◌, Bool, true, false, cond, List, [], ◌∷◌, refl, sym, ap, ◌∙◌, subst}
use Rattle.std.specs.List.{AllByRecursion as Each, list_any}
use Rattle.std.proofs.lemmas.Bool.{eqb-true}
use Rattle.mz_time.specs.declared.frontier.Frontier.{Frontier}
use Rattle.mz_time.specs.declared.frontier.Frontier.TheVariants.{At, Done}
use Rattle.mz_time.specs.Frontier.{join}
use Rattle.mz_plan.specs.declared.command.Command.{Command}
use Rattle.mz_plan.specs.declared.command.Command.TheVariants.{Create, Allow, Peek}
use Rattle.mz_rules.specs.Frontiers.{is_at}
use Rattle.mz_rules.specs.Reduced.{made_before, creations_left, peeks_left, reduced, IsAsTold}
use Rattle.mz_rules.specs.Streams.{told, is_created, is_dropped, is_done, is_retired}
use Rattle.mz_rules.proofs.Reduced.{reduced_created}
use Rattle.mz_rules.proofs.Each.{each_append}

-- a collection is left where it is made, and its frontier is a time
left_created : (number : ℕ) (since : ℕ → Frontier) (lines : List Command)
    → is_created number (creations_left since lines) ≡ (is_created number lines && is_at (since number))
left_created number since [] = refl
left_created number since (Create other plan t ∷ lines) = step (since other) refl (left_created number since lines)
  where
    gone : (b c : Bool) (f : Frontier) → (b ≡ true → f ≡ Done) → (c && is_at f) ≡ ((b || c) && is_at f)
    gone true true f h = refl
    gone true false f h = ap is_at (sym (h refl))
    gone false c f h = refl

    stays : (b c d : Bool) (u : ℕ) (f : Frontier) → (b ≡ true → f ≡ At u) → c ≡ (d && is_at f) → (b || c) ≡ ((b || d) && is_at f)
    stays true c d u f h e = ap is_at (sym (h refl))
    stays false c d u f h e = e

    step : (f : Frontier) → since other ≡ f
        → is_created number (creations_left since lines) ≡ (is_created number lines && is_at (since number))
        → is_created number (made_before other plan f (creations_left since lines))
        ≡ ((other == number || is_created number lines) && is_at (since number))
    step Done e h =
        h ∙ gone (other == number) (is_created number lines) (since number) (λ same. subst (λ n. since n ≡ Done) (eqb-true other number same) e)
    step (At u) e h =
        stays (other == number) (is_created number (creations_left since lines)) (is_created number lines) u (since number)
        (λ same. subst (λ n. since n ≡ At u) (eqb-true other number same) e) h
left_created number since (line ∷ lines) = left_created number since lines

-- a reduced list makes what the list makes and doesn't drop
pub still_created : (number : ℕ) (lines : List Command)
    → is_created number (reduced lines) ≡ (is_created number lines && is_at (told number lines))
still_created number lines =
    ap (λ ns. list_any (λ other. other == number) ns) (reduced_created lines) ∙ left_created number (λ other. told other lines) lines

-- each creation that is left is as of what the list tells
left_as_told : (whole lines : List Command) → Each (IsAsTold whole) (creations_left (λ number. told number whole) lines)
left_as_told whole [] = tt
left_as_told whole (Create number plan t ∷ lines) = step (told number whole) refl (left_as_told whole lines)
  where
    step : (f : Frontier) → told number whole ≡ f → Each (IsAsTold whole) (creations_left (λ other. told other whole) lines)
        → Each (IsAsTold whole) (made_before number plan f (creations_left (λ other. told other whole) lines))
    step Done e rest = rest
    step (At u) e rest = (e, rest)
left_as_told whole (line ∷ lines) = left_as_told whole lines

-- a peek makes nothing
asks_as_told : (whole : List Command) (ended : ℕ → Bool) (lines : List Command) → Each (IsAsTold whole) (peeks_left ended lines)
asks_as_told whole ended [] = tt
asks_as_told whole ended (Peek peek collection t ∷ lines) = step (ended peek) (asks_as_told whole ended lines)
  where
    step : (b : Bool) → Each (IsAsTold whole) (peeks_left ended lines)
        → Each (IsAsTold whole) (cond b (peeks_left ended lines) (Peek peek collection t ∷ peeks_left ended lines))
    step true rest = rest
    step false rest = (tt, rest)
asks_as_told whole ended (line ∷ lines) = asks_as_told whole ended lines

-- each creation of a reduced list is as of what the list tells
pub all_as_told : (lines : List Command) → Each (IsAsTold lines) (reduced lines)
all_as_told lines =
    each_append (IsAsTold lines) (creations_left (λ number. told number lines) lines) (peeks_left (λ peek. is_retired peek lines) lines)
    (left_as_told lines lines) (asks_as_told lines (λ peek. is_retired peek lines) lines)

-- what is told is done where the lines drop the collection
pub dropped_done : (number : ℕ) (lines : List Command) → is_done (told number lines) ≡ is_dropped number lines
dropped_done number [] = refl
dropped_done number (Create collection plan t ∷ lines) = step (collection == number) (told number lines) ∙ dropped_done number lines
  where
    time : (f : Frontier) → is_done (join (At t) f) ≡ is_done f
    time (At u) = refl
    time Done = refl

    step : (b : Bool) (f : Frontier) → is_done (cond b (join (At t) f) f) ≡ is_done f
    step true f = time f
    step false f = refl
dropped_done number (Allow collection f ∷ lines) = step (collection == number) (told number lines) (is_dropped number lines) (dropped_done number lines)
  where
    either : (f g : Frontier) → is_done (join f g) ≡ (is_done f || is_done g)
    either (At t) (At u) = refl
    either (At t) Done = refl
    either Done g = refl

    step : (b : Bool) (g : Frontier) (c : Bool) → is_done g ≡ c → is_done (cond b (join f g) g) ≡ ((b && is_done f) || c)
    step true g c e = either f g ∙ ap (λ d. is_done f || d) e
    step false g c e = e
dropped_done number (line ∷ lines) = dropped_done number lines
