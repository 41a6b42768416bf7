-- Which collections and peeks the lists of this crate have, in which order.
use Rattle.std.proofs.Common.{◌≡◌, ℕ, ◌&&◌, Bool, true, false, not, cond, List, [], ◌∷◌, ◌++◌, map, filter, refl, ap, ◌∙◌}
use Rattle.std.proofs.lemmas.List.{append-nil}
use Rattle.mz_time.specs.declared.frontier.Frontier.{Frontier}
use Rattle.mz_time.specs.declared.frontier.Frontier.TheVariants.{At, Done}
use Rattle.mz_plan.specs.declared.command.Command.{Command}
use Rattle.mz_plan.specs.declared.command.Command.TheVariants.{Create, Peek}
use Rattle.mz_plan.specs.declared.command.PendingPeek.{PendingPeek}
use Rattle.mz_rules.specs.declared.capability.Settled.{Settled}
use Rattle.mz_rules.specs.Frontiers.{is_at}
use Rattle.mz_rules.specs.Streams.{told, created, asked, is_retired}
use Rattle.mz_rules.specs.Reduced.{made_before, creations_left, peeks_left, reduced}
use Rattle.mz_rules.specs.Joining.{is_made_in, is_read_in, ask, joined_before, joined, joining, numbers}
use Rattle.mz_rules.proofs.Told.{created_append}
use Rattle.mz_rules.proofs.Reduced.{reduced_created}
use Rattle.mz_rules.proofs.JoinedLines.{asks_create_none}

-- two lists ask for what each asks for, in order
asked_append : (xs ys : List Command) → asked (xs ++ ys) ≡ asked xs ++ asked ys
asked_append [] ys = refl
asked_append (Peek peek collection t ∷ xs) ys = ap (λ rest. peek ∷ rest) (asked_append xs ys)
asked_append (line ∷ xs) ys = asked_append xs ys

-- the creations that are left make what has a time, in order
left_list : (since : ℕ → Frontier) (lines : List Command)
    → created (creations_left since lines) ≡ filter (λ number. is_at (since number)) (created lines)
left_list since [] = refl
left_list since (Create number plan t ∷ lines) = step (since number) (left_list since lines)
  where
    step : (f : Frontier) → created (creations_left since lines) ≡ filter (λ other. is_at (since other)) (created lines)
        → created (made_before number plan f (creations_left since lines))
        ≡ cond (is_at f) (number ∷ filter (λ other. is_at (since other)) (created lines)) (filter (λ other. is_at (since other)) (created lines))
    step Done e = e
    step (At u) e = ap (λ rest. number ∷ rest) e
left_list since (line ∷ lines) = left_list since lines

-- they ask for nothing
left_ask_none : (since : ℕ → Frontier) (lines : List Command) → asked (creations_left since lines) ≡ []
left_ask_none since [] = refl
left_ask_none since (Create number plan t ∷ lines) = step (since number) (left_ask_none since lines)
  where
    step : (f : Frontier) → asked (creations_left since lines) ≡ [] → asked (made_before number plan f (creations_left since lines)) ≡ []
    step Done e = e
    step (At u) e = e
left_ask_none since (line ∷ lines) = left_ask_none since lines

-- the peeks that are left are those that aren't ended, in order
peeks_list : (ended : ℕ → Bool) (lines : List Command) → asked (peeks_left ended lines) ≡ filter (λ peek. not (ended peek)) (asked lines)
peeks_list ended [] = refl
peeks_list ended (Peek peek collection t ∷ lines) = step (ended peek) (peeks_list ended lines)
  where
    step : (b : Bool) → asked (peeks_left ended lines) ≡ filter (λ other. not (ended other)) (asked lines)
        → asked (cond b (peeks_left ended lines) (Peek peek collection t ∷ peeks_left ended lines))
        ≡ cond (not b) (peek ∷ filter (λ other. not (ended other)) (asked lines)) (filter (λ other. not (ended other)) (asked lines))
    step true e = e
    step false e = ap (λ rest. peek ∷ rest) e
peeks_list ended (line ∷ lines) = peeks_list ended lines

-- a reduced list makes what the list makes and doesn't drop, in order
pub reduced_makes : (lines : List Command) → created (reduced lines) ≡ filter (λ number. is_at (told number lines)) (created lines)
reduced_makes lines = reduced_created lines ∙ left_list (λ number. told number lines) lines

-- and asks for what the list asks for and doesn't end, in order
pub reduced_asks : (lines : List Command) → asked (reduced lines) ≡ filter (λ peek. not (is_retired peek lines)) (asked lines)
reduced_asks lines =
    let made = creations_left (λ number. told number lines) lines in
    let asks = peeks_left (λ peek. is_retired peek lines) lines in
    asked_append made asks ∙ ap (λ rest. rest ++ asked asks) (left_ask_none (λ number. told number lines) lines)
    ∙ peeks_list (λ peek. is_retired peek lines) lines

-- the collections that the cluster makes and that aren't done, in order
joined_list : (names : List (ℕ × ℕ)) (cluster : ℕ) (ss : List Settled)
    → created (joined names cluster ss)
    ≡ map (λ s. s.collection.number) (filter (λ s. is_made_in cluster s.collection && is_at s.since) ss)
joined_list names cluster [] = refl
joined_list names cluster (s ∷ ss) = step (is_made_in cluster s.collection) s.since (joined_list names cluster ss)
  where
    step : (b : Bool) (f : Frontier)
        → created (joined names cluster ss)
        ≡ map (λ x. x.collection.number) (filter (λ x. is_made_in cluster x.collection && is_at x.since) ss)
        → created (cond b (joined_before names s.collection f (joined names cluster ss)) (joined names cluster ss))
        ≡ map (λ x. x.collection.number) (cond (b && is_at f) (s ∷ filter (λ x. is_made_in cluster x.collection && is_at x.since) ss)
        (filter (λ x. is_made_in cluster x.collection && is_at x.since) ss))
    step false f e = e
    step true Done e = e
    step true (At u) e = ap (λ rest. s.collection.number ∷ rest) e

-- they ask for nothing
joined_asked : (names : List (ℕ × ℕ)) (cluster : ℕ) (ss : List Settled) → asked (joined names cluster ss) ≡ []
joined_asked names cluster [] = refl
joined_asked names cluster (s ∷ ss) = step (is_made_in cluster s.collection) s.since (joined_asked names cluster ss)
  where
    step : (b : Bool) (f : Frontier) → asked (joined names cluster ss) ≡ []
        → asked (cond b (joined_before names s.collection f (joined names cluster ss)) (joined names cluster ss)) ≡ []
    step false f e = e
    step true Done e = e
    step true (At u) e = e

-- lines for peeks ask for these
asks_list : (peeks : List PendingPeek) → asked (map ask peeks) ≡ map (λ peek. peek.peek) peeks
asks_list [] = refl
asks_list (peek ∷ peeks) = ap (λ rest. peek.peek ∷ rest) (asks_list peeks)

-- the first lines of a joining replica make each collection that the cluster makes and that isn't done, in order
pub joining_makes : (cluster : ℕ) (ss : List Settled) (peeks : List PendingPeek)
    → created (joining cluster ss peeks)
    ≡ map (λ s. s.collection.number) (filter (λ s. is_made_in cluster s.collection && is_at s.since) ss)
joining_makes cluster ss peeks =
    let made = joined (numbers ss) cluster ss in
    let here = filter (λ peek. is_read_in cluster ss peek.collection) peeks in
    created_append made (map ask here) ∙ ap (λ rest. created made ++ rest) (asks_create_none here) ∙ append-nil (created made)
    ∙ joined_list (numbers ss) cluster ss

-- and ask for each pending peek on a collection that the cluster makes, in order
pub joining_asks : (cluster : ℕ) (ss : List Settled) (peeks : List PendingPeek)
    → asked (joining cluster ss peeks) ≡ map (λ peek. peek.peek) (filter (λ peek. is_read_in cluster ss peek.collection) peeks)
joining_asks cluster ss peeks =
    let here = filter (λ peek. is_read_in cluster ss peek.collection) peeks in
    asked_append (joined (numbers ss) cluster ss) (map ask here)
    ∙ ap (λ rest. rest ++ asked (map ask here)) (joined_asked (numbers ss) cluster ss) ∙ asks_list here
