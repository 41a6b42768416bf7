-- The first lines of a joining replica are a reduced list, and its peeks read what they make.
use Rattle.std.proofs.Common.{◌≡◌, ℕ, ◌==◌, ◌||◌, Bool, true, false, List, ◌++◌, map, filter, sym, ap, ◌∙◌, subst}
use Rattle.std.specs.List.{AllByRecursion as Each, list_any}
use Rattle.std.proofs.lemmas.List.{append-nil}
use Rattle.mz_time.specs.declared.frontier.Frontier.{Frontier}
use Rattle.mz_time.specs.declared.frontier.Frontier.TheVariants.{At}
use Rattle.mz_time.specs.Frontier.{Le, join}
use Rattle.mz_time.proofs.FrontierLemmas.{join_comm, Le-refl}
use Rattle.mz_plan.specs.declared.command.PendingPeek.{PendingPeek}
use Rattle.mz_rules.specs.declared.capability.Collection.{Collection}
use Rattle.mz_rules.specs.declared.capability.Hold.{Hold}
use Rattle.mz_rules.specs.declared.capability.Settled.{Settled}
use Rattle.mz_rules.specs.Capabilities.{of_hold, of_peek, capabilities}
use Rattle.mz_rules.specs.Since.{settle, since_of}
use Rattle.mz_rules.specs.Numbering.{Numbered}
use Rattle.mz_rules.specs.Reduced.{creations_left, peeks_left, reduced}
use Rattle.mz_rules.specs.Streams.{told, created, is_retired}
use Rattle.mz_rules.specs.Joining.{IsReadable, is_read_in, ask, joined, joining, numbers}
use Rattle.mz_rules.proofs.Each.{each_of, each_right, each_unmap}
use Rattle.mz_rules.proofs.Exact.{settled_are}
use Rattle.mz_rules.proofs.Held.{capabilities_hold}
use Rattle.mz_rules.proofs.Told.{told_append, created_append, retired_append, join_zero}
use Rattle.mz_rules.proofs.Left.{left_append, asks_append}
use Rattle.mz_rules.proofs.Joins.{IsTold, told_since}
use Rattle.mz_rules.proofs.JoinedLines.{asks_create_none, asks_tell_none, asks_leave_none, asks_end_none, asks_stay, joined_end_none, joined_ask_none, joined_stay}

-- the peeks of the first lines
abbrev pub read_here : ℕ → List Settled → List PendingPeek → List PendingPeek
read_here cluster ss peeks = filter (λ peek. is_read_in cluster ss peek.collection) peeks

-- the first lines make each collection that the cluster makes and that isn't done, and tell its since of it
unfoldable pub joining_told : (cluster number t k : ℕ) (ss : List Settled) (peeks : List PendingPeek) → Numbered k (map (λ s. s.collection) ss)
    → is_read_in cluster ss number ≡ true → Le (since_of number ss) (At t) → IsTold number (since_of number ss) (joining cluster ss peeks)
joining_told cluster number t k ss peeks n read h =
    let made = joined (numbers ss) cluster ss in
    let asks = map ask (read_here cluster ss peeks) in
    let of_made = told_since (numbers ss) cluster number t k ss n read h in
    record {
      makes = ap (λ ns. list_any (λ other. other == number) ns)
          (created_append made asks ∙ ap (λ rest. created made ++ rest) (asks_create_none (read_here cluster ss peeks)) ∙ append-nil (created made))
          ∙ of_made.makes;
      tells = told_append number made asks ∙ ap (join (told number made)) (asks_tell_none number (read_here cluster ss peeks))
          ∙ join_comm (told number made) (At 0) ∙ join_zero (told number made) ∙ of_made.tells;
    }

-- the first lines end no peek
joining_ends_none : (cluster : ℕ) (ss : List Settled) (peeks : List PendingPeek) (peek : ℕ) → is_retired peek (joining cluster ss peeks) ≡ false
joining_ends_none cluster ss peeks peek =
    retired_append peek (joined (numbers ss) cluster ss) (map ask (read_here cluster ss peeks))
    ∙ ap (λ b. b || is_retired peek (map ask (read_here cluster ss peeks))) (joined_end_none (numbers ss) cluster peek ss)
    ∙ asks_end_none peek (read_here cluster ss peeks)

-- they are a reduced list
pub joining_reduced : (cluster k : ℕ) (ss : List Settled) (peeks : List PendingPeek) → Numbered k (map (λ s. s.collection) ss)
    → reduced (joining cluster ss peeks) ≡ joining cluster ss peeks
joining_reduced cluster k ss peeks n =
    let made = joined (numbers ss) cluster ss in
    let here = read_here cluster ss peeks in
    let given : ℕ → Frontier = λ number. told number (joining cluster ss peeks) in
    let ended : ℕ → Bool = λ peek. is_retired peek (joining cluster ss peeks) in
    let stay = joined_stay (numbers ss) given cluster k ss n
    (λ number t read e. (joining_told cluster number t k ss peeks n read (subst (λ f. Le f (At t)) (sym e) (Le-refl (At t)))).tells ∙ e) in
    let creations : creations_left given (joining cluster ss peeks) ≡ made =
    left_append given made (map ask here) ∙ (λ i. stay i ++ asks_leave_none given here i) ∙ append-nil made in
    let asks : peeks_left ended (joining cluster ss peeks) ≡ map ask here =
    asks_append ended made (map ask here)
    ∙ (λ i. joined_ask_none (numbers ss) cluster ended ss i ++ asks_stay ended (joining_ends_none cluster ss peeks) here i) in
    (λ i. creations i ++ asks i)

-- each peek that they have is on a collection which they make, as of the peek's time or an earlier one
pub peeks_readable : (cluster k : ℕ) (holds : List Hold) (peeks : List PendingPeek) (cs : List Collection) (ss : List Settled) → Numbered k cs
    → ss ≡ settle (capabilities holds peeks) cs
    → Each (λ peek. is_read_in cluster ss peek.collection ≡ true → IsReadable (joining cluster ss peeks) peek) peeks
peeks_readable cluster k holds peeks cs ss n settled =
    let kept = capabilities holds peeks in
    let numbered : Numbered k (map (λ s. s.collection) ss) =
    subst (λ xs. Numbered k (map (λ s. s.collection) xs)) (sym settled) (subst (Numbered k) (sym (settled_are kept cs)) n) in
    let held : Each (λ peek. Le (since_of peek.collection ss) (At peek.time)) peeks =
    each_unmap (λ peek. Le (since_of peek.collection ss) (At peek.time)) (λ one. Le (since_of one.collection ss) (At one.time)) of_peek
    (λ peek p. p) peeks
    (each_right (λ one. Le (since_of one.collection ss) (At one.time)) (map of_hold holds) (map of_peek peeks)
    (subst (λ xs. Each (λ one. Le (since_of one.collection xs) (At one.time)) kept) (sym settled) (capabilities_hold kept cs))) in
    each_of (λ peek. Le (since_of peek.collection ss) (At peek.time))
    (λ peek. is_read_in cluster ss peek.collection ≡ true → IsReadable (joining cluster ss peeks) peek)
    (λ peek h read.
    let is = joining_told cluster peek.collection peek.time k ss peeks numbered read h in
    record { makes = is.makes; early = subst (λ f. Le f (At peek.time)) (sym is.tells) h })
    peeks held

-- of each collection that the cluster makes and whose since is a time, they tell its since
pub joining_tells : (cluster first : ℕ) (ss : List Settled) (peeks : List PendingPeek) → Numbered first (map (λ s. s.collection) ss)
    → (number t : ℕ) → is_read_in cluster ss number ≡ true → since_of number ss ≡ At t → told number (joining cluster ss peeks) ≡ At t
joining_tells cluster first ss peeks n number t read e =
    (joining_told cluster number t first ss peeks n read (subst (λ f. Le f (At t)) (sym e) (Le-refl (At t)))).tells ∙ e
