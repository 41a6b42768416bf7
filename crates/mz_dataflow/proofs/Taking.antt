-- What a loop over the lists of leaves keeps, which takes what is at a time from each.
use Rattle.std.proofs.Common.{◌≡◌, ℕ, ◌+◌, ◌<◌, List, [], ◌∷◌, ◌++◌, take, drop, length, map, get_or, refl, sym, ap, ◌∙◌, subst, arith}
use Rattle.std.proofs.Math.ListN.{set}
use Rattle.std.proofs.lemmas.Grind.{drop_more_same}
use Rattle.std.proofs.lemmas.List.{take_more, take_more_set, take_all, drop-set-lt, length-map, length-set, get_or-map, map-set}
use Rattle.mz_bag.specs.Weighted.{Weighted}
use Rattle.mz_updates.specs.declared.update.Update.{Update}
use Rattle.mz_dataflow.specs.Queues.{AreTaken, IsTaken}
use Rattle.mz_dataflow.proofs.LoopLaws.{same_node}

-- one list more
taken_more : (time : ℕ) (qs : List (ℕ × List Update)) (cs : List (ℕ × Weighted)) (rs : List (ℕ × List Update)) (q : ℕ × List Update)
    (c : ℕ × Weighted) (r : ℕ × List Update) → AreTaken time qs cs rs → IsTaken time q c r → AreTaken time (qs ++ q ∷ []) (cs ++ c ∷ []) (rs ++ r ∷ [])
taken_more time [] [] [] q c r h k = (k, tt)
taken_more time (p ∷ qs) (d ∷ cs) (s ∷ rs) q c r h k = (h.0, taken_more time qs cs rs q c r h.1 k)
taken_more time [] [] (s ∷ rs) q c r h k = absurd h
taken_more time [] (d ∷ cs) rs q c r h k = absurd h
taken_more time (p ∷ qs) [] rs q c r h k = absurd h
taken_more time (p ∷ qs) (d ∷ cs) [] q c r h k = absurd h

-- from the lists before a place what is at the time was taken, and the others are as they were
pub record IsTaking (time : ℕ) (init now : List (ℕ × List Update)) (place : ℕ) (cs : List (ℕ × Weighted)) : Type 0 where
  pub taken : AreTaken time (take place init) cs (take place now)
  pub rest : drop place now ≡ drop place init
  pub long : length now ≡ length init

-- at first
pub taking_first : (time : ℕ) (qs : List (ℕ × List Update)) (cs : List (ℕ × Weighted)) → cs ≡ [] → IsTaking time qs qs 0 cs
taking_first time qs cs none = subst (λ (ds : List (ℕ × Weighted)). IsTaking time qs qs 0 ds) (sym none) (record { taken = tt; rest = refl; long = refl })

-- then from the next one too
pub taking_on : {A : Type 0} (f : A → ℕ × List Update) (time : ℕ) (init now : List A) (i : ℕ) (cs : List (ℕ × Weighted)) (old new : A) (c : ℕ × Weighted)
    → IsTaking time (map f init) (map f now) i cs → i < length init → old ≡ get_or now i old → IsTaken time (f old) c (f new)
    → IsTaking time (map f init) (map f (set now i new)) (i + 1) (cs ++ c ∷ [])
taking_on f time init now i cs old new c h before is k =
    let many : length (map f now) ≡ length now = length-map now f in
    let all : length (map f init) ≡ length init = length-map init f in
    let within : i < length now = omega (arith, before, many, all, h.long) in
    let here : f old ≡ get_or (map f now) i (f old) = ap f is ∙ sym (get_or-map f now i old (f old) within) in
    let there : f old ≡ get_or (map f init) i (f old) =
    same_node (map f init) (map f now) i (f old) (omega (arith, within, many, h.long)) h.long h.rest here in
    record {
      taken = subst (λ (p : List (ℕ × List Update) × List (ℕ × List Update)). AreTaken time p.0 (cs ++ c ∷ []) p.1)
          (sym (λ j. (
            (take_more (map f init) i (f old) (omega (arith, within, many, h.long)) ∙ ap (λ q. take i (map f init) ++ q ∷ []) (sym there)) j,
            (ap (take (i + 1)) (map-set f now i new) ∙ take_more_set (map f now) i (f new) (omega (arith, within, many))) j,
          )))
          (taken_more time (take i (map f init)) cs (take i (map f now)) (f old) c (f new) h.taken k);
      rest = ap (drop (i + 1)) (map-set f now i new) ∙ drop-set-lt (i + 1) (map f now) i (f new) (omega arith)
          ∙ drop_more_same (map f now) (map f init) i h.rest;
      long = ap length (map-set f now i new) ∙ length-set (map f now) i (f new) ∙ h.long;
    }

-- at last from all
pub taking_last : {A : Type 0} (f : A → ℕ × List Update) (time : ℕ) (init now : List A) (i : ℕ) (cs : List (ℕ × Weighted))
    → IsTaking time (map f init) (map f now) i cs → i ≡ length init → AreTaken time (map f init) cs (map f now)
taking_last f time init now i cs h last =
    let many : length (map f now) ≡ length now = length-map now f in
    let all : length (map f init) ≡ length init = length-map init f in
    let end : i ≡ length now = omega (arith, last, many, all, h.long) in
    subst (λ (p : List (ℕ × List Update) × List (ℕ × List Update)). AreTaken time p.0 cs p.1)
    (λ j. (take_all i (map f init) (omega (arith, end, many, h.long)) j, take_all i (map f now) (omega (arith, end, many)) j)) h.taken
