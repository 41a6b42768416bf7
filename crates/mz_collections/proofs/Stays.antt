-- What is done stays so in a pass.
use Rattle.std.proofs.Common.{◌≡◌, ℕ, ◌+◌, ◌-◌, Bool, true, false, cond, List, [], ◌∷◌, ◌++◌, refl, sym, ap, ◌∙◌}
use Rattle.std.specs.List.{AllByRecursion as Each}
use Rattle.mz_time.specs.declared.frontier.Frontier.TheVariants.{Done}
use Rattle.mz_time.specs.Frontier.{meet}
use Rattle.mz_rules.specs.declared.capability.Settled.{Settled}
use Rattle.mz_rules.specs.Capabilities.{Capability}
use Rattle.mz_rules.specs.Frontiers.{is_at}
use Rattle.mz_rules.specs.Since.{least_on, least_reader, own, reads, settle}
use Rattle.mz_collections.specs.CollectionBook.{collections_of}
use Rattle.mz_collections.specs.Kept.{AreAtRest}
use Rattle.mz_collections.specs.Pass.{at_since, StayDone}
use Rattle.mz_collections.proofs.Settling.{both_done, least_of_both, not_at}

pub done_readers : (n : ℕ) (post ys : List Settled) → Each (λ s. is_at s.since ≡ false) post → least_reader n (post ++ ys) ≡ least_reader n ys
done_readers n [] ys p = refl
done_readers n (x ∷ post) ys p =
    ap (λ f. cond (reads n x.collection) (meet f (least_reader n (post ++ ys))) (least_reader n (post ++ ys))) (not_at x.since p.0)
    ∙ by (reads n x.collection) ∙ done_readers n post ys p.1
  where
    by : (b : Bool) → cond b (meet Done (least_reader n (post ++ ys))) (least_reader n (post ++ ys)) ≡ least_reader n (post ++ ys)
    by true = refl
    by false = refl

pub stay_behind : (post xs ys : List Settled) → StayDone xs ys → StayDone (post ++ xs) (post ++ ys)
stay_behind [] xs ys s = s
stay_behind (x ∷ post) xs ys s = ((refl, λ d. d), stay_behind post xs ys s)

pub readers_stay : (n : ℕ) (xs ys : List Settled) → StayDone xs ys → least_reader n xs ≡ Done → least_reader n ys ≡ Done
readers_stay n [] [] s e = refl
readers_stay n [] (y ∷ ys) s e = absurd s
readers_stay n (x ∷ xs) [] s e = absurd s
readers_stay n (x ∷ xs) (y ∷ ys) s e =
    ap (λ c. cond (reads n c) (meet y.since (least_reader n ys)) (least_reader n ys)) s.0.0 ∙ by (reads n x.collection) e (readers_stay n xs ys s.1)
  where
    by : (b : Bool) → cond b (meet x.since (least_reader n xs)) (least_reader n xs) ≡ Done → (least_reader n xs ≡ Done → least_reader n ys ≡ Done)
        → cond b (meet y.since (least_reader n ys)) (least_reader n ys) ≡ Done
    by true k ih =
        let p = both_done x.since (least_reader n xs) k in
        (λ i. meet (s.0.1 p.0 i) (ih p.1 i))
    by false k ih = ih k

pub at_rest_behind : (hs ps : List Capability) (pre xs : List Settled) → AreAtRest hs ps (pre ++ xs) → AreAtRest hs ps xs
at_rest_behind hs ps [] xs r = r
at_rest_behind hs ps (x ∷ pre) xs r = at_rest_behind hs ps pre xs r.1

-- those that are done come to what they are
pub rest_settled : (hs ps : List Capability) (post xs ys : List Settled) → AreAtRest hs ps (post ++ xs) → Each (λ s. is_at s.since ≡ false) post → StayDone xs ys
    → ys ≡ settle (hs ++ ps) (collections_of xs) → settle (hs ++ ps) (collections_of (post ++ xs)) ≡ post ++ ys
rest_settled hs ps [] xs ys r p s e = sym e
rest_settled hs ps (x ∷ post) xs ys r p s e =
    let ih = rest_settled hs ps post xs ys r.1 p.1 s e in
    let done = not_at x.since p.0 in
    let q = r.0 done in
    let n = x.collection.number in
    let mine : own (hs ++ ps) x.collection ≡ Done
    = (λ i. meet (q.implied i) (least_on n (hs ++ ps))) ∙ least_of_both n hs ps ∙ (λ i. meet (q.hold i) (q.peek i)) in
    let read : least_reader n (settle (hs ++ ps) (collections_of (post ++ xs))) ≡ Done
    = ap (least_reader n) ih ∙ readers_stay n (post ++ xs) (post ++ ys) (stay_behind post xs ys s) q.reader in
    let since : meet (own (hs ++ ps) x.collection) (least_reader n (settle (hs ++ ps) (collections_of (post ++ xs)))) ≡ x.since
    = (λ i. meet (mine i) (read i)) ∙ sym done in
    (λ i. at_since x (since i) ∷ ih i)
