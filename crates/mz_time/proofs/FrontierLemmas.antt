-- The laws of the order of frontiers, of `meet` and `join`, and of the least of a list.
use Rattle.std.proofs.Common.{ℕ, ◌≡◌, ◌≤◌, ◌↔◌, ◌⊎◌, min, max, List, [], ◌∷◌, ◌++◌, All, refl, ap, sym, ◌∙◌, inl, inr, IsTrue, arith}
use Rattle.std.proofs.lemmas.List.Elements.{All-nil, All-cons, All-head, All-tail}
use Rattle.std.proofs.lemmas.Bool.Decides.{nat_tests}
use Rattle.std.specs.Ordering.{is_le, nat_cmp}
use Rattle.mz_time.specs.contracts.frontier.FrontierOrd.TheImpl.{ghosts}
use Rattle.mz_time.specs.declared.frontier.Frontier.{Frontier}
use Rattle.mz_time.specs.declared.frontier.Frontier.TheVariants.{At, Done}
use Rattle.mz_time.specs.Frontier.{Le, Passes, meet, join, least, step_back}

-- each frontier is at or before itself
pub Le-refl : (f : Frontier) → Le f f
Le-refl (At t) = omega arith
Le-refl Done = tt

-- what is at or before a frontier is at or before all after it
pub Le-trans : (f g h : Frontier) → Le f g → Le g h → Le f h
Le-trans (At t) (At u) (At v) p q = omega arith
Le-trans (At t) (At u) Done p q = tt
Le-trans (At t) Done (At v) p q = absurd q
Le-trans (At t) Done Done p q = tt
Le-trans Done (At u) h p q = absurd p
Le-trans Done Done (At v) p q = absurd q
Le-trans Done Done Done p q = tt

-- two frontiers that are each at or before the other are one
pub Le-antisym : (f g : Frontier) → Le f g → Le g f → f ≡ g
Le-antisym (At t) (At u) p q = let same : t ≡ u = omega arith in ap At same
Le-antisym (At t) Done p q = absurd q
Le-antisym Done (At u) p q = absurd p
Le-antisym Done Done p q = refl

-- one of two numbers is at most the other
either : (t u : ℕ) → (t ≤ u) ⊎ (u ≤ t)
either t u = grind arith

-- of two frontiers one is at or before the other
pub Le-total : (f g : Frontier) → Le f g ⊎ Le g f
Le-total (At t) (At u) = either t u
Le-total (At t) Done = inl tt
Le-total Done (At u) = inr tt
Le-total Done Done = inl tt

-- each frontier is at or before `Done`
pub Le-Done : (f : Frontier) → Le f Done
Le-Done (At t) = tt
Le-Done Done = tt

-- the order of numbers is `≤`
number_order : (t u : ℕ) → (t ≤ u) ↔ IsTrue (is_le (nat_cmp t u))
number_order t u = (λ p. grind (arith, nat_tests), λ p. grind (arith, nat_tests))

-- the derived order of frontiers is `Le`
pub Le-derived : (f g : Frontier) → Le f g ↔ IsTrue (is_le (ghosts.cmp f g))
Le-derived (At t) (At u) = number_order t u
Le-derived (At t) Done = (λ p. refl, λ p. tt)
Le-derived Done (At u) = (λ p. absurd p, λ p. cc)
Le-derived Done Done = (λ p. refl, λ p. tt)

-- a frontier passes a time where it isn't at or before it
pub Passes-not_Le : (f : Frontier) (t : ℕ) → Passes f t ↔ (Le f (At t) → ⊥)
Passes-not_Le (At u) t = (λ p q. omega arith, λ p. omega arith)
Passes-not_Le Done t = (λ p q. q, λ p. tt)

-- what passes a time is passed by all after it
pub Passes-Le : (f g : Frontier) (t : ℕ) → Passes f t → Le f g → Passes g t
Passes-Le (At u) (At v) t p q = omega arith
Passes-Le (At u) Done t p q = tt
Passes-Le Done (At v) t p q = absurd q
Passes-Le Done Done t p q = tt

-- the lesser of two, in either order
pub meet_comm : (f g : Frontier) → meet f g ≡ meet g f
meet_comm (At t) (At u) = let same : min t u ≡ min u t = omega arith in ap At same
meet_comm (At t) Done = refl
meet_comm Done (At u) = refl
meet_comm Done Done = refl

-- the lesser of three, however they are grouped
pub meet_assoc : (f g h : Frontier) → meet (meet f g) h ≡ meet f (meet g h)
meet_assoc (At t) (At u) (At v) = let same : min (min t u) v ≡ min t (min u v) = omega arith in ap At same
meet_assoc (At t) (At u) Done = refl
meet_assoc (At t) Done h = refl
meet_assoc Done g h = refl

-- a frontier is the lesser of itself and itself
pub meet_idem : (f : Frontier) → meet f f ≡ f
meet_idem (At t) = let same : min t t ≡ t = omega arith in ap At same
meet_idem Done = refl

-- `Done` changes nothing
pub meet-Done : (f : Frontier) → meet f Done ≡ f
meet-Done (At t) = refl
meet-Done Done = refl

-- a frontier is the lesser of itself and what is at or after it
pub meet_absorb : (f g : Frontier) → meet f (join f g) ≡ f
meet_absorb (At t) (At u) = let same : min t (max t u) ≡ t = omega arith in ap At same
meet_absorb (At t) Done = refl
meet_absorb Done g = refl

-- the lesser is at or before the first
pub meet-Le_left : (f g : Frontier) → Le (meet f g) f
meet-Le_left (At t) (At u) = omega arith
meet-Le_left (At t) Done = omega arith
meet-Le_left Done g = Le-Done g

-- and at or before the second
pub meet-Le_right : (f g : Frontier) → Le (meet f g) g
meet-Le_right (At t) (At u) = omega arith
meet-Le_right (At t) Done = tt
meet-Le_right Done g = Le-refl g

-- it is the greatest that is at or before both
pub meet-greatest : (h f g : Frontier) → Le h f → Le h g → Le h (meet f g)
meet-greatest (At v) (At t) (At u) p q = omega arith
meet-greatest Done (At t) (At u) p q = absurd p
meet-greatest h (At t) Done p q = p
meet-greatest h Done g p q = q

-- what is at or before the lesser is at or before both
pub Le-meet : (f g h : Frontier) → Le h (meet f g) ↔ (Le h f × Le h g)
Le-meet f g h = (
  λ p. (Le-trans h (meet f g) f p (meet-Le_left f g), Le-trans h (meet f g) g p (meet-Le_right f g)),
  λ p. meet-greatest h f g p.0 p.1,
)

-- it is the first where that is at or before the second
pub meet-Le : (f g : Frontier) → Le f g → meet f g ≡ f
meet-Le (At t) (At u) p = let same : min t u ≡ t = omega arith in ap At same
meet-Le (At t) Done p = refl
meet-Le Done (At u) p = absurd p
meet-Le Done Done p = refl

-- and else the second
pub meet-not_Le : (f g : Frontier) → (Le f g → ⊥) → meet f g ≡ g
meet-not_Le f g p = meet_comm f g ∙ meet-Le g f (elim (Le-total f g) [ inl q ↦ absurd (p q) | inr q ↦ q ])

-- the greater of two, in either order
pub join_comm : (f g : Frontier) → join f g ≡ join g f
join_comm (At t) (At u) = let same : max t u ≡ max u t = omega arith in ap At same
join_comm (At t) Done = refl
join_comm Done (At u) = refl
join_comm Done Done = refl

-- the greater of three, however they are grouped
pub join_assoc : (f g h : Frontier) → join (join f g) h ≡ join f (join g h)
join_assoc (At t) (At u) (At v) = let same : max (max t u) v ≡ max t (max u v) = omega arith in ap At same
join_assoc (At t) (At u) Done = refl
join_assoc (At t) Done h = refl
join_assoc Done g h = refl

-- a frontier is the greater of itself and itself
pub join_idem : (f : Frontier) → join f f ≡ f
join_idem (At t) = let same : max t t ≡ t = omega arith in ap At same
join_idem Done = refl

-- nothing is after `Done`
pub join-Done : (f : Frontier) → join f Done ≡ Done
join-Done (At t) = refl
join-Done Done = refl

-- a frontier is the greater of itself and what is at or before it
pub join_absorb : (f g : Frontier) → join f (meet f g) ≡ f
join_absorb (At t) (At u) = let same : max t (min t u) ≡ t = omega arith in ap At same
join_absorb (At t) Done = let same : max t t ≡ t = omega arith in ap At same
join_absorb Done g = refl

-- the greater is at or after the first
pub Le-join_left : (f g : Frontier) → Le f (join f g)
Le-join_left (At t) (At u) = omega arith
Le-join_left (At t) Done = tt
Le-join_left Done g = tt

-- and at or after the second
pub Le-join_right : (f g : Frontier) → Le g (join f g)
Le-join_right (At t) (At u) = omega arith
Le-join_right (At t) Done = tt
Le-join_right Done g = Le-Done g

-- it is the least that is at or after both
pub join-least : (h f g : Frontier) → Le f h → Le g h → Le (join f g) h
join-least (At v) (At t) (At u) p q = omega arith
join-least Done (At t) (At u) p q = tt
join-least h (At t) Done p q = q
join-least h Done g p q = p

-- what is at or after the greater is at or after both
pub join-Le_both : (f g h : Frontier) → Le (join f g) h ↔ (Le f h × Le g h)
join-Le_both f g h = (
  λ p. (Le-trans f (join f g) h (Le-join_left f g) p, Le-trans g (join f g) h (Le-join_right f g) p),
  λ p. join-least h f g p.0 p.1,
)

-- it is the second where the first is at or before that
pub join-Le : (f g : Frontier) → Le f g → join f g ≡ g
join-Le (At t) (At u) p = let same : max t u ≡ u = omega arith in ap At same
join-Le (At t) Done p = refl
join-Le Done (At u) p = absurd p
join-Le Done Done p = refl

-- and else the first
pub join-not_Le : (f g : Frontier) → (Le f g → ⊥) → join f g ≡ f
join-not_Le f g p = join_comm f g ∙ join-Le g f (elim (Le-total f g) [ inl q ↦ absurd (p q) | inr q ↦ q ])

-- the least of two lists in a row is the lesser of their leasts
pub least-append : (fs gs : List Frontier) → least (fs ++ gs) ≡ meet (least fs) (least gs)
least-append [] gs = refl
least-append (f ∷ fs) gs = ap (meet f) (least-append fs gs) ∙ sym (meet_assoc f (least fs) (least gs))

-- what is at or before each of a list is at or before its least
pub least-greatest : (h : Frontier) (fs : List Frontier) → All (Le h) fs → Le h (least fs)
least-greatest h [] p = Le-Done h
least-greatest h (f ∷ fs) p =
    meet-greatest h f (least fs) (All-head (Le h) f fs p) (least-greatest h fs (All-tail (Le h) f fs p))

-- what is at or before the least of a list is at or before each
pub least-Le_each : (h : Frontier) (fs : List Frontier) → Le h (least fs) → All (Le h) fs
least-Le_each h [] p = All-nil (Le h)
least-Le_each h (f ∷ fs) p =
    let here = Le-trans h (meet f (least fs)) f p (meet-Le_left f (least fs)) in
    let rest = Le-trans h (meet f (least fs)) (least fs) p (meet-Le_right f (least fs)) in
    All-cons (Le h) f fs here (least-Le_each h fs rest)

-- what is at or before the least is at or before each, and the other way round
pub Le-least : (h : Frontier) (fs : List Frontier) → Le h (least fs) ↔ All (Le h) fs
Le-least h fs = (least-Le_each h fs, least-greatest h fs)

-- the least of a list is at or before each of it
pub least-Le : (fs : List Frontier) → All (Le (least fs)) fs
least-Le fs = least-Le_each (least fs) fs (Le-refl (least fs))

-- a step back gives no later frontier
pub step_back-Le : (f : Frontier) (n : ℕ) → Le (step_back f n) f
step_back-Le (At u) n = omega arith
step_back-Le Done n = tt

-- a step back keeps the order
pub step_back_mono : (f g : Frontier) (n : ℕ) → Le f g → Le (step_back f n) (step_back g n)
step_back_mono (At t) (At u) n p = omega arith
step_back_mono (At t) Done n p = tt
step_back_mono Done (At u) n p = absurd p
step_back_mono Done Done n p = tt
