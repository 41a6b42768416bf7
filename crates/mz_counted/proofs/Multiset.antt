-- Times as they come and go: how often each is there, how many, and the least.
use Rattle.std.proofs.Common.{◌≡◌, ℕ, ◌+◌, ◌-◌, ◌<◌, ◌≤◌, ◌==◌, nat_le, Bool, true, false, cond, List, [], ◌∷◌, ◌++◌, length, refl, sym, ap, ◌∙◌, arith}
use Rattle.std.proofs.lemmas.Bool.Decides.{nat_tests}
use Rattle.mz_time.specs.declared.frontier.Frontier.{Frontier}
use Rattle.mz_time.specs.declared.frontier.Frontier.TheVariants.{At}
use Rattle.mz_time.specs.Frontier.{meet}
use Rattle.mz_time.proofs.FrontierLemmas.{meet_assoc, meet_comm}
use Rattle.mz_counted.specs.Counted.{count, inserted, removed, in_order, least_of}

-- ---- a step of each definition, by its test

pub goes_here : (t u : ℕ) (us : List ℕ) → nat_le u t ≡ true → inserted t (u ∷ us) ≡ t ∷ u ∷ us
goes_here t u us e = ap (λ c. cond c (t ∷ u ∷ us) (u ∷ inserted t us)) e

pub goes_later : (t u : ℕ) (us : List ℕ) → nat_le u t ≡ false → inserted t (u ∷ us) ≡ u ∷ inserted t us
goes_later t u us e = ap (λ c. cond c (t ∷ u ∷ us) (u ∷ inserted t us)) e

pub leaves_here : (t u : ℕ) (us : List ℕ) → (u == t) ≡ true → removed t (u ∷ us) ≡ us
leaves_here t u us e = ap (λ c. cond c us (u ∷ removed t us)) e

pub leaves_later : (t u : ℕ) (us : List ℕ) → (u == t) ≡ false → removed t (u ∷ us) ≡ u ∷ removed t us
leaves_later t u us e = ap (λ c. cond c us (u ∷ removed t us)) e

one_more : (c : Bool) (n : ℕ) → cond c (n + 1) n ≡ n + cond c 1 0
one_more true n = refl
one_more false n = omega arith

-- a time in front is counted by its test
pub counts_front : (t u : ℕ) (us : List ℕ) → count t (u ∷ us) ≡ count t us + cond (u == t) 1 0
counts_front t u us = one_more (u == t) (count t us)

-- ---- coming

pub counts_come : (t u : ℕ) (ts : List ℕ) → count u (inserted t ts) ≡ count u ts + cond (t == u) 1 0
counts_come t u [] = one_more (t == u) 0
counts_come t u (v ∷ vs) = by (nat_le v t) refl (counts_come t u vs)
  where
    by : (c : Bool) → nat_le v t ≡ c → count u (inserted t vs) ≡ count u vs + cond (t == u) 1 0 → count u (inserted t (v ∷ vs)) ≡ count u (v ∷ vs) + cond (t == u) 1 0
    by true e ih = ap (count u) (goes_here t v vs e) ∙ counts_front u t (v ∷ vs)
    by false e ih = ap (count u) (goes_later t v vs e)
        ∙ omega (arith, counts_front u v (inserted t vs), counts_front u v vs, ih)

pub more_come : (t : ℕ) (ts : List ℕ) → length (inserted t ts) ≡ length ts + 1
more_come t [] = refl
more_come t (v ∷ vs) = by (nat_le v t) refl (more_come t vs)
  where
    by : (c : Bool) → nat_le v t ≡ c → length (inserted t vs) ≡ length vs + 1 → length (inserted t (v ∷ vs)) ≡ length (v ∷ vs) + 1
    by true e ih = ap length (goes_here t v vs e) ∙ omega arith
    by false e ih = ap length (goes_later t v vs e) ∙ omega (arith, ih)

-- of three frontiers the first two may change places
swapped : (f g h : Frontier) → meet f (meet g h) ≡ meet g (meet f h)
swapped f g h = sym (meet_assoc f g h) ∙ ap (λ k. meet k h) (meet_comm f g) ∙ meet_assoc g f h

pub lesser_come : (t : ℕ) (ts : List ℕ) → least_of (inserted t ts) ≡ meet (At t) (least_of ts)
lesser_come t [] = refl
lesser_come t (v ∷ vs) = by (nat_le v t) refl (lesser_come t vs)
  where
    by : (c : Bool) → nat_le v t ≡ c → least_of (inserted t vs) ≡ meet (At t) (least_of vs) → least_of (inserted t (v ∷ vs)) ≡ meet (At t) (least_of (v ∷ vs))
    by true e ih = ap least_of (goes_here t v vs e)
    by false e ih = ap least_of (goes_later t v vs e) ∙ ap (meet (At v)) ih ∙ swapped (At v) (At t) (least_of vs)

-- two times may come in either order
orderly : (t u : ℕ) (ts : List ℕ) → t ≤ u → inserted t (inserted u ts) ≡ inserted u (inserted t ts)
orderly t u [] h = by (nat_le u t) refl
  where
    up : inserted u (t ∷ []) ≡ u ∷ t ∷ []
    up = goes_here u t [] (grind (arith, nat_tests, h))

    by : (c : Bool) → nat_le u t ≡ c → inserted t (u ∷ []) ≡ inserted u (t ∷ [])
    by true e =
        let same : t ≡ u = grind (arith, nat_tests, h, e) in
        goes_here t u [] e ∙ (λ i. same i ∷ sym same i ∷ []) ∙ sym up
    by false e = goes_later t u [] e ∙ sym up
orderly t u (v ∷ vs) h = by (nat_le v t) refl (nat_le v u) refl (orderly t u vs h)
  where
    by : (c : Bool) → nat_le v t ≡ c → (d : Bool) → nat_le v u ≡ d → inserted t (inserted u vs) ≡ inserted u (inserted t vs)
        → inserted t (inserted u (v ∷ vs)) ≡ inserted u (inserted t (v ∷ vs))
    by true e true f ih = ap (inserted t) (goes_here u v vs f) ∙ both (nat_le u t) refl ∙ sym (goes_here u t (v ∷ vs) (grind (arith, nat_tests, h))) ∙ sym (ap (inserted u) (goes_here t v vs e))
      where
        both : (c : Bool) → nat_le u t ≡ c → inserted t (u ∷ v ∷ vs) ≡ u ∷ t ∷ v ∷ vs
        both true k =
            let same : t ≡ u = grind (arith, nat_tests, h, k) in
            goes_here t u (v ∷ vs) k ∙ (λ i. same i ∷ sym same i ∷ v ∷ vs)
        both false k = goes_later t u (v ∷ vs) k ∙ ap (λ ws. u ∷ ws) (goes_here t v vs e)
    by true e false f ih = absurd (grind (arith, nat_tests, h, e, f))
    by false e true f ih =
        ap (inserted t) (goes_here u v vs f) ∙ goes_later t u (v ∷ vs) (grind (arith, nat_tests, e, f)) ∙ ap (λ ws. u ∷ ws) (goes_later t v vs e)
        ∙ sym (goes_here u v (inserted t vs) f) ∙ sym (ap (inserted u) (goes_later t v vs e))
    by false e false f ih =
        ap (inserted t) (goes_later u v vs f) ∙ goes_later t v (inserted u vs) e ∙ ap (λ ws. v ∷ ws) ih
        ∙ sym (goes_later u v (inserted t vs) f) ∙ sym (ap (inserted u) (goes_later t v vs e))

pub any_order : (t u : ℕ) (ts : List ℕ) → inserted t (inserted u ts) ≡ inserted u (inserted t ts)
any_order t u ts = by (nat_le t u) refl
  where
    by : (c : Bool) → nat_le t u ≡ c → inserted t (inserted u ts) ≡ inserted u (inserted t ts)
    by true e = orderly t u ts (grind (arith, nat_tests, e))
    by false e = sym (orderly u t ts (grind (arith, nat_tests, e)))

pub last_come : (t : ℕ) (ts : List ℕ) → in_order (ts ++ t ∷ []) ≡ inserted t (in_order ts)
last_come t [] = refl
last_come t (u ∷ us) = ap (inserted u) (last_come t us) ∙ any_order u t (in_order us)

-- ---- going

pub comes_back : (t : ℕ) (ts : List ℕ) → removed t (inserted t ts) ≡ ts
comes_back t [] = leaves_here t t [] (grind (arith, nat_tests))
comes_back t (v ∷ vs) = by (nat_le v t) refl (comes_back t vs)
  where
    by : (c : Bool) → nat_le v t ≡ c → removed t (inserted t vs) ≡ vs → removed t (inserted t (v ∷ vs)) ≡ v ∷ vs
    by true e ih = ap (removed t) (goes_here t v vs e) ∙ leaves_here t t (v ∷ vs) (grind (arith, nat_tests))
    by false e ih = ap (removed t) (goes_later t v vs e) ∙ leaves_later t v (inserted t vs) (grind (arith, nat_tests, e)) ∙ ap (λ ws. v ∷ ws) ih

pub counts_go : (t u : ℕ) (ts : List ℕ) → count u (removed t ts) ≡ count u ts - cond (t == u) 1 0
counts_go t u [] = omega arith
counts_go t u (v ∷ vs) = by (v == t) refl (t == u) refl (counts_go t u vs)
  where
    by : (c : Bool) → (v == t) ≡ c → (d : Bool) → (t == u) ≡ d → count u (removed t vs) ≡ count u vs - cond (t == u) 1 0
        → count u (removed t (v ∷ vs)) ≡ count u (v ∷ vs) - cond d 1 0
    by true e d f ih =
        let same : v ≡ t = grind (arith, nat_tests, e) in
        ap (count u) (leaves_here t v vs e) ∙ omega (arith, counts_front u v vs, ap {B = ℕ} (λ n. cond (n == u) 1 0) same, ap {B = ℕ} (λ b. cond b 1 0) f)
    by false e true f ih =
        let other : (v == u) ≡ false = grind (arith, nat_tests, e, f) in
        ap (count u) (leaves_later t v vs e)
        ∙ omega (arith, counts_front u v vs, counts_front u v (removed t vs), ap {B = ℕ} (λ b. cond b 1 0) other, ap {B = ℕ} (λ b. cond b 1 0) f, ih)
    by false e false f ih =
        ap (count u) (leaves_later t v vs e)
        ∙ omega (arith, counts_front u v vs, counts_front u v (removed t vs), ap {B = ℕ} (λ b. cond b 1 0) f, ih)

pub fewer_go : (t : ℕ) (ts : List ℕ) → 0 < count t ts → length (removed t ts) + 1 ≡ length ts
fewer_go t [] h = absurd (omega (arith, h))
fewer_go t (v ∷ vs) h = by (v == t) refl (fewer_go t vs)
  where
    by : (c : Bool) → (v == t) ≡ c → (0 < count t vs → length (removed t vs) + 1 ≡ length vs) → length (removed t (v ∷ vs)) + 1 ≡ length (v ∷ vs)
    by true e ih = ap (λ ws. length ws + 1) (leaves_here t v vs e) ∙ omega arith
    by false e ih =
        let there : 0 < count t vs = omega (arith, h, counts_front t v vs, ap {B = ℕ} (λ b. cond b 1 0) e) in
        ap (λ ws. length ws + 1) (leaves_later t v vs e) ∙ omega (arith, ih there)

-- ---- in order

pub counts_in_order : (t : ℕ) (ts : List ℕ) → count t (in_order ts) ≡ count t ts
counts_in_order t [] = refl
counts_in_order t (u ∷ us) = omega (arith, counts_come u t (in_order us), counts_front t u us, counts_in_order t us)

pub total_in_order : (ts : List ℕ) → length (in_order ts) ≡ length ts
total_in_order [] = refl
total_in_order (u ∷ us) = omega (arith, more_come u (in_order us), total_in_order us)

pub least_in_order : (ts : List ℕ) → least_of (in_order ts) ≡ least_of ts
least_in_order [] = refl
least_in_order (u ∷ us) = lesser_come u (in_order us) ∙ ap (meet (At u)) (least_in_order us)
