-- Times that fall: where a time stands among them, and that they still fall as it comes and goes.
use Rattle.std.proofs.Common.{◌≡◌, ℕ, zero, suc, ◌+◌, ◌-◌, ◌<◌, ◌≤◌, ◌==◌, nat_le, ltb, leb, Bool, true, false, cond, Some, List, [], ◌∷◌, take, drop, length, get_or, slice_get, refl, sym, ap, subst, ◌∙◌, arith}
use Rattle.std.proofs.lemmas.Bool.Decides.{nat_tests}
use Rattle.std.specs.List.{insert, remove, AllByRecursion as Each}
use Rattle.std.specs.List.Sorted.{IsPartitionedBy}
use Rattle.mz_time.specs.declared.frontier.Frontier.TheVariants.{At}
use Rattle.mz_time.specs.Frontier.{meet}
use Rattle.mz_time.proofs.FrontierLemmas.{meet_comm, meet-Le}
use Rattle.mz_counted.specs.Counted.{count, inserted, removed, in_order, least_of, IsFalling}
use Rattle.mz_counted.proofs.Each.{at_place}
use Rattle.mz_counted.proofs.Multiset.{goes_here, goes_later, leaves_here, leaves_later, counts_front}

-- ---- each of them

within : (t u : ℕ) (us : List ℕ) → u ≤ t → Each (λ v. v ≤ u) us → Each (λ v. v ≤ t) us
within t u [] h p = tt
within t u (v ∷ us) h p = (omega (arith, h, p.0), within t u us h p.1)

each_come : (P : ℕ → Type 0) (t : ℕ) (us : List ℕ) → P t → Each P us → Each P (inserted t us)
each_come P t [] h p = (h, tt)
each_come P t (u ∷ us) h p = by (nat_le u t) refl (each_come P t us h p.1)
  where
    by : (c : Bool) → nat_le u t ≡ c → Each P (inserted t us) → Each P (inserted t (u ∷ us))
    by true e ih = rw (goes_here t u us e) (h, p)
    by false e ih = rw (goes_later t u us e) (p.0, ih)

each_go : (P : ℕ → Type 0) (t : ℕ) (us : List ℕ) → Each P us → Each P (removed t us)
each_go P t [] p = tt
each_go P t (u ∷ us) p = by (u == t) refl (each_go P t us p.1)
  where
    by : (c : Bool) → (u == t) ≡ c → Each P (removed t us) → Each P (removed t (u ∷ us))
    by true e ih = rw (leaves_here t u us e) p.1
    by false e ih = rw (leaves_later t u us e) (p.0, ih)

-- ---- they still fall

pub still_come : (t : ℕ) (us : List ℕ) → IsFalling us → IsFalling (inserted t us)
still_come t [] f = (tt, tt)
still_come t (u ∷ us) f = by (nat_le u t) refl (still_come t us f.1)
  where
    by : (c : Bool) → nat_le u t ≡ c → IsFalling (inserted t us) → IsFalling (inserted t (u ∷ us))
    by true e ih =
        let h : u ≤ t = grind (arith, nat_tests, e) in
        rw (goes_here t u us e) ((h, within t u us h f.0), f)
    by false e ih =
        let h : t ≤ u = grind (arith, nat_tests, e) in
        rw (goes_later t u us e) (each_come (λ v. v ≤ u) t us h f.0, ih)

pub still_go : (t : ℕ) (us : List ℕ) → IsFalling us → IsFalling (removed t us)
still_go t [] f = tt
still_go t (u ∷ us) f = by (u == t) refl (still_go t us f.1)
  where
    by : (c : Bool) → (u == t) ≡ c → IsFalling (removed t us) → IsFalling (removed t (u ∷ us))
    by true e ih = rw (leaves_here t u us e) f.1
    by false e ih = rw (leaves_later t u us e) (each_go (λ v. v ≤ u) t us f.0, ih)

pub falls_in_order : (ts : List ℕ) → IsFalling (in_order ts)
falls_in_order [] = tt
falls_in_order (t ∷ ts) = still_come t (in_order ts) (falls_in_order ts)

-- ---- places

falls : (us : List ℕ) → IsFalling us → (i j d : ℕ) → i ≤ j → j < length us → get_or us j d ≤ get_or us i d
falls [] f i j d k l = absurd (omega arith)
falls (u ∷ us) f zero zero d k l = omega arith
falls (u ∷ us) f zero (suc j) d k l = at_place (λ v. v ≤ u) us f.0 j d (omega arith)
falls (u ∷ us) f (suc i) zero d k l = absurd (omega arith)
falls (u ∷ us) f (suc i) (suc j) d k l = falls us f.1 i j d (omega arith) (omega arith)

-- those after a time stand first
pub parted_after : (t : ℕ) (us : List ℕ) → IsFalling us → IsPartitionedBy (λ u. ltb t u) us
parted_after t us f i j d k l e = grind (arith, nat_tests, falls us f i j d k l, e)

-- and those not before it
pub parted_from : (t : ℕ) (us : List ℕ) → IsFalling us → IsPartitionedBy (λ u. leb t u) us
parted_from t us f i j d k l e = grind (arith, nat_tests, falls us f i j d k l, e)

-- none of the times before it is equal to a time
none_here : (t : ℕ) (us : List ℕ) → Each (λ u. u < t) us → count t us ≡ 0
none_here t [] p = refl
none_here t (u ∷ us) p =
    let other : (u == t) ≡ false = grind (arith, nat_tests, p.0) in
    omega (arith, counts_front t u us, ap {B = ℕ} (λ b. cond b 1 0) other, none_here t us p.1)

-- a time is there as often as the places of those after it and of those before it are apart
pub count_apart : (t a b : ℕ) (us : List ℕ) → Each (λ u. t < u) (take a us) → Each (λ u. u ≤ t) (drop a us)
    → Each (λ u. t ≤ u) (take b us) → Each (λ u. u < t) (drop b us) → a ≤ length us → b ≤ length us → count t us + a ≡ b
count_apart t zero zero [] p q r s h k = refl
count_apart t zero (suc b) [] p q r s h k = absurd (omega (arith, k))
count_apart t (suc a) b [] p q r s h k = absurd (omega (arith, h))
count_apart t zero zero (u ∷ us) p q r s h k = omega (arith, none_here t (u ∷ us) s)
count_apart t zero (suc b) (u ∷ us) p q r s h k =
    let same : (u == t) ≡ true = grind (arith, nat_tests, q.0, r.0) in
    omega (arith, counts_front t u us, ap {B = ℕ} (λ b. cond b 1 0) same, count_apart t zero b us tt q.1 r.1 s (omega arith) (omega (arith, k)))
count_apart t (suc a) zero (u ∷ us) p q r s h k = absurd (omega (arith, p.0, s.0))
count_apart t (suc a) (suc b) (u ∷ us) p q r s h k =
    let other : (u == t) ≡ false = grind (arith, nat_tests, p.0) in
    omega (arith, counts_front t u us, ap {B = ℕ} (λ b. cond b 1 0) other, count_apart t a b us p.1 q r.1 s (omega (arith, h)) (omega (arith, k)))

-- a time comes behind those after it
pub come_behind : (t a : ℕ) (us : List ℕ) → Each (λ u. t < u) (take a us) → Each (λ u. u ≤ t) (drop a us) → a ≤ length us → insert us a t ≡ inserted t us
come_behind t zero [] p q h = refl
come_behind t (suc a) [] p q h = absurd (omega (arith, h))
come_behind t zero (u ∷ us) p q h = sym (goes_here t u us (grind (arith, nat_tests, q.0)))
come_behind t (suc a) (u ∷ us) p q h =
    ap (λ ws. u ∷ ws) (come_behind t a us p.1 q (omega (arith, h))) ∙ sym (goes_later t u us (grind (arith, nat_tests, p.0)))

-- and where it is there, the first such stands behind them
pub stands_behind : (t a : ℕ) (us : List ℕ) → IsFalling us → Each (λ u. t < u) (take a us) → 0 < count t us → a ≤ length us → a < length us
stands_behind t a [] f p c h = absurd (omega (arith, c))
stands_behind t zero (u ∷ us) f p c h = omega arith
stands_behind t (suc a) (u ∷ us) f p c h =
    let other : (u == t) ≡ false = grind (arith, nat_tests, p.0) in
    let there : 0 < count t us = omega (arith, c, counts_front t u us, ap {B = ℕ} (λ b. cond b 1 0) other) in
    omega (arith, stands_behind t a us f.1 p.1 there (omega (arith, h)))

-- so it goes from there
pub go_behind : (t a : ℕ) (us : List ℕ) → IsFalling us → Each (λ u. t < u) (take a us) → Each (λ u. u ≤ t) (drop a us) → 0 < count t us → a ≤ length us
    → remove us a ≡ removed t us
go_behind t a [] f p q c h = absurd (omega (arith, c))
go_behind t zero (u ∷ us) f p q c h = by (u == t) refl
  where
    by : (b : Bool) → (u == t) ≡ b → us ≡ removed t (u ∷ us)
    by true e = sym (leaves_here t u us e)
    by false e =
        let before : u < t = grind (arith, nat_tests, q.0, e) in
        absurd (omega (arith, c, none_here t (u ∷ us) (before, strictly us f.0)))
      where
        strictly : (vs : List ℕ) → Each (λ v. v ≤ u) vs → Each (λ v. v < t) vs
        strictly [] k = tt
        strictly (v ∷ vs) k = (grind (arith, nat_tests, q.0, e, k.0), strictly vs k.1)
go_behind t (suc a) (u ∷ us) f p q c h =
    let other : (u == t) ≡ false = grind (arith, nat_tests, p.0) in
    let there : 0 < count t us = omega (arith, c, counts_front t u us, ap {B = ℕ} (λ b. cond b 1 0) other) in
    ap (λ ws. u ∷ ws) (go_behind t a us f.1 p.1 q there (omega (arith, h))) ∙ sym (leaves_later t u us other)

-- ---- the least

found : (P : ℕ → Type 0) (us : List ℕ) (i t : ℕ) → Each P us → slice_get us i ≡ Some t → P t
found P [] i t p e = absurd (cc)
found P (u ∷ us) zero t p e =
    let same : u ≡ t = cc in
    subst P same p.0
found P (u ∷ us) (suc i) t p e = found P us i t p.1 e

-- it is the last
last_least : (n : ℕ) (us : List ℕ) (t : ℕ) → IsFalling us → length us ≡ suc n → slice_get us n ≡ Some t → At t ≡ least_of us
last_least n [] t f l e = absurd (cc)
last_least zero (u ∷ []) t f l e =
    let same : u ≡ t = cc in
    ap (λ v. At v) (sym same)
last_least zero (u ∷ v ∷ us) t f l e = absurd (omega (arith, l))
last_least (suc n) (u ∷ us) t f l e =
    let h : t ≤ u = found (λ w. w ≤ u) us n t f.0 e in
    sym (meet_comm (At u) (At t) ∙ meet-Le (At t) (At u) h) ∙ ap (meet (At u)) (last_least n us t f.1 (omega (arith, l)) e)

pub least_last : (us : List ℕ) (t : ℕ) → IsFalling us → slice_get us (length us - 1) ≡ Some t → At t ≡ least_of us
least_last [] t f e = absurd (cc)
least_last (u ∷ us) t f e =
    let place : length (u ∷ us) - 1 ≡ length us = omega arith in
    last_least (length us) (u ∷ us) t f refl (ap (slice_get (u ∷ us)) (sym place) ∙ e)
