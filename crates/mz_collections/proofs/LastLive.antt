-- The last of those that aren't done.
use Rattle.std.proofs.Common.{◌≡◌, ℕ, zero, suc, ◌+◌, ◌-◌, Bool, true, false, List, [], ◌∷◌, ◌++◌, length, get_or, refl, sym, ap, ◌∙◌, arith}
use Rattle.mz_rules.specs.declared.capability.Settled.{Settled}
use Rattle.mz_rules.specs.Frontiers.{is_at}
use Rattle.mz_collections.specs.Kept.{live_of}
use Rattle.mz_collections.proofs.Settling.{live_here, live_later}

pub record LastLive (older : List Settled) (place number : ℕ) : Type 0 where
  pub pre : List Settled
  pub s : Settled
  pub post : List Settled
  pub is : older ≡ pre ++ s ∷ post
  pub number_is : s.collection.number ≡ number
  pub live : is_at s.since ≡ true
  pub rest : live_of post ≡ []
  pub here : place ≡ length (live_of pre)

pub last_live : (older : List Settled) (place number : ℕ) (ms : List ℕ) (d : ℕ) → length (live_of older) ≡ place + 1 → number ≡ get_or (live_of older ++ ms) place d
    → LastLive older place number
last_live [] place number ms d l e = absurd (omega (arith, l))
last_live (x ∷ xs) place number ms d l e = by (is_at x.since) refl (live_of xs) refl place l e (λ p a b. last_live xs p number ms d a b)
  where
    by : (b : Bool) → is_at x.since ≡ b → (ns : List ℕ) → live_of xs ≡ ns → (p : ℕ) → length (live_of (x ∷ xs)) ≡ p + 1 → number ≡ get_or (live_of (x ∷ xs) ++ ms) p d
        → ((q : ℕ) → length (live_of xs) ≡ q + 1 → number ≡ get_or (live_of xs ++ ms) q d → LastLive xs q number) → LastLive (x ∷ xs) p number
    by true k [] n p a b ih =
        let one : live_of (x ∷ xs) ≡ x.collection.number ∷ [] = live_here x xs k ∙ ap (λ ns. x.collection.number ∷ ns) n in
        let first : p ≡ 0 = omega (arith, a, ap length one) in
        record {
          pre = [];
          s = x;
          post = xs;
          is = refl;
          number_is = sym (b ∙ ap (λ q. get_or (live_of (x ∷ xs) ++ ms) q d) first ∙ ap (λ ns. get_or (ns ++ ms) 0 d) one);
          live = k;
          rest = n;
          here = first;
        }
    by true k (m ∷ ns) n zero a b ih = absurd (omega (arith, a, ap length (live_here x xs k), ap length n))
    by true k (m ∷ ns) n (suc p) a b ih =
        let l = ih p (omega (arith, a, ap length (live_here x xs k))) (b ∙ ap (λ ks. get_or (ks ++ ms) (suc p) d) (live_here x xs k)) in
        record {
          pre = x ∷ l.pre;
          s = l.s;
          post = l.post;
          is = ap (λ ys. x ∷ ys) l.is;
          number_is = l.number_is;
          live = l.live;
          rest = l.rest;
          here = ap suc l.here ∙ sym (ap length (live_here x l.pre k));
        }
    by false k ns n p a b ih =
        let l = ih p (sym (ap length (live_later x xs k)) ∙ a) (b ∙ ap (λ ks. get_or (ks ++ ms) p d) (live_later x xs k)) in
        record {
          pre = x ∷ l.pre;
          s = l.s;
          post = l.post;
          is = ap (λ ys. x ∷ ys) l.is;
          number_is = l.number_is;
          live = l.live;
          rest = l.rest;
          here = l.here ∙ sym (ap length (live_later x l.pre k));
        }
