-- How often each replica has joined, as one joins once more.
use Rattle.std.proofs.Common.{◌≡◌, ℕ, zero, suc, ◌+◌, ◌<◌, Bool, true, false, cond, Some, None, List, [], ◌∷◌, ◌++◌, length, not, get_or, set, refl, sym, ap, ◌∙◌, arith}
use Rattle.std.specs.List.{find, position, position_or_len}
use Rattle.std.specs.Prelude.{bytes_eq}
use Rattle.mz_marked.specs.Twice.{Twice}
use Rattle.mz_history.specs.StreamBook.{Joined, once_more, times_of}
use Rattle.mz_history.specs.Kept.{joined_again, joined_first, presents}
use Rattle.mz_history.proofs.Found.{found_at, is_at, missed}

-- the first of the replica says how often
times_seen : (r : List ℕ) (ts : List (Twice Joined)) (t : Twice Joined) → find (λ x. bytes_eq x.present.replica r) ts ≡ Some t → times_of r (presents ts) ≡ t.present.times
times_seen r [] t e = absurd (cc)
times_seen r (x ∷ ts) t e = by (bytes_eq x.present.replica r) refl (times_seen r ts t)
  where
    by : (b : Bool) → bytes_eq x.present.replica r ≡ b → (find (λ y. bytes_eq y.present.replica r) ts ≡ Some t → times_of r (presents ts) ≡ t.present.times)
        → times_of r (presents (x ∷ ts)) ≡ t.present.times
    by true k ih =
        let same : x ≡ t = cc in
        ap (λ b. cond b x.present.times (times_of r (presents ts))) k ∙ ap (λ y. y.present.times) same
    by false k ih =
        ap (λ b. cond b x.present.times (times_of r (presents ts))) k
        ∙ ih (sym (ap (λ b. cond b (Some x) (find (λ y. bytes_eq y.present.replica r) ts)) k) ∙ e)

pub times_found : (r : List ℕ) (ts : List (Twice Joined)) (k : ℕ) (t : Twice Joined) → Some k ≡ position (λ x. bytes_eq x.present.replica r) ts
    → t ≡ get_or ts k t → times_of r (presents ts) ≡ t.present.times
times_found r ts k t e i = times_seen r ts t (found_at (λ x. bytes_eq x.present.replica r) ts k t e i)

-- where none is of the replica, it has never joined
times_none : (r : List ℕ) (ts : List (Twice Joined)) → find (λ x. bytes_eq x.present.replica r) ts ≡ None → times_of r (presents ts) ≡ 0
times_none r [] e = refl
times_none r (x ∷ ts) e = by (bytes_eq x.present.replica r) refl (times_none r ts)
  where
    by : (b : Bool) → bytes_eq x.present.replica r ≡ b → (find (λ y. bytes_eq y.present.replica r) ts ≡ None → times_of r (presents ts) ≡ 0)
        → times_of r (presents (x ∷ ts)) ≡ 0
    by true k ih = absurd (cc)
    by false k ih =
        ap (λ b. cond b x.present.times (times_of r (presents ts))) k
        ∙ ih (sym (ap (λ b. cond b (Some x) (find (λ y. bytes_eq y.present.replica r) ts)) k) ∙ e)

pub times_missed : (r : List ℕ) (ts : List (Twice Joined)) → None ≡ position (λ x. bytes_eq x.present.replica r) ts → times_of r (presents ts) ≡ 0
times_missed r ts e = times_none r ts (missed (λ x. bytes_eq x.present.replica r) ts e)

-- ---- once more

-- the first of the replica joins once more
more_place : (k : ℕ) (r : List ℕ) (ts : List (Twice Joined)) (t : Twice Joined) → k < length ts
    → k ≡ position_or_len (λ x. bytes_eq x.present.replica r) ts → t ≡ get_or ts k t
    → presents (set ts k (joined_again t)) ≡ once_more r (presents ts)
more_place k r [] t h f e = absurd (omega (arith, h))
more_place zero r (x ∷ ts) t h f e = by (bytes_eq x.present.replica r) refl f
  where
    by : (b : Bool) → bytes_eq x.present.replica r ≡ b → zero ≡ cond (not b) (1 + position_or_len (λ y. bytes_eq y.present.replica r) ts) 0
        → presents (joined_again t ∷ ts) ≡ once_more r (presents (x ∷ ts))
    by true k g =
        ap (λ y. (joined_again y).present ∷ presents ts) e
        ∙ ap (λ b. cond b ((joined_again x).present ∷ presents ts) (x.present ∷ once_more r (presents ts))) (sym k)
    by false k g = absurd (omega (arith, g))
more_place (suc k) r (x ∷ ts) t h f e = by (bytes_eq x.present.replica r) refl f (more_place k r ts t (omega (arith, h)))
  where
    by : (b : Bool) → bytes_eq x.present.replica r ≡ b → suc k ≡ cond (not b) (1 + position_or_len (λ y. bytes_eq y.present.replica r) ts) 0
        → (k ≡ position_or_len (λ y. bytes_eq y.present.replica r) ts → t ≡ get_or ts k t → presents (set ts k (joined_again t)) ≡ once_more r (presents ts))
        → x.present ∷ presents (set ts k (joined_again t)) ≡ once_more r (presents (x ∷ ts))
    by true i g ih = absurd (omega (arith, g))
    by false i g ih =
        ap (λ ys. x.present ∷ ys) (ih (omega (arith, g)) e)
        ∙ ap (λ b. cond b ((joined_again x).present ∷ presents ts) (x.present ∷ once_more r (presents ts))) (sym i)

pub more_found : (r : List ℕ) (ts : List (Twice Joined)) (k : ℕ) (t : Twice Joined) → Some k ≡ position (λ x. bytes_eq x.present.replica r) ts
    → t ≡ get_or ts k t → presents (set ts k (joined_again t)) ≡ once_more r (presents ts)
more_found r ts k t e i =
    let at = is_at (λ x. bytes_eq x.present.replica r) ts k e in
    more_place k r ts t at.within at.first i

-- one that has never joined comes behind the others
more_none : (r : List ℕ) (ts : List (Twice Joined)) → find (λ x. bytes_eq x.present.replica r) ts ≡ None
    → presents (ts ++ joined_first r ∷ []) ≡ once_more r (presents ts)
more_none r [] e = refl
more_none r (x ∷ ts) e = by (bytes_eq x.present.replica r) refl (more_none r ts)
  where
    by : (b : Bool) → bytes_eq x.present.replica r ≡ b
        → (find (λ y. bytes_eq y.present.replica r) ts ≡ None → presents (ts ++ joined_first r ∷ []) ≡ once_more r (presents ts))
        → x.present ∷ presents (ts ++ joined_first r ∷ []) ≡ once_more r (presents (x ∷ ts))
    by true k ih = absurd (cc)
    by false k ih =
        ap (λ ys. x.present ∷ ys) (ih (sym (ap (λ b. cond b (Some x) (find (λ y. bytes_eq y.present.replica r) ts)) k) ∙ e))
        ∙ ap (λ b. cond b ((joined_again x).present ∷ presents ts) (x.present ∷ once_more r (presents ts))) (sym k)

pub more_missed : (r : List ℕ) (ts : List (Twice Joined)) → None ≡ position (λ x. bytes_eq x.present.replica r) ts
    → presents (ts ++ joined_first r ∷ []) ≡ once_more r (presents ts)
more_missed r ts e = more_none r ts (missed (λ x. bytes_eq x.present.replica r) ts e)
