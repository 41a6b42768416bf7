-- The live streams: where that of a replica stands, and what becomes of them where it changes, begins or goes.
use Rattle.std.proofs.Common.{◌≡◌, ◌≢◌, ℕ, zero, suc, ◌<◌, Bool, true, false, cond, Some, None, List, [], ◌∷◌, length, map, filter, not, take, get_or, set, true≢false, refl, sym, ap, subst, ◌∙◌, arith}
use Rattle.std.proofs.lemmas.Slice.Eq.{bytes_eq-Decides}
use Rattle.std.specs.List.{find, position, remove, AllByRecursion as Each}
use Rattle.mz_plan.specs.declared.command.Command.{Command}
use Rattle.mz_marked.specs.Twice.{Twice}
use Rattle.mz_history.specs.StreamBook.{LiveStream, changed_of, is_of, stream_of, with_line}
use Rattle.mz_history.specs.Kept.{markeds, presents, told_line, AreApart}
use Rattle.mz_history.proofs.Found.{found_at, is_at, missed, passes_at}

-- ---- names

-- one of this replica has its name
pub named : (r : List ℕ) (s : LiveStream) → is_of r s ≡ true → s.replica ≡ r
named r s e = (bytes_eq-Decides s.replica r).0 e

-- one of another name isn't of this replica
pub other_named : (r : List ℕ) (s : LiveStream) → s.replica ≢ r → is_of r s ≡ false
other_named r s n = by (is_of r s) refl
  where
    by : (b : Bool) → is_of r s ≡ b → b ≡ false
    by true e = absurd (n (named r s e))
    by false e = refl

-- ---- the stream of a replica

-- the first as it is, of those that are seen as they are
find_seen : (p : LiveStream → Bool) (ts : List (Twice LiveStream)) (t : Twice LiveStream)
    → find (λ x. p x.present) ts ≡ Some t → find p (presents ts) ≡ Some t.present
find_seen p [] t e = absurd (cc)
find_seen p (x ∷ ts) t e = by (p x.present) refl (find_seen p ts t)
  where
    by : (b : Bool) → p x.present ≡ b → (find (λ y. p y.present) ts ≡ Some t → find p (presents ts) ≡ Some t.present)
        → find p (presents (x ∷ ts)) ≡ Some t.present
    by true k ih =
        let same : x ≡ t = cc in
        ap (λ b. cond b (Some x.present) (find p (presents ts))) k ∙ ap (λ y. Some y.present) same
    by false k ih =
        ap (λ b. cond b (Some x.present) (find p (presents ts))) k
        ∙ ih (sym (ap (λ b. cond b (Some x) (find (λ y. p y.present) ts)) k) ∙ e)

none_seen : (p : LiveStream → Bool) (ts : List (Twice LiveStream)) → find (λ x. p x.present) ts ≡ None → find p (presents ts) ≡ None
none_seen p [] e = refl
none_seen p (x ∷ ts) e = by (p x.present) refl (none_seen p ts)
  where
    by : (b : Bool) → p x.present ≡ b → (find (λ y. p y.present) ts ≡ None → find p (presents ts) ≡ None) → find p (presents (x ∷ ts)) ≡ None
    by true k ih = absurd (cc)
    by false k ih =
        ap (λ b. cond b (Some x.present) (find p (presents ts))) k
        ∙ ih (sym (ap (λ b. cond b (Some x) (find (λ y. p y.present) ts)) k) ∙ e)

pub stream_found : (r : List ℕ) (ts : List (Twice LiveStream)) (k : ℕ) (t : Twice LiveStream)
    → Some k ≡ position (λ x. is_of r x.present) ts → t ≡ get_or ts k t → stream_of r (presents ts) ≡ Some t.present
stream_found r ts k t e i = find_seen (is_of r) ts t (found_at (λ x. is_of r x.present) ts k t e i)

-- ---- one is changed

-- none of these is of the replica
none_of : (r : List ℕ) (f : LiveStream → LiveStream) (ts : List (Twice LiveStream)) → Each (λ s. s.replica ≢ r) (presents ts)
    → presents ts ≡ map (changed_of r f) (presents ts)
none_of r f [] p = refl
none_of r f (t ∷ ts) p = (λ i. ap (λ b. cond b (f t.present) t.present) (sym (other_named r t.present p.0)) i ∷ none_of r f ts p.1 i)

-- what holds of each holds of one
each_at : (P : LiveStream → Type 0) (k : ℕ) (ts : List (Twice LiveStream)) (t : Twice LiveStream) → Each P (presents ts) → k < length ts
    → t ≡ get_or ts k t → P t.present
each_at P k [] t p h e = absurd (omega (arith, h))
each_at P zero (x ∷ ts) t p h e = subst (λ y. P y.present) (sym e) p.0
each_at P (suc k) (x ∷ ts) t p h e = each_at P k ts t p.1 (omega (arith, h)) e

changed_place : (k : ℕ) (r : List ℕ) (f : LiveStream → LiveStream) (ts : List (Twice LiveStream)) (t u : Twice LiveStream) → AreApart (presents ts)
    → k < length ts → t ≡ get_or ts k t → is_of r t.present ≡ true → u.present ≡ f t.present
    → presents (set ts k u) ≡ map (changed_of r f) (presents ts)
changed_place k r f [] t u a h e m q = absurd (omega (arith, h))
changed_place zero r f (x ∷ ts) t u a h e m q =
    let own : is_of r x.present ≡ true = subst (λ y. is_of r y.present ≡ true) e m in
    let rest = subst (λ n. Each (λ s. s.replica ≢ n) (presents ts)) (named r x.present own) a.0 in
    (λ i. (q ∙ ap (λ y. f y.present) e ∙ ap (λ b. cond b (f x.present) x.present) (sym own)) i ∷ none_of r f ts rest i)
changed_place (suc k) r f (x ∷ ts) t u a h e m q =
    let apart = each_at (λ s. s.replica ≢ x.present.replica) k ts t a.0 (omega (arith, h)) e in
    let other : is_of r x.present ≡ false = other_named r x.present (λ same. apart (named r t.present m ∙ sym same)) in
    (λ i. ap (λ b. cond b (f x.present) x.present) (sym other) i ∷ changed_place k r f ts t u a.1 (omega (arith, h)) e m q i)

-- the one of the replica is changed
pub changed_at : (r : List ℕ) (f : LiveStream → LiveStream) (ts : List (Twice LiveStream)) (k : ℕ) (t u : Twice LiveStream) → AreApart (presents ts)
    → Some k ≡ position (λ x. is_of r x.present) ts → t ≡ get_or ts k t → u.present ≡ f t.present
    → presents (set ts k u) ≡ map (changed_of r f) (presents ts)
changed_at r f ts k t u a e i q =
    changed_place k r f ts t u a (is_at (λ x. is_of r x.present) ts k e).within i
    (passes_at (λ x. is_of r x.present) ts t (found_at (λ x. is_of r x.present) ts k t e i)) q

-- no stream of the replica, and what of it stays
pub stream_missed : (r : List ℕ) (ts : List (Twice LiveStream)) → None ≡ position (λ x. is_of r x.present) ts → stream_of r (presents ts) ≡ None
stream_missed r ts e = none_seen (is_of r) ts (missed (λ x. is_of r x.present) ts e)

-- none is of a replica that has no stream
pub each_other : (r : List ℕ) (ss : List LiveStream) → stream_of r ss ≡ None → Each (λ s. s.replica ≢ r) ss
each_other r [] e = tt
each_other r (s ∷ ss) e = by (is_of r s) refl (each_other r ss)
  where
    by : (b : Bool) → is_of r s ≡ b → (stream_of r ss ≡ None → Each (λ x. x.replica ≢ r) ss) → Each (λ x. x.replica ≢ r) (s ∷ ss)
    by true k ih = absurd (cc)
    by false k ih = (
      (λ same. true≢false (sym ((bytes_eq-Decides s.replica r).1 same) ∙ k)),
      ih (sym (ap (λ b. cond b (Some s) (stream_of r ss)) k) ∙ e),
    )

-- where none is of the replica, none is changed
pub unchanged : (r : List ℕ) (f : LiveStream → LiveStream) (ts : List (Twice LiveStream)) → None ≡ position (λ x. is_of r x.present) ts
    → presents ts ≡ map (changed_of r f) (presents ts)
unchanged r f ts e = none_of r f ts (each_other r (presents ts) (stream_missed r ts e))

-- ---- one goes

all_left : (r : List ℕ) (ss : List LiveStream) → Each (λ s. s.replica ≢ r) ss → ss ≡ filter (λ s. not (is_of r s)) ss
all_left r [] p = refl
all_left r (s ∷ ss) p =
    ap (λ ys. s ∷ ys) (all_left r ss p.1)
    ∙ ap (λ b. cond (not b) (s ∷ filter (λ x. not (is_of r x)) ss) (filter (λ x. not (is_of r x)) ss)) (sym (other_named r s p.0))

gone_place : (k : ℕ) (r : List ℕ) (ts : List (Twice LiveStream)) (t : Twice LiveStream) → AreApart (presents ts) → k < length ts → t ≡ get_or ts k t
    → is_of r t.present ≡ true → presents (remove ts k) ≡ filter (λ s. not (is_of r s)) (presents ts)
gone_place k r [] t a h e m = absurd (omega (arith, h))
gone_place zero r (x ∷ ts) t a h e m =
    let own : is_of r x.present ≡ true = subst (λ y. is_of r y.present ≡ true) e m in
    all_left r (presents ts) (subst (λ n. Each (λ s. s.replica ≢ n) (presents ts)) (named r x.present own) a.0)
    ∙ ap (λ b. cond (not b) (x.present ∷ filter (λ s. not (is_of r s)) (presents ts)) (filter (λ s. not (is_of r s)) (presents ts))) (sym own)
gone_place (suc k) r (x ∷ ts) t a h e m =
    let apart = each_at (λ s. s.replica ≢ x.present.replica) k ts t a.0 (omega (arith, h)) e in
    let other : is_of r x.present ≡ false = other_named r x.present (λ same. apart (named r t.present m ∙ sym same)) in
    ap (λ ys. x.present ∷ ys) (gone_place k r ts t a.1 (omega (arith, h)) e m)
    ∙ ap (λ b. cond (not b) (x.present ∷ filter (λ s. not (is_of r s)) (presents ts)) (filter (λ s. not (is_of r s)) (presents ts))) (sym other)

-- what stands at a place
there : (ts : List (Twice LiveStream)) (k : ℕ) → k < length ts → (t : Twice LiveStream) × (t ≡ get_or ts k t)
there [] k h = absurd (omega (arith, h))
there (t ∷ ts) zero h = (t, refl)
there (t ∷ ts) (suc k) h = there ts k (omega (arith, h))

-- the one of the replica goes
pub gone_at : (r : List ℕ) (ts : List (Twice LiveStream)) (k : ℕ) → AreApart (presents ts) → Some k ≡ position (λ x. is_of r x.present) ts
    → presents (remove ts k) ≡ filter (λ s. not (is_of r s)) (presents ts)
gone_at r ts k a e = by (there ts k (is_at (λ x. is_of r x.present) ts k e).within)
  where
    by : (t : Twice LiveStream) × (t ≡ get_or ts k t) → presents (remove ts k) ≡ filter (λ s. not (is_of r s)) (presents ts)
    by (t, i) =
        gone_place k r ts t a (is_at (λ x. is_of r x.present) ts k e).within i
        (passes_at (λ x. is_of r x.present) ts t (found_at (λ x. is_of r x.present) ts k t e i))

-- none goes
pub none_gone : (r : List ℕ) (ts : List (Twice LiveStream)) → None ≡ position (λ x. is_of r x.present) ts
    → presents ts ≡ filter (λ s. not (is_of r s)) (presents ts)
none_gone r ts e = all_left r (presents ts) (each_other r (presents ts) (stream_missed r ts e))

-- ---- a line more

pub presents_told : (line : Command) (ts : List (Twice LiveStream)) → presents (map (told_line line) ts) ≡ map (with_line line) (presents ts)
presents_told line [] = refl
presents_told line (t ∷ ts) = ap (λ ys. with_line line t.present ∷ ys) (presents_told line ts)

pub markeds_told : (n : ℕ) (line : Command) (ts : List (Twice LiveStream)) → markeds (take n (map (told_line line) ts)) ≡ markeds (take n ts)
markeds_told zero line ts = refl
markeds_told (suc n) line [] = refl
markeds_told (suc n) line (t ∷ ts) = ap (λ ys. t.marked ∷ ys) (markeds_told n line ts)
