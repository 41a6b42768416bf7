-- What holds of a history stays, whatever becomes of it.
use Rattle.std.proofs.Common.{◌≡◌, ◌≢◌, ℕ, ◌≤◌, Bool, true, false, cond, None, List, [], ◌∷◌, ◌++◌, length, map, filter, take, refl, sym, ap, subst, ◌∙◌, arith}
use Rattle.std.proofs.lemmas.List.{length-append, length-map}
use Rattle.std.specs.List.{AllByRecursion as Each}
use Rattle.mz_plan.specs.declared.command.Command.{Command}
use Rattle.mz_marked.specs.Twice.{Twice}
use Rattle.mz_history.specs.StreamBook.{Joined, LiveStream, changed_of, is_of, stream_of, trimmed_to, with_line}
use Rattle.mz_history.specs.Kept.{markeds, marked_now, presents, taken_back, told_line, AreApart, AreMarked}
use Rattle.mz_history.proofs.Lists.{markeds_now, markeds_push, presents_back, presents_now, presents_push}
use Rattle.mz_history.proofs.Live.{each_other, markeds_told, presents_told}

-- ---- no two of one replica

each_kept : (n : List ℕ) (f : LiveStream → LiveStream) → ((s : LiveStream) → (f s).replica ≡ s.replica) → (ss : List LiveStream)
    → Each (λ s. s.replica ≢ n) ss → Each (λ s. s.replica ≢ n) (map f ss)
each_kept n f same [] p = tt
each_kept n f same (s ∷ ss) p = ((λ e. p.0 (sym (same s) ∙ e)), each_kept n f same ss p.1)

apart_map : (f : LiveStream → LiveStream) → ((s : LiveStream) → (f s).replica ≡ s.replica) → (ss : List LiveStream) → AreApart ss → AreApart (map f ss)
apart_map f same [] p = tt
apart_map f same (s ∷ ss) p =
    (subst (λ n. Each (λ x. x.replica ≢ n) (map f ss)) (sym (same s)) (each_kept s.replica f same ss p.0), apart_map f same ss p.1)

same_changed : (r : List ℕ) (f : LiveStream → LiveStream) → ((s : LiveStream) → (f s).replica ≡ s.replica) → (s : LiveStream)
    → (changed_of r f s).replica ≡ s.replica
same_changed r f same s = by (is_of r s)
  where
    by : (b : Bool) → (cond b (f s) s).replica ≡ s.replica
    by true = same s
    by false = refl

each_left : (n : List ℕ) (p : LiveStream → Bool) (ss : List LiveStream) → Each (λ s. s.replica ≢ n) ss → Each (λ s. s.replica ≢ n) (filter p ss)
each_left n p [] h = tt
each_left n p (s ∷ ss) h = by (p s) (each_left n p ss h.1)
  where
    by : (b : Bool) → Each (λ x. x.replica ≢ n) (filter p ss) → Each (λ x. x.replica ≢ n) (cond b (s ∷ filter p ss) (filter p ss))
    by true rest = (h.0, rest)
    by false rest = rest

apart_left : (p : LiveStream → Bool) (ss : List LiveStream) → AreApart ss → AreApart (filter p ss)
apart_left p [] h = tt
apart_left p (s ∷ ss) h = by (p s) (apart_left p ss h.1)
  where
    by : (b : Bool) → AreApart (filter p ss) → AreApart (cond b (s ∷ filter p ss) (filter p ss))
    by true rest = (each_left s.replica p ss h.0, rest)
    by false rest = rest

each_push : (n : List ℕ) (ss : List LiveStream) (s : LiveStream) → Each (λ x. x.replica ≢ n) ss → s.replica ≢ n → Each (λ x. x.replica ≢ n) (ss ++ s ∷ [])
each_push n [] s p h = (h, tt)
each_push n (x ∷ ss) s p h = (p.0, each_push n ss s p.1 h)

apart_push : (ss : List LiveStream) (s : LiveStream) → AreApart ss → Each (λ x. x.replica ≢ s.replica) ss → AreApart (ss ++ s ∷ [])
apart_push [] s p h = (tt, tt)
apart_push (x ∷ ss) s p h = (each_push x.replica ss s p.0 (λ e. h.0 (sym e)), apart_push ss s p.1 h.1)

-- ---- what each call leaves

-- each is told a line
pub kept_told : (line : Command) (ts : List (Twice LiveStream)) (js : List (Twice Joined)) (m n : ℕ) → AreMarked ts js m n
    → AreMarked (map (told_line line) ts) js m n
kept_told line ts js m n a = record {
  within = omega (arith, a.within, length-map ts (told_line line));
  joined_within = a.joined_within;
  apart = subst AreApart (sym (presents_told line ts)) (apart_map (with_line line) (λ s. refl) (presents ts) a.apart);
  apart_then = subst AreApart (sym (markeds_told m line ts)) a.apart_then;
}

-- some are left, and no mark
pub kept_left : (p : LiveStream → Bool) (ts us : List (Twice LiveStream)) (js : List (Twice Joined)) (m n : ℕ) → AreMarked ts js m n
    → presents us ≡ filter p (presents ts) → AreMarked us js 0 0
kept_left p ts us js m n a e = record {
  within = omega arith;
  joined_within = omega arith;
  apart = subst AreApart (sym e) (apart_left p (presents ts) a.apart);
  apart_then = tt;
}

-- one begins, whose replica has none
pub kept_joined : (ts : List (Twice LiveStream)) (js ks : List (Twice Joined)) (m n : ℕ) (t : Twice LiveStream) → AreMarked ts js m n
    → stream_of t.present.replica (presents ts) ≡ None → length js ≤ length ks → AreMarked (ts ++ t ∷ []) ks m n
kept_joined ts js ks m n t a none longer = record {
  within = omega (arith, a.within, length-append ts (t ∷ []));
  joined_within = omega (arith, a.joined_within, longer);
  apart = subst AreApart (sym (presents_push ts t)) (apart_push (presents ts) t.present a.apart (each_other t.present.replica (presents ts) none));
  apart_then = subst AreApart (sym (markeds_push m ts t a.within)) a.apart_then;
}

-- all is marked as it is
pub kept_marked_as : (ts us : List (Twice LiveStream)) (js ks : List (Twice Joined)) (m n p q : ℕ) → AreMarked ts js m n → us ≡ map marked_now ts
    → ks ≡ map marked_now js → p ≡ length ts → q ≡ length js → AreMarked us ks p q
kept_marked_as ts us js ks m n p q a e f g h = record {
  within = omega (arith, g, ap length e, length-map ts (marked_now {A = LiveStream}));
  joined_within = omega (arith, h, ap length f, length-map js (marked_now {A = Joined}));
  apart = subst AreApart (sym (ap presents e ∙ presents_now ts)) a.apart;
  apart_then = subst AreApart (sym (ap (λ xs. markeds (take p xs)) e ∙ markeds_now p ts g)) a.apart;
}

-- one is told a line
pub kept_one_told : (r : List ℕ) (line : Command) (ts us : List (Twice LiveStream)) (js : List (Twice Joined)) (m n : ℕ) → AreMarked ts js m n
    → length us ≡ length ts → presents us ≡ map (changed_of r (with_line line)) (presents ts) → ((k : ℕ) → markeds (take k us) ≡ markeds (take k ts))
    → AreMarked us js m n
kept_one_told r line ts us js m n a l p q = record {
  within = omega (arith, a.within, l);
  joined_within = a.joined_within;
  apart = subst AreApart (sym p) (apart_map (changed_of r (with_line line)) (same_changed r (with_line line) (λ s. refl)) (presents ts) a.apart);
  apart_then = subst AreApart (sym (q m)) a.apart_then;
}

-- of one so many lines aren't asked for again, and no mark is left
pub kept_one_trimmed : (r : List ℕ) (taken : ℕ) (ts us : List (Twice LiveStream)) (js : List (Twice Joined)) (m n : ℕ) → AreMarked ts js m n
    → presents us ≡ map (changed_of r (trimmed_to taken)) (presents ts) → AreMarked us js 0 0
kept_one_trimmed r taken ts us js m n a p = record {
  within = omega arith;
  joined_within = omega arith;
  apart = subst AreApart (sym p) (apart_map (changed_of r (trimmed_to taken)) (same_changed r (trimmed_to taken) (λ s. refl)) (presents ts) a.apart);
  apart_then = tt;
}

-- all is taken back, and no mark is left
pub kept_back_as : (ts us vs : List (Twice LiveStream)) (js ks : List (Twice Joined)) (m n : ℕ) → AreMarked ts js m n → us ≡ take m ts → vs ≡ map taken_back us
    → AreMarked vs ks 0 0
kept_back_as ts us vs js ks m n a e f = record {
  within = omega arith;
  joined_within = omega arith;
  apart = subst AreApart (sym (ap presents f ∙ presents_back us ∙ ap markeds e)) a.apart_then;
  apart_then = tt;
}
