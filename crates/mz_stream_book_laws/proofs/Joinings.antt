-- How often replicas have joined, counted from their streams.
use Rattle.std.specs.Prelude.{bytes_eq}
use Rattle.std.proofs.Common.{◌≡◌, ℕ, ◌+◌, Bool, true, false, true≢false, cond, List, [], ◌∷◌, ◌++◌, length, map, filter, refl, sym, ap, ◌∙◌, inl, inr, arith}
use Rattle.std.proofs.lemmas.Bool.{cases_Bool, cond-false, cond-true, false_from_ne_true}
use Rattle.std.proofs.lemmas.Slice.Eq.{bytes_eq-Decides}
use Rattle.mz_log.specs.declared.stream.Stream.{Stream}
use Rattle.mz_history.specs.StreamBook.{Joined, once_more, times_of}
use Rattle.mz_stream_book_laws.specs.StreamBookOf.{joined_too}

-- the streams of a replica, by their number
abbrev pub how_many : List ℕ → List Stream → ℕ
how_many replica ss = length (filter (λ s. bytes_eq s.replica replica) ss)

-- ---- once more

-- a number that is chosen is one more
own_more : (b : Bool) (t u : ℕ) → cond b (t + 1) u ≡ cond b t u + cond b 1 0
own_more true t u = refl
own_more false t u = omega arith

-- a choice leaves the number, or what is counted behind it is more
later_more : (b c : Bool) (t u v : ℕ) → (b ≡ true → c ≡ false) → u ≡ v + cond c 1 0 → cond b t u ≡ cond b t v + cond c 1 0
later_more true true t u v h e = absurd (true≢false (h refl))
later_more true false t u v h e = omega arith
later_more false c t u v h e = e

-- a replica that joins once more has joined once more, and any other as often as before
pub one_more : (replica name : List ℕ) (js : List Joined) → times_of replica (once_more name js)
    ≡ times_of replica js + cond (bytes_eq name replica) 1 0
one_more replica name [] = omega arith
one_more replica name (j ∷ js) = elim (cases_Bool (bytes_eq j.replica name)) [
  | inl own ↦
      let named : j.replica ≡ name = (bytes_eq-Decides j.replica name).0 own in
      ap (times_of replica) (cond-true (bytes_eq j.replica name) (record j { times = j.times + 1 } ∷ js) (j ∷ once_more name js) own)
      ∙ own_more (bytes_eq j.replica replica) j.times (times_of replica js)
      ∙ ap (λ k. times_of replica (j ∷ js) + cond (bytes_eq k replica) 1 0) named
  | inr other ↦
      ap (times_of replica) (cond-false (bytes_eq j.replica name) (record j { times = j.times + 1 } ∷ js) (j ∷ once_more name js) other)
      ∙ later_more (bytes_eq j.replica replica) (bytes_eq name replica) j.times (times_of replica (once_more name js)) (times_of replica js)
      (λ mine. false_from_ne_true (bytes_eq name replica) (λ both.
      let same : j.replica ≡ name = (bytes_eq-Decides j.replica replica).0 mine ∙ sym ((bytes_eq-Decides name replica).0 both) in
      true≢false (sym ((bytes_eq-Decides j.replica name).1 same) ∙ other)))
      (one_more replica name js)
]

-- ---- all

-- the streams of a replica add their number to how often it had joined
counted_after : (replica : List ℕ) (ss : List Stream) (js : List Joined)
    → times_of replica (joined_too ss js) ≡ times_of replica js + how_many replica ss
counted_after replica [] js = omega arith
counted_after replica (s ∷ ss) js =
    counted_after replica ss (once_more s.replica js) ∙ by (bytes_eq s.replica replica) (one_more replica s.replica js)
  where
    by : (b : Bool) → times_of replica (once_more s.replica js) ≡ times_of replica js + cond b 1 0
        → times_of replica (once_more s.replica js) + how_many replica ss
        ≡ times_of replica js + length (cond b (s ∷ filter (λ x. bytes_eq x.replica replica) ss) (filter
        (λ x. bytes_eq x.replica replica) ss))
    by true e = omega (arith, e)
    by false e = omega (arith, e)

-- a replica has joined as often as it has streams
pub counted : (replica : List ℕ) (ss : List Stream) → times_of replica (joined_too ss []) ≡ how_many replica ss
counted replica ss = omega (arith, counted_after replica ss [])

-- changed streams count as they did
pub joined_map : (f : Stream → Stream) → ((s : Stream) → (f s).replica ≡ s.replica) → (ss : List Stream) (js : List Joined)
    → joined_too (map f ss) js ≡ joined_too ss js
joined_map f same [] js = refl
joined_map f same (s ∷ ss) js = joined_map f same ss (once_more (f s).replica js) ∙ ap (λ name. joined_too ss (once_more name js)) (same s)

-- and one more counts last
pub joined_behind : (new : Stream) (ss : List Stream) (js : List Joined)
    → joined_too (ss ++ (new ∷ [])) js ≡ once_more new.replica (joined_too ss js)
joined_behind new [] js = refl
joined_behind new (s ∷ ss) js = joined_behind new ss (once_more s.replica js)
