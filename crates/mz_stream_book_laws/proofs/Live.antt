-- The live ones of streams: what is found among them, and what becomes of them as each stream changes or one more comes.
use Rattle.std.specs.Prelude.{bytes_eq}
use Rattle.std.proofs.Common.{◌≡◌, ℕ, ◌&&◌, Bool, true, false, cond, List, [], ◌∷◌, ◌++◌, map, filter, find, not, Option, Some, None, refl, sym, ap, ◌∙◌, inl, inr}
use Rattle.std.specs.List.{AllByRecursion as Each}
use Rattle.std.proofs.lemmas.Bool.{cases_Bool, cond-false, cond-true}
use Rattle.std.proofs.lemmas.List.{map-append}
use Rattle.std.proofs.lemmas.List.Elements.{filter-append}
use Rattle.mz_log.specs.declared.stream.Stream.{Stream}
use Rattle.mz_books.specs.Streams.{crashed, is_live_of, lines_in}
use Rattle.mz_history.specs.StreamBook.{LiveStream, is_of, lines_of, stream_of}
use Rattle.mz_stream_book_laws.specs.StreamBookOf.{kept_stream, kept_where, live_ones}

-- the live ones, before they are kept
abbrev pub lives : List Stream → List Stream
lives ss = filter (λ s. s.live) ss

-- one that is live comes first
pub live_more : (s : Stream) (ss : List Stream) → s.live ≡ true → live_ones (s ∷ ss) ≡ kept_stream s ∷ live_ones ss
live_more s ss e = ap (λ b. map kept_stream (cond b (s ∷ lives ss) (lives ss))) e

-- one that was lost doesn't
pub live_less : (s : Stream) (ss : List Stream) → s.live ≡ false → live_ones (s ∷ ss) ≡ live_ones ss
live_less s ss e = ap (λ b. map kept_stream (cond b (s ∷ lives ss) (lives ss))) e

-- ---- what is found

-- a choice is made before or after a stream is kept
found_first : (own : Bool) (s : Stream) (o : Option LiveStream) (p : Option Stream) → o ≡ kept_where p
    → cond own (Some (kept_stream s)) o ≡ kept_where (cond own (Some s) p)
found_first true s o p e = refl
found_first false s o p e = e

-- the first live one of a replica
pub found_live : (replica : List ℕ) (ss : List Stream) → stream_of replica (live_ones ss) ≡ kept_where (find (is_live_of replica) ss)
found_live replica [] = refl
found_live replica (s ∷ ss) = by s.live (found_live replica ss)
  where
    by : (live : Bool) → stream_of replica (live_ones ss) ≡ kept_where (find (is_live_of replica) ss)
        → stream_of replica (map kept_stream (cond live (s ∷ lives ss) (lives ss)))
        ≡ kept_where (cond (live && bytes_eq s.replica replica) (Some s) (find (is_live_of replica) ss))
    by true ih = found_first (bytes_eq s.replica replica) s (stream_of replica (live_ones ss)) (find (is_live_of replica) ss) ih
    by false ih = ih

-- it has the lines that are read of it
pub lines_where : (o : Option Stream) → lines_of (kept_where o) ≡ lines_in o
lines_where None = refl
lines_where (Some s) = refl

-- ---- as each changes

-- a change of a stream is another change of what is kept of it
pub record IsCarried (f : Stream → Stream) (g : LiveStream → LiveStream) (s : Stream) : Type 0 where
  pub live : (f s).live ≡ s.live
  pub same : s.live ≡ true → kept_stream (f s) ≡ g (kept_stream s)

-- where each is carried, all are
pub changed_live : (f : Stream → Stream) (g : LiveStream → LiveStream) (ss : List Stream) → Each (IsCarried f g) ss
    → live_ones (map f ss) ≡ map g (live_ones ss)
changed_live f g [] p = refl
changed_live f g (s ∷ ss) p = by s.live refl (changed_live f g ss p.1)
  where
    by : (b : Bool) → s.live ≡ b → live_ones (map f ss) ≡ map g (live_ones ss) → live_ones (map f (s ∷ ss)) ≡ map g (live_ones (s ∷ ss))
    by true e ih = live_more (f s) (map f ss) (p.0.live ∙ e) ∙ (λ i. p.0.same e i ∷ ih i) ∙ sym (ap (map g) (live_more s ss e))
    by false e ih = live_less (f s) (map f ss) (p.0.live ∙ e) ∙ ih ∙ sym (ap (map g) (live_less s ss e))

-- no change at all
pub unchanged : (xs : List LiveStream) → map (λ x. x) xs ≡ xs
unchanged [] = refl
unchanged (x ∷ xs) = ap (λ ys. x ∷ ys) (unchanged xs)

-- ---- as one more comes, and as one is lost

-- a live one comes behind
pub live_behind : (ss : List Stream) (new : Stream) → new.live ≡ true
    → live_ones (ss ++ (new ∷ [])) ≡ live_ones ss ++ (kept_stream new ∷ [])
live_behind ss new e =
    ap (map kept_stream) (filter-append (λ s. s.live) ss (new ∷ []))
    ∙ map-append kept_stream (lives ss) (lives (new ∷ [])) ∙ ap (λ xs. live_ones ss ++ xs) (live_more new [] e)

-- those of other replicas
abbrev pub others : List ℕ → List LiveStream → List LiveStream
others replica xs = filter (λ s. not (is_of replica s)) xs

-- one of the replica isn't among them
left_out : (replica : List ℕ) (s : Stream) (ss : List Stream) → bytes_eq s.replica replica ≡ true
    → others replica (live_ones ss) ≡ others replica (live_ones (s ∷ ss))
left_out replica s ss e = by s.live
  where
    by : (live : Bool) → others replica (live_ones ss) ≡ others replica (map kept_stream (cond live (s ∷ lives ss) (lives ss)))
    by true = sym (ap (λ b. cond (not b) (kept_stream s ∷ others replica (live_ones ss)) (others replica (live_ones ss))) e)
    by false = refl

-- one of another is, if it is live
left_in : (replica : List ℕ) (s : Stream) (ss rest : List Stream) → bytes_eq s.replica replica ≡ false
    → live_ones rest ≡ others replica (live_ones ss) → live_ones (s ∷ rest) ≡ others replica (live_ones (s ∷ ss))
left_in replica s ss rest e ih = by s.live
  where
    by : (live : Bool) → map kept_stream (cond live (s ∷ lives rest) (lives rest))
        ≡ others replica (map kept_stream (cond live (s ∷ lives ss) (lives ss)))
    by true = ap (λ xs. kept_stream s ∷ xs) ih
        ∙ sym (ap (λ b. cond (not b) (kept_stream s ∷ others replica (live_ones ss)) (others replica (live_ones ss))) e)
    by false = ih

-- the stream of a replica that is lost goes
pub live_without : (replica : List ℕ) (ss : List Stream) → live_ones (map (crashed replica) ss) ≡ others replica (live_ones ss)
live_without replica [] = refl
live_without replica (s ∷ ss) = elim (cases_Bool (bytes_eq s.replica replica)) [
  | inl mine ↦
      ap (λ x. live_ones (x ∷ map (crashed replica) ss)) (cond-true (bytes_eq s.replica replica) (record s { live = false }) s mine)
      ∙ live_without replica ss ∙ left_out replica s ss mine
  | inr other ↦
      ap (λ x. live_ones (x ∷ map (crashed replica) ss)) (cond-false (bytes_eq s.replica replica) (record s { live = false }) s other)
      ∙ left_in replica s ss (map (crashed replica) ss) other (live_without replica ss)
]
