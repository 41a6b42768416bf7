-- Streams are told by replica and incarnation, and each incarnation that a stream or a feed names has joined.
use Rattle.std.specs.Prelude.{bytes_eq}
use Rattle.std.proofs.Common.{◌≡◌, ℕ, ◌+◌, ◌≤◌, ◌==◌, ◌&&◌, Bool, true, false, cond, List, [], ◌∷◌, ◌++◌, length, map, filter, find, Some, refl, sym, ap, ◌∙◌, subst, inl, inr, arith, length-append}
use Rattle.std.specs.List.{AllByRecursion as Each}
use Rattle.std.proofs.lemmas.Bool.{and_parts, cases_Bool, cond-false, cond-true, eqb-true}
use Rattle.std.proofs.lemmas.List.Elements.{filter-append}
use Rattle.std.proofs.lemmas.Slice.Eq.{bytes_eq-Decides}
use Rattle.mz_rules.proofs.Each.{each_map, each_of, each_one}
use Rattle.mz_log.specs.declared.stream.Stream.{Stream}
use Rattle.mz_books.specs.Feeds.{MadeFeed}
use Rattle.mz_books.specs.Streams.{is_stream}

-- how many streams a replica has
abbrev pub count : List Stream → List ℕ → ℕ
count ss replica = length (filter (λ s. bytes_eq s.replica replica) ss)

-- the stream isn't that of this incarnation
abbrev pub IsOther : List ℕ → ℕ → Stream → Type 0
IsOther replica incarnation s = s.replica ≡ replica → s.incarnation ≡ incarnation → ⊥

-- each stream is alone under its replica and incarnation
abbrev pub Alone : List Stream → Type 0
Alone [] = Unit {0}
Alone (s ∷ ss) = Each (IsOther s.replica s.incarnation) ss × Alone ss

-- what is kept of streams and feeds: each stream is alone, and has joined; and so has whoever was fed
pub record AreKnown (ss : List Stream) (fs : List MadeFeed) : Type 0 where
  pub alone : Alone ss
  pub joined : Each (λ s. s.incarnation ≤ count ss s.replica) ss
  pub fed : Each (λ f. f.incarnation ≤ count ss f.replica) fs

-- the stream has this replica and incarnation, by its test
pub own_names : (replica : List ℕ) (incarnation : ℕ) (s : Stream) → is_stream replica incarnation s ≡ true
    → (s.replica ≡ replica) × (s.incarnation ≡ incarnation)
own_names replica incarnation s e =
    let parts = and_parts (bytes_eq s.replica replica) (s.incarnation == incarnation) e in
    ((bytes_eq-Decides s.replica replica).0 parts.0, eqb-true s.incarnation incarnation parts.1)

-- a stream that is alone is found under its replica and incarnation
pub own_found : (replica : List ℕ) (incarnation : ℕ) (ss : List Stream) → Alone ss
    → Each (λ s. is_stream replica incarnation s ≡ true → find (is_stream replica incarnation) ss ≡ Some s) ss
own_found replica incarnation [] a = tt
own_found replica incarnation (first ∷ ss) a =
    let rest = own_found replica incarnation ss a.1 in (
      (λ e. cond-true _ _ _ e),
      elim (cases_Bool (is_stream replica incarnation first)) [
        | inl mine ↦
            let names = own_names replica incarnation first mine in
            each_of (IsOther first.replica first.incarnation) _
            (λ s other e. let own = own_names replica incarnation s e in absurd (other (own.0 ∙ sym names.0) (own.1 ∙ sym names.1))) ss a.0
        | inr other ↦ each_of _ _ (λ s found e. cond-false _ _ _ other ∙ found e) ss rest
      ],
    )

-- ---- streams that keep their names

-- a function keeps the replica and the incarnation of each stream
pub record KeepsNames (f : Stream → Stream) : Type 0 where
  pub replica : (s : Stream) → (f s).replica ≡ s.replica
  pub incarnation : (s : Stream) → (f s).incarnation ≡ s.incarnation

-- the test of a name stays
pub same_name : (f : Stream → Stream) → KeepsNames f → (replica : List ℕ) (incarnation : ℕ) (s : Stream)
    → is_stream replica incarnation (f s) ≡ is_stream replica incarnation s
same_name f same replica incarnation s =
    ap (λ k. bytes_eq k replica && ((f s).incarnation == incarnation)) (same.replica s)
    ∙ ap (λ k. bytes_eq s.replica replica && (k == incarnation)) (same.incarnation s)

-- two lists of one length, each with one more or both as they are
longer_alike : (b c : Bool) (x y : Stream) (xs ys : List Stream) → b ≡ c → length xs ≡ length ys
    → length (cond b (x ∷ xs) xs) ≡ length (cond c (y ∷ ys) ys)
longer_alike true true x y xs ys e h = omega (arith, h)
longer_alike false false x y xs ys e h = h
longer_alike true false x y xs ys e h = absurd (cc)
longer_alike false true x y xs ys e h = absurd (cc)

-- and so does the count of streams
count_map : (f : Stream → Stream) → KeepsNames f → (replica : List ℕ) (ss : List Stream) → count (map f ss) replica ≡ count ss replica
count_map f same replica [] = refl
count_map f same replica (s ∷ ss) =
    longer_alike (bytes_eq (f s).replica replica) (bytes_eq s.replica replica) (f s) s
    (filter (λ s. bytes_eq s.replica replica) (map f ss)) (filter (λ s. bytes_eq s.replica replica) ss)
    (ap (λ k. bytes_eq k replica) (same.replica s)) (count_map f same replica ss)

-- and each stream is alone still
alone_map : (f : Stream → Stream) → KeepsNames f → (ss : List Stream) → Alone ss → Alone (map f ss)
alone_map f same [] a = tt
alone_map f same (s ∷ ss) a = (
  each_map (IsOther s.replica s.incarnation) (IsOther (f s).replica (f s).incarnation) f
      (λ x other r i. other (sym (same.replica x) ∙ (r ∙ same.replica s)) (sym (same.incarnation x) ∙ (i ∙ same.incarnation s))) ss a.0,
  alone_map f same ss a.1,
)

-- all of it is kept
pub known_map : (f : Stream → Stream) → KeepsNames f → (ss : List Stream) (fs : List MadeFeed) → AreKnown ss fs → AreKnown (map f ss) fs
known_map f same ss fs p = record {
  alone = alone_map f same ss p.alone;
  joined = each_map (λ s. s.incarnation ≤ count ss s.replica) (λ s. s.incarnation ≤ count (map f ss) s.replica) f
      (λ s h. subst (λ n. n ≤ count (map f ss) (f s).replica) (sym (same.incarnation s))
      (subst (λ k. s.incarnation ≤ count (map f ss) k) (sym (same.replica s))
      (subst (λ n. s.incarnation ≤ n) (sym (count_map f same s.replica ss)) h))) ss p.joined;
  fed = each_of (λ f. f.incarnation ≤ count ss f.replica) (λ k. k.incarnation ≤ count (map f ss) k.replica)
      (λ k h. subst (λ n. k.incarnation ≤ n) (sym (count_map f same k.replica ss)) h) fs p.fed;
}

-- ---- a stream more

-- the next incarnation is none of those that have joined
pub not_joined : (ss : List Stream) (new : Stream) → new.incarnation ≡ count ss new.replica + 1 → (replica : List ℕ) (incarnation : ℕ)
    → incarnation ≤ count ss replica → replica ≡ new.replica → incarnation ≡ new.incarnation → ⊥
not_joined ss new next replica incarnation h r i =
    let within = subst (λ k. incarnation ≤ count ss k) r h in omega (arith, within, i, next)

-- so each is alone with it
alone_more : (new : Stream) (ss : List Stream) → Each (IsOther new.replica new.incarnation) ss → Alone ss → Alone (ss ++ (new ∷ []))
alone_more new [] other a = (tt, tt)
alone_more new (s ∷ ss) other a =
    (each_one (IsOther s.replica s.incarnation) ss new a.0 (λ r i. other.0 (sym r) (sym i)), alone_more new ss other.1 a.1)

-- there are no fewer streams then
count_more : (new : Stream) (ss : List Stream) (replica : List ℕ) → count ss replica ≤ count (ss ++ (new ∷ [])) replica
count_more new ss replica =
    let own : Stream → Bool = λ s. bytes_eq s.replica replica in
    subst (λ xs. count ss replica ≤ length xs) (sym (filter-append own ss (new ∷ [])))
    (omega (arith, length-append (filter own ss) (filter own (new ∷ []))))

-- and one more of that replica
count_new : (new : Stream) (ss : List Stream) → count (ss ++ (new ∷ [])) new.replica ≡ count ss new.replica + 1
count_new new ss =
    let own : Stream → Bool = λ s. bytes_eq s.replica new.replica in
    let one : filter own (new ∷ []) ≡ new ∷ [] = cond-true _ _ _ ((bytes_eq-Decides new.replica new.replica).1 refl) in
    ap length (filter-append own ss (new ∷ [])) ∙ (length-append (filter own ss) (filter own (new ∷ []))
    ∙ ap (λ xs. length (filter own ss) + length xs) one)

-- all of it is kept
pub known_more : (new : Stream) (ss : List Stream) (fs : List MadeFeed) → new.incarnation ≡ count ss new.replica + 1 → AreKnown ss fs
    → AreKnown (ss ++ (new ∷ [])) fs
known_more new ss fs next p =
    let all = ss ++ (new ∷ []) in
    record {
      alone = alone_more new ss (each_of (λ s. s.incarnation ≤ count ss s.replica) (IsOther new.replica new.incarnation)
          (λ s h. not_joined ss new next s.replica s.incarnation h) ss p.joined) p.alone;
      joined = each_one (λ s. s.incarnation ≤ count all s.replica) ss new
          (each_of (λ s. s.incarnation ≤ count ss s.replica) (λ s. s.incarnation ≤ count all s.replica)
          (λ s h. omega (arith, h, count_more new ss s.replica)) ss p.joined)
          (omega (arith, next, count_new new ss));
      fed = each_of (λ f. f.incarnation ≤ count ss f.replica) (λ f. f.incarnation ≤ count all f.replica)
          (λ f h. omega (arith, h, count_more new ss f.replica)) fs p.fed;
    }
