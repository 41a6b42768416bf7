-- The calls of a session are numbered from 1 without gaps.
use Rattle.std.proofs.Common.{◌≡◌, ℕ, zero, suc, ◌+◌, ◌<◌, Bool, true, false, cond, ◌==◌, List, [], ◌∷◌, ◌++◌, length, map, refl, sym, ap, ap₂, ◌∙◌, subst, append-nil, length-append, arith, inl, inr}
use Rattle.std.specs.List.{AllByRecursion as Each, range_with_len}
use Rattle.std.proofs.lemmas.Bool.{both_ways, eq-eqb, eqb-true}
use Rattle.std.proofs.lemmas.List.{map-append, length-map}
use Rattle.std.proofs.lemmas.List.Elements.{filter-append}
use Rattle.mz_rules.proofs.Each.{each_of, each_unmap}
use Rattle.mz_log.specs.Log.{Log}
use Rattle.mz_books.specs.Calls.{Call, calls, calls_of}
use Rattle.mz_books.specs.Sessions.{calls_made}
use Rattle.mz_books.specs.Legal.{Legal}
use Rattle.mz_call_laws.specs.Calls.{numbers}
use Rattle.mz_call_laws.proofs.Replied.{IsReplied, stays}
use Rattle.mz_call_laws.proofs.Goes.{NotBefore, goes}

-- the calls of the session have these numbers
abbrev pub InRange : ℕ → List Call → Type 0
InRange s cs = numbers (calls_of s cs) ≡ range_with_len 1 (length (calls_of s cs))

-- two lists whose first calls are one call, but for its time and reply
numbers_first : (s : ℕ) (c d : Call) (cs ds : List Call) → c.stored.session ≡ d.stored.session → c.stored.call ≡ d.stored.call
    → numbers (calls_of s cs) ≡ numbers (calls_of s ds)
    → numbers (calls_of s (c ∷ cs)) ≡ numbers (calls_of s (d ∷ ds))
numbers_first s c d cs ds same number rest =
    ap (λ session. numbers (cond (session == s) (c ∷ calls_of s cs) (calls_of s cs))) same
    ∙ elim (d.stored.session == s) as (λ b. numbers (cond b (c ∷ calls_of s cs) (calls_of s cs)) ≡ numbers (cond b (d ∷ calls_of s ds) (calls_of s ds))) [
      | true ↦ ap₂ (λ n l. n ∷ l) number rest
      | false ↦ rest
    ]

-- replies change no number
pub numbers_kept : (s : ℕ) (change : Call → Call) (cs : List Call) → Each (λ c. IsReplied NotBefore c (change c)) cs
    → numbers (calls_of s (map change cs)) ≡ numbers (calls_of s cs)
numbers_kept s change [] e = refl
numbers_kept s change (c ∷ cs) e =
    let kept = stays NotBefore c (change c) e.0 in
    numbers_first s (change c) c (map change cs) cs kept.session kept.number (numbers_kept s change cs e.1)

-- as many calls as numbers
numbers_long : (s : ℕ) (cs ds : List Call) → numbers (calls_of s cs) ≡ numbers (calls_of s ds)
    → length (calls_of s cs) ≡ length (calls_of s ds)
numbers_long s cs ds same =
    sym (length-map (calls_of s cs) (λ call. call.stored.call)) ∙ ap length same ∙ length-map (calls_of s ds) (λ call. call.stored.call)

-- one number more at the end
range_more : (n m : ℕ) → range_with_len m (suc n) ≡ range_with_len m n ++ (m + n) ∷ []
range_more zero m = ap (λ k. k ∷ []) (omega arith)
range_more (suc n) m = ap (λ l. m ∷ l) (range_more n (m + 1) ∙ ap (λ k. range_with_len (m + 1) n ++ k ∷ []) (omega arith))

-- one call more of the session, or of another
range_grown : (s : ℕ) (cs : List Call) (c : Call) (own : Bool) → (own ≡ true → c.stored.call ≡ length (calls_of s cs) + 1) → InRange s cs
    → numbers (calls_of s cs ++ cond own (c ∷ []) []) ≡ range_with_len 1 (length (calls_of s cs ++ cond own (c ∷ []) []))
range_grown s cs c true next is =
    let n = length (calls_of s cs) in
    let long : length (calls_of s cs ++ c ∷ []) ≡ suc n = length-append (calls_of s cs) (c ∷ []) ∙ (omega arith) in
    let last : c.stored.call ≡ 1 + n = next refl ∙ (omega arith) in
    map-append (λ call. call.stored.call) (calls_of s cs) (c ∷ [])
    ∙ ap₂ (λ l k. l ++ k ∷ []) is last ∙ sym (range_more n 1) ∙ sym (ap (range_with_len 1) long)
range_grown s cs c false next is =
    ap numbers (append-nil (calls_of s cs)) ∙ is ∙ ap (λ l. range_with_len 1 (length l)) (sym (append-nil (calls_of s cs)))

-- each call has its session's next number
pub in_range : (log : Log) → Legal log → (session : ℕ) → InRange session (calls log)
in_range [] l s = refl
in_range (entry ∷ log) l s = elim (goes entry log l) [
  | inl changed ↦
      let same = numbers_kept s changed.change (calls log) changed.each in
      subst (InRange s) (sym changed.is)
      (same ∙ in_range log l.0 s ∙ sym (ap (range_with_len 1) (numbers_long s (map changed.change (calls log)) (calls log) same)))
  | inr more ↦
      let c = more.call in
      let parts = filter-append (λ call. call.stored.session == s) (calls log) (c ∷ []) in
      let next : (c.stored.session == s) ≡ true → c.stored.call ≡ length (calls_of s (calls log)) + 1
      = λ own. more.new.next ∙ ap (λ session. length (calls_of session (calls log)) + 1) (eqb-true c.stored.session s own) in
      subst (InRange s) (sym more.is)
      (ap numbers parts ∙ range_grown s (calls log) c (c.stored.session == s) next (in_range log l.0 s)
      ∙ ap (λ l. range_with_len 1 (length l)) (sym parts))
]

-- numbers of a range
range_within : (n m : ℕ) → Each (λ k. k < m + n) (range_with_len m n)
range_within zero m = tt
range_within (suc n) m = ((omega arith), each_of _ _ (λ k h. omega arith) (range_with_len (m + 1) n) (range_within n (m + 1)))

-- what holds of the calls of a session, taken by themselves
each_own : (s : ℕ) (P : Call → Type 0) (cs : List Call) → Each P (calls_of s cs) → Each (λ c. c.stored.session ≡ s → P c) cs
each_own s P [] e = tt
each_own s P (c ∷ cs) e =
    elim (c.stored.session == s) as (λ b. (c.stored.session == s) ≡ b → Each P (cond b (c ∷ calls_of s cs) (calls_of s cs))
    → Each (λ d. d.stored.session ≡ s → P d) (c ∷ cs)) [
      | true ↦ λ _ own. ((λ _. own.0), each_own s P cs own.1)
      | false ↦ λ other rest. ((λ mine. absurd (both_ways (c.stored.session == s) other (eq-eqb c.stored.session s mine))), each_own s P cs rest)
    ] refl e

-- no call has a greater number than its session has calls
pub numbers_within : (log : Log) → Legal log → (session : ℕ)
    → Each (λ c. c.stored.session ≡ session → c.stored.call < 1 + calls_made log session) (calls log)
numbers_within log l s =
    each_own s (λ c. c.stored.call < 1 + calls_made log s) (calls log)
    (each_unmap (λ c. c.stored.call < 1 + calls_made log s) (λ k. k < 1 + calls_made log s) (λ c. c.stored.call) (λ c h. h) (calls_of s (calls log))
    (subst (Each (λ k. k < 1 + calls_made log s)) (sym (in_range log l s)) (range_within (calls_made log s) 1)))
