-- What sessions have of calls with one more.
use Rattle.std.proofs.Common.{◌≡◌, ℕ, ◌+◌, ◌≤◌, max, Bool, true, false, cond, ◌==◌, List, [], ◌∷◌, ◌++◌, length, find, Option, Some, None, option_map, refl, ap, ◌∙◌, subst, append-nil, length-append, arith}
use Rattle.std.proofs.lemmas.Bool.{eqb-true}
use Rattle.std.proofs.lemmas.List.Elements.{filter-append}
use Rattle.mz_books.specs.Calls.{Call, calls_of, is_waiting, seen_in}

-- the number of the call of a session that has no reply, among these
abbrev pub waiting_in : ℕ → List Call → Option ℕ
waiting_in session cs = option_map (λ call. call.stored.call) (find is_waiting (calls_of session cs))

-- the calls of a session are those that it had, and the new one if it is its own
pub own_one : (s : ℕ) (cs : List Call) (c : Call)
    → calls_of s (cs ++ c ∷ []) ≡ calls_of s cs ++ cond (c.stored.session == s) (c ∷ []) []
own_one s cs c = filter-append (λ call. call.stored.session == s) cs (c ∷ [])

-- one more, or none
one_or_none : (n : ℕ) (c : Call) (own : Bool) → n + length (cond own (c ∷ []) []) ≡ cond own (n + 1) n
one_or_none n c true = refl
one_or_none n c false = omega arith

-- a session has one call more, if the new one is its own
pub made_one : (s : ℕ) (cs : List Call) (c : Call)
    → length (calls_of s (cs ++ c ∷ [])) ≡ cond (c.stored.session == s) (length (calls_of s cs) + 1) (length (calls_of s cs))
made_one s cs c =
    ap length (own_one s cs c) ∙ length-append (calls_of s cs) (cond (c.stored.session == s) (c ∷ []) [])
    ∙ one_or_none (length (calls_of s cs)) c (c.stored.session == s)

-- there is one call more
pub long_one : (cs : List Call) (c : Call) → length (cs ++ c ∷ []) ≡ length cs + 1
long_one cs c = length-append cs (c ∷ []) ∙ (omega arith)

-- the greatest of the times, with one more
greatest_one : (first own : Bool) (t m n : ℕ)
    → cond first (max t (cond own (max n m) n)) (cond own (max n m) n) ≡ cond own (max (cond first (max t n) n) m) (cond first (max t n) n)
greatest_one true true t m n = omega arith
greatest_one true false t m n = refl
greatest_one false true t m n = refl
greatest_one false false t m n = refl

-- a session has seen its time too, if the new one is its own
pub seen_one : (s : ℕ) (cs : List Call) (c : Call)
    → seen_in s (cs ++ c ∷ []) ≡ cond (c.stored.session == s) (max (seen_in s cs) c.stored.time) (seen_in s cs)
seen_one s [] c =
    elim (c.stored.session == s) as (λ b. cond b (max c.stored.time 0) 0 ≡ cond b (max 0 c.stored.time) 0) [
      | true ↦ (omega arith)
      | false ↦ refl
    ]
seen_one s (x ∷ xs) c =
    ap (λ n. cond (x.stored.session == s) (max x.stored.time n) n) (seen_one s xs c)
    ∙ greatest_one (x.stored.session == s) (c.stored.session == s) x.stored.time c.stored.time (seen_in s xs)

-- nothing was made of nothing
pub none_mapped : {A B : Type 0} (f : A → B) (o : Option A) → option_map f o ≡ None → o ≡ None
none_mapped f None e = refl
none_mapped f (Some x) e = absurd (cc)

-- where none passes a test, the search goes on behind
pub found_past : {A : Type 0} (test : A → Bool) (xs ys : List A) → find test xs ≡ None → find test (xs ++ ys) ≡ find test ys
found_past test [] ys e = refl
found_past test (x ∷ xs) ys e =
    elim (test x) as (λ b. cond b (Some x) (find test xs) ≡ None → cond b (Some x) (find test (xs ++ ys)) ≡ find test ys) [
      | true ↦ λ some. absurd (cc)
      | false ↦ λ rest. found_past test xs ys rest
    ] e

-- what doesn't pass behind the others isn't found
pub found_still : {A : Type 0} (test : A → Bool) (xs : List A) (y : A) → test y ≡ false → find test (xs ++ y ∷ []) ≡ find test xs
found_still test [] y e = ap (λ b. cond b (Some y) None) e
found_still test (x ∷ xs) y e = ap (λ o. cond (test x) (Some x) o) (found_still test xs y e)

-- a new call that waits is the one that does, of its session; before it none did
pub waits_one : (s : ℕ) (cs : List Call) (c : Call) → is_waiting c ≡ true → waiting_in c.stored.session cs ≡ None
    → waiting_in s (cs ++ c ∷ []) ≡ cond (c.stored.session == s) (Some c.stored.call) (waiting_in s cs)
waits_one s cs c waits none =
    ap (λ l. option_map (λ call. call.stored.call) (find is_waiting l)) (own_one s cs c)
    ∙ elim (c.stored.session == s) as (λ b. (c.stored.session == s) ≡ b
    → option_map (λ call. call.stored.call) (find is_waiting (calls_of s cs ++ cond b (c ∷ []) []))
    ≡ cond b (Some c.stored.call) (waiting_in s cs)) [
      | true ↦ λ own.
          let free = none_mapped (λ call. call.stored.call) (find is_waiting (calls_of s cs))
          (subst (λ n. waiting_in n cs ≡ None) (eqb-true c.stored.session s own) none) in
          ap (option_map (λ call. call.stored.call)) (found_past is_waiting (calls_of s cs) (c ∷ []) free)
          ∙ ap (λ b. option_map (λ call. call.stored.call) (cond b (Some c) None)) waits
      | false ↦ λ _. ap (λ l. option_map (λ call. call.stored.call) (find is_waiting l)) (append-nil (calls_of s cs))
    ] refl

-- a new call with its reply changes nothing of that
pub waits_still : (s : ℕ) (cs : List Call) (c : Call) → is_waiting c ≡ false → waiting_in s (cs ++ c ∷ []) ≡ waiting_in s cs
waits_still s cs c replied =
    ap (λ l. option_map (λ call. call.stored.call) (find is_waiting l)) (own_one s cs c)
    ∙ elim (c.stored.session == s) as (λ b. option_map (λ call. call.stored.call) (find is_waiting (calls_of s cs ++ cond b (c ∷ []) []))
    ≡ waiting_in s cs) [
      | true ↦ ap (option_map (λ call. call.stored.call)) (found_still is_waiting (calls_of s cs) c replied)
      | false ↦ ap (λ l. option_map (λ call. call.stored.call) (find is_waiting l)) (append-nil (calls_of s cs))
    ]

-- a number and itself
greatest_same : (n : ℕ) → max n n ≡ n
greatest_same n = omega arith

-- a new call at the time that its session has seen changes nothing of what sessions have seen
pub seen_still : (s : ℕ) (cs : List Call) (c : Call) → c.stored.time ≡ seen_in c.stored.session cs
    → seen_in s (cs ++ c ∷ []) ≡ seen_in s cs
seen_still s cs c at =
    seen_one s cs c
    ∙ elim (c.stored.session == s) as (λ b. (c.stored.session == s) ≡ b → cond b (max (seen_in s cs) c.stored.time) (seen_in s cs) ≡ seen_in s cs) [
      | true ↦ λ own.
          ap (max (seen_in s cs)) (at ∙ ap (λ n. seen_in n cs) (eqb-true c.stored.session s own)) ∙ greatest_same (seen_in s cs)
      | false ↦ λ _. refl
    ] refl

-- a new call that is no earlier than what its session has seen is what that has seen then
pub seen_newer : (s : ℕ) (cs : List Call) (c : Call) → seen_in c.stored.session cs ≤ c.stored.time
    → seen_in s (cs ++ c ∷ []) ≡ cond (c.stored.session == s) c.stored.time (seen_in s cs)
seen_newer s cs c later =
    seen_one s cs c
    ∙ elim (c.stored.session == s) as (λ b. (c.stored.session == s) ≡ b
    → cond b (max (seen_in s cs) c.stored.time) (seen_in s cs) ≡ cond b c.stored.time (seen_in s cs)) [
      | true ↦ λ own.
          let until = subst (λ n. seen_in n cs ≤ c.stored.time) (eqb-true c.stored.session s own) later in omega arith
      | false ↦ λ _. refl
    ] refl
