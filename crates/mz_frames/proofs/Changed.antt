-- What sessions have of calls of which some got their reply.
use Rattle.std.proofs.Common.{◌≡◌, ℕ, max, Bool, true, false, cond, ◌==◌, ◌||◌, List, [], ◌∷◌, length, map, find, Option, Some, None, option_map, refl, sym, ap, ap₂, ◌∙◌, inl, inr}
use Rattle.std.specs.List.{AllByRecursion as Each, list_any}
use Rattle.std.proofs.lemmas.Bool.{eqb-true, or_left, or_right}
use Rattle.std.proofs.lemmas.List.{length-map}
use Rattle.mz_bag.specs.Weighted.{Weighted}
use Rattle.mz_rules.proofs.Each.{each_all, each_of}
use Rattle.mz_log.specs.declared.entry.Replied.{Replied}
use Rattle.mz_log.specs.declared.reply.Reply.{Reply}
use Rattle.mz_books.specs.Calls.{Call, calls_of, ended, finished, is_waiting, replied_in, seen_in}
use Rattle.mz_call_laws.specs.Members.{Has}
use Rattle.mz_call_laws.proofs.Replied.{ended_is, finished_is, replied_is, replied_keeps}
use Rattle.mz_frames.proofs.Appended.{waiting_in}

-- ---- what changes keep

-- each call stays in its session
abbrev pub KeepSessions : (Call → Call) → List Call → Type 0
KeepSessions change cs = Each (λ c. (change c).stored.session ≡ c.stored.session) cs

-- and keeps its time too
abbrev pub KeepTimes : (Call → Call) → List Call → Type 0
KeepTimes change cs = Each (λ c. ((change c).stored.session ≡ c.stored.session) × ((change c).stored.time ≡ c.stored.time)) cs

-- what keeps times keeps sessions
pub sessions_kept : (change : Call → Call) (cs : List Call) → KeepTimes change cs → KeepSessions change cs
sessions_kept change cs e = each_of _ _ (λ c kept. kept.0) cs e

-- an end keeps both
pub ended_keeps : (session number : ℕ) (reply_at : ℕ → Reply) (cs : List Call) → KeepTimes (ended session number reply_at) cs
ended_keeps session number reply_at cs =
    each_all _ (λ c. replied_keeps (λ d time. time ≡ d.stored.time)
    (λ d. (d.stored.session ≡ c.stored.session) × (d.stored.time ≡ c.stored.time)) c (ended session number reply_at c)
    (ended_is (λ d time. time ≡ d.stored.time) (λ d. refl) session number reply_at c) (refl, refl) (λ time told waits may. (refl, may))) cs

-- so do the rows of a peek
pub finished_keeps : (peek : ℕ) (rows : Weighted) (cs : List Call) → KeepTimes (finished peek rows) cs
finished_keeps peek rows cs =
    each_all _ (λ c. replied_keeps (λ d time. time ≡ d.stored.time)
    (λ d. (d.stored.session ≡ c.stored.session) × (d.stored.time ≡ c.stored.time)) c (finished peek rows c)
    (finished_is (λ d time. time ≡ d.stored.time) (λ d. refl) peek rows c) (refl, refl) (λ time told waits may. (refl, may))) cs

-- a round keeps sessions
pub replied_keeps_sessions : (time : ℕ) (replies : List Replied) (cs : List Call) → KeepSessions (replied_in time replies) cs
replied_keeps_sessions time replies cs =
    each_all _ (λ c. replied_keeps (λ d at. Unit {0}) (λ d. d.stored.session ≡ c.stored.session) c (replied_in time replies c)
    (replied_is (λ d at. Unit {0}) time replies c (λ _ _ _. tt)) refl (λ at told waits may. refl)) cs

-- ---- what sessions have of changed calls

-- a session has the changed ones of its own
pub own_changed : (s : ℕ) (change : Call → Call) (cs : List Call) → KeepSessions change cs
    → calls_of s (map change cs) ≡ map change (calls_of s cs)
own_changed s change [] e = refl
own_changed s change (c ∷ cs) e =
    ap (λ n. cond (n == s) (change c ∷ calls_of s (map change cs)) (calls_of s (map change cs))) e.0
    ∙ ap (λ l. cond (c.stored.session == s) (change c ∷ l) l) (own_changed s change cs e.1)
    ∙ elim (c.stored.session == s) as (λ b. cond b (change c ∷ map change (calls_of s cs)) (map change (calls_of s cs))
    ≡ map change (cond b (c ∷ calls_of s cs) (calls_of s cs))) [
      | true ↦ refl
      | false ↦ refl
    ]

-- as many as before
pub made_changed : (s : ℕ) (change : Call → Call) (cs : List Call) → KeepSessions change cs
    → length (calls_of s (map change cs)) ≡ length (calls_of s cs)
made_changed s change cs e = ap length (own_changed s change cs e) ∙ length-map (calls_of s cs) change

-- where times are kept, it has seen no other time
pub seen_changed : (s : ℕ) (change : Call → Call) (cs : List Call) → KeepTimes change cs → seen_in s (map change cs) ≡ seen_in s cs
seen_changed s change [] e = refl
seen_changed s change (c ∷ cs) e =
    λ i. cond (e.0.0 i == s) (max (e.0.1 i) (seen_changed s change cs e.1 i)) (seen_changed s change cs e.1 i)

-- where each of its calls has its reply, none waits
pub waits_ended : (s : ℕ) (change : Call → Call) (cs : List Call) → KeepSessions change cs
    → Each (λ c. c.stored.session ≡ s → is_waiting (change c) ≡ false) cs → waiting_in s (map change cs) ≡ None
waits_ended s change [] k e = refl
waits_ended s change (c ∷ cs) k e =
    let rest = calls_of s (map change cs) in
    elim ((change c).stored.session == s) as (λ b. ((change c).stored.session == s) ≡ b
    → option_map (λ call. call.stored.call) (find is_waiting (cond b (change c ∷ rest) rest)) ≡ None) [
      | true ↦ λ own.
          let mine : c.stored.session ≡ s = sym k.0 ∙ eqb-true (change c).stored.session s own in
          ap (λ b. option_map (λ call. call.stored.call) (cond b (Some (change c)) (find is_waiting rest))) (e.0 mine)
          ∙ waits_ended s change cs k.1 e.1
      | false ↦ λ _. waits_ended s change cs k.1 e.1
    ] refl

-- where none of its calls changes, it has the same
pub own_same : (s : ℕ) (change : Call → Call) (cs : List Call) → KeepSessions change cs
    → Each (λ c. c.stored.session ≡ s → change c ≡ c) cs → calls_of s (map change cs) ≡ calls_of s cs
own_same s change [] k e = refl
own_same s change (c ∷ cs) k e =
    let rest = calls_of s (map change cs) in
    ap (λ n. cond (n == s) (change c ∷ rest) rest) k.0
    ∙ elim (c.stored.session == s) as (λ b. (c.stored.session == s) ≡ b → cond b (change c ∷ rest) rest
    ≡ cond b (c ∷ calls_of s cs) (calls_of s cs)) [
      | true ↦ λ own. ap₂ (λ d l. d ∷ l) (e.0 (eqb-true c.stored.session s own)) (own_same s change cs k.1 e.1)
      | false ↦ λ _. own_same s change cs k.1 e.1
    ] refl

-- and the same of them waits
pub waits_same : (s : ℕ) (change : Call → Call) (cs : List Call) → KeepSessions change cs
    → Each (λ c. c.stored.session ≡ s → change c ≡ c) cs → waiting_in s (map change cs) ≡ waiting_in s cs
waits_same s change cs k e = ap (λ l. option_map (λ call. call.stored.call) (find is_waiting l)) (own_same s change cs k e)

-- and it has seen the same
pub seen_same : (s : ℕ) (change : Call → Call) (cs : List Call) → KeepSessions change cs
    → Each (λ c. c.stored.session ≡ s → change c ≡ c) cs → seen_in s (map change cs) ≡ seen_in s cs
seen_same s change [] k e = refl
seen_same s change (c ∷ cs) k e =
    let rest = seen_in s (map change cs) in
    ap (λ n. cond (n == s) (max (change c).stored.time rest) rest) k.0
    ∙ elim (c.stored.session == s) as (λ b. (c.stored.session == s) ≡ b → cond b (max (change c).stored.time rest) rest
    ≡ cond b (max c.stored.time (seen_in s cs)) (seen_in s cs)) [
      | true ↦ λ own. ap₂ (λ d n. max d.stored.time n) (e.0 (eqb-true c.stored.session s own)) (seen_same s change cs k.1 e.1)
      | false ↦ λ _. seen_same s change cs k.1 e.1
    ] refl

-- ---- lists and tests

-- a member that passes a test
pub any_has : {A : Type 0} (test : A → Bool) (x : A) (xs : List A) → Has x xs → test x ≡ true → list_any test xs ≡ true
any_has test x [] h e = elim h [ ]
any_has test x (y ∷ ys) (inl same) e = or_left (test y) (list_any test ys) (ap test same ∙ e)
any_has test x (y ∷ ys) (inr later) e = or_right (test y) (list_any test ys) (any_has test x ys later e)

-- one test after another, either of which leaves nothing
pub either_none : (first second : Bool) (o : Option ℕ) → cond second None (cond first None o) ≡ cond (first || second) None o
either_none true true o = refl
either_none true false o = refl
either_none false true o = refl
either_none false false o = refl
