-- Exact faults: where reading stops, something would have gone on, and nothing like what stands there would.
-- What goes on behind a reader is a function from tokens to a statement. Such a function is exact if each of its faults is, and alive
-- if it reads some tokens to the end. A reader passes if it and what goes on with it are exact and alive, whenever what goes on is.
-- So readers in a row pass if each does, and no law of where a reader's tokens end is needed.
-- That a part may be left out wants one thing more: tokens that begin no optional part, and that go on.
use Rattle.std.proofs.Common.{◌≡◌, ℕ, zero, suc, ◌≤◌, ◌<◌, Bool, true, false, not, List, [], ◌∷◌, length, Option, Some, None, Result, Ok, Err, inl, inr, ◌⊎◌, refl, sym, ap, subst, ◌∙◌, arith, if◌then◌else◌}
use denote.Enum.Bare.{true_same, same_true}
use Rattle.mz_grammar.specs.contracts.key.Key.{the_type}
use Rattle.mz_statement.specs.declared.statement.Statement.{Statement}
use Rattle.mz_parse.specs.declared.fault.Fault.{Fault}
use Rattle.mz_parse.specs.declared.fault.Fault.TheVariants.{Syntax, Range}
use Rattle.mz_grammar.specs.declared.key.Key.{Key}
use Rattle.mz_grammar.specs.declared.key.Key.TheVariants as k
use Rattle.mz_grammar.specs.declared.token.Tok.{Tok}
use Rattle.mz_grammar.specs.declared.token.Tok.TheVariants.{Key as K, Name as N, Number, Text as T}
use Rattle.mz_grammar.specs.Token.{next, same}
use Rattle.mz_grammar.specs.Faults.{IsLike}
use Rattle.mz_parse.proofs.Steps.{next_is}
use Rattle.mz_parse.specs.Reading.{◌>>=◌, Read, stuck, behind, key_at, name_at, within, more, more_from, listed, list_from}

-- what reads to the end of a statement
abbrev pub Rest : Type 0
Rest = List Tok → Result Statement Fault

-- what reads behind a token
abbrev pub past : Tok → Rest → Rest
past tok go ts = go (tok ∷ ts)

-- some tokens are read to the end
abbrev pub Alive : Rest → Type 0
Alive go = (ts : List Tok) × (s : Statement) × (go ts ≡ Ok s)

-- whether an optional part begins with the key
abbrev pub opens : Key → Bool
opens k.As = true
opens k.Dot = true
opens k.And = true
opens k.Or = true
opens k.Comma = true
opens k.Where = true
opens k.Group = true
opens k.Join = true
opens k.Union = true
opens k.Open = true
opens k.Minus = true
opens k.Not = true
opens k.Star = true
opens k.Distinct = true
opens k.Semicolon = true
opens key = false

-- no optional part begins with the tokens, if that is asked
abbrev pub IsPlain : Bool → List Tok → Type 0
IsPlain false ts = Unit {0}
IsPlain true (K key ∷ ts) = opens key ≡ false
IsPlain true ts = Unit {0}

-- some such tokens are read to the end
abbrev pub Live : Bool → Rest → Type 0
Live plain go = (ts : List Tok) × IsPlain plain ts × (s : Statement) × (go ts ≡ Ok s)

-- nothing like the first of the tokens is read on
abbrev pub IsBarred : Rest → List Tok → Type 0
IsBarred go [] = Unit {0}
IsBarred go (tok ∷ ts) = (other : Tok) → IsLike tok other → Alive (past other go) → ⊥

-- the first of the tokens is not read on, but another one like it
abbrev pub IsOver : Rest → List Tok → Type 0
IsOver go [] = ⊥
IsOver go (tok ∷ ts) = (Alive (past tok go) → ⊥) × ((other : Tok) × IsLike tok other × Alive (past other go))

-- the fault is at the first of the tokens
abbrev pub Here : Rest → Fault → List Tok → Type 0
Here go (Syntax n) ts = (n ≡ length ts) × Alive go × IsBarred go ts
Here go (Range n) ts = (n ≡ length ts) × Alive go × IsOver go ts

-- the fault is at one of the tokens
abbrev pub IsExact : Rest → Fault → List Tok → Type 0
IsExact go fault [] = Here go fault []
IsExact go fault (tok ∷ ts) = Here go fault (tok ∷ ts) ⊎ IsExact (past tok go) fault ts

-- so are all faults in fewer tokens than these
abbrev pub Exact : ℕ → Rest → Type 0
Exact most go = (ts : List Tok) (fault : Fault) → length ts < most → go ts ≡ Err fault → IsExact go fault ts

-- AS OF is read on, where the query may end there
abbrev pub EndsAsOf : Bool → ℕ → Rest → Type 0
EndsAsOf false most go = Unit {0}
EndsAsOf true most go = (timed : Rest) × Exact most timed × ((ts : List Tok) → go (K k.As ∷ K k.Of ∷ ts) ≡ timed ts)

-- what may stand behind a reader
pub record Good (may_end : Bool) (most : ℕ) (go : Rest) : Type 0 where
  pub exact : Exact most go
  pub live : Live true go
  pub ends : EndsAsOf may_end most go

-- whatever was read
abbrev pub AllGood : {A : Type 0} → Bool → ℕ → (A → Rest) → Type 0
AllGood {A = A} may_end most go = (x : A) → Good may_end most (go x)

-- exact, and alive
abbrev pub Holds : Bool → ℕ → Rest → Type 0
Holds plain most go = Exact most go × Live plain go

-- the reader, and then what goes on with what was read
abbrev pub Then : {A : Type 0} → (List Tok → Read A) → (A → Rest) → Rest
Then r go ts = r ts >>= λ x. go x.0 x.1

-- the reader's faults are exact, whatever stands behind it
pub record Passes {A : Type 0} (plain may_end : Bool) (r : List Tok → Read A) : Type 0 where
  pub on : (most : ℕ) (go : A → Rest) → AllGood may_end most go → Holds plain most (Then r go)

-- ---- single steps

-- the failure of a reading
abbrev failed : Fault → Result Statement Fault
failed fault = Err fault

-- two faults of one reading are one
fault_is : (one other : Fault) → failed one ≡ failed other → one ≡ other
fault_is one other e = cc

-- a fault is no statement
never : {R : Type 0} (fault : Fault) (s : Statement) → failed fault ≡ Ok s → R
never fault s e = absurd cc

-- a token is like itself
pub like_self : (tok : Tok) → IsLike tok tok
like_self (K key) = refl
like_self (N name) = refl
like_self (Number n) = tt
like_self (T text) = tt

-- the token is refused, and so is every token like it
abbrev pub IsRefused : Rest → Tok → Type 0
IsRefused go (Number n) = (m : ℕ) (ts : List Tok) → go (Number m ∷ ts) ≡ Err (Syntax (length (Number m ∷ ts)))
IsRefused go (T text) = (other : List ℕ) (ts : List Tok) → go (T other ∷ ts) ≡ Err (Syntax (length (T other ∷ ts)))
IsRefused go tok = (ts : List Tok) → go (tok ∷ ts) ≡ Err (Syntax (length (tok ∷ ts)))

-- a token like a refused one is refused
refused_like : (go : Rest) (tok other : Tok) → IsLike tok other → IsRefused go tok → (ts : List Tok)
    → go (other ∷ ts) ≡ Err (Syntax (length (other ∷ ts)))
refused_like go (Number n) (Number m) like fails ts = fails m ts
refused_like go (T text) (T other) like fails ts = fails other ts
refused_like go (K key) other like fails ts = subst (λ u. go (u ∷ ts) ≡ Err (Syntax (length (u ∷ ts)))) like (fails ts)
refused_like go (N name) other like fails ts = subst (λ u. go (u ∷ ts) ≡ Err (Syntax (length (u ∷ ts)))) like (fails ts)
refused_like go (Number n) (K key) like fails ts = absurd cc
refused_like go (Number n) (N name) like fails ts = absurd cc
refused_like go (Number n) (T text) like fails ts = absurd cc
refused_like go (T text) (K key) like fails ts = absurd cc
refused_like go (T text) (N name) like fails ts = absurd cc
refused_like go (T text) (Number n) like fails ts = absurd cc

-- what a token does: it is read on, refused, or out of its range, or does what it does elsewhere
pub data Step (less most : ℕ) (go : Rest) (tok : Tok) : Type 0 where
  goes : Exact less (past tok go) → Step less most go tok
  refused : IsRefused go tok → Step less most go tok
  over : ((ts : List Tok) → go (tok ∷ ts) ≡ Err (Range (length (tok ∷ ts)))) → (other : Tok) → IsLike tok other → Alive (past other go)
      → Step less most go tok
  alike : (other : Rest) → Exact most other → ((one : Tok) → IsLike tok one → past one go ≡ past one other) → Step less most go tok

-- a fault at a token that does what it does elsewhere
here_alike : (go other : Rest) (fault : Fault) (tok : Tok) (ts : List Tok) → Alive go
    → ((one : Tok) → IsLike tok one → past one go ≡ past one other) → Here other fault (tok ∷ ts) → Here go fault (tok ∷ ts)
here_alike go other (Syntax n) tok ts alive same here = (here.0, alive, λ one like on. here.2 one like (subst Alive (same one like) on))
here_alike go other (Range n) tok ts alive same here =
    let (none, (one, like, on)) = here.2 in
    (here.0, alive, (λ it. none (subst Alive (same tok (like_self tok)) it), (one, like, subst Alive (sym (same one like)) on)))

-- a fault in tokens of which the first does one of these
step_exact : (less most : ℕ) → most ≤ suc less → (go : Rest) → Alive go → (tok : Tok) → Step less most go tok
    → (ts : List Tok) (fault : Fault) → length (tok ∷ ts) < most → go (tok ∷ ts) ≡ Err fault → IsExact go fault (tok ∷ ts)
step_exact less most le go alive tok (goes exact) ts fault lt e = inr (exact ts fault (omega arith) e)
step_exact less most le go alive tok (refused fails) ts fault lt e =
    let is = fault_is (Syntax (length (tok ∷ ts))) fault (sym (refused_like go tok tok (like_self tok) fails ts) ∙ e) in
    inl (subst (λ f. Here go f (tok ∷ ts)) is
    (refl, alive, λ other like on. never _ on.1 (sym (refused_like go tok other like fails on.0) ∙ on.2)))
step_exact less most le go alive tok (over fails other like on) ts fault lt e =
    let is = fault_is (Range (length (tok ∷ ts))) fault (sym (fails ts) ∙ e) in
    inl (subst (λ f. Here go f (tok ∷ ts)) is (refl, alive, (λ it. never _ it.1 (sym (fails it.0) ∙ it.2), (other, like, on))))
step_exact less most le go alive tok (alike other exact same) ts fault lt e =
    let one = same tok (like_self tok) in
    elim (exact (tok ∷ ts) fault lt (ap (λ f. f ts) (sym one) ∙ e)) [
      | inl here ↦ inl (here_alike go other fault tok ts alive same here)
      | inr later ↦ inr (subst (λ f. IsExact f fault ts) (sym one) later)
    ]

-- exact by what each token does, and what is done without one
pub exact_by : (less most : ℕ) → most ≤ suc less → (go : Rest) → Alive go
    → ((fault : Fault) → 0 < most → go [] ≡ Err fault → Here go fault []) → ((tok : Tok) → Step less most go tok) → Exact most go
exact_by less most le go alive none steps [] fault lt e = none fault lt e
exact_by less most le go alive none steps (tok ∷ ts) fault lt e = step_exact less most le go alive tok (steps tok) ts fault lt e

-- without a token it fails
pub empty_fails : (go : Rest) → Alive go → go [] ≡ Err (Syntax 0) → (most : ℕ) (fault : Fault) → 0 < most → go [] ≡ Err fault
    → Here go fault []
empty_fails go alive fails most fault lt e = subst (λ f. Here go f []) (fault_is (Syntax 0) fault (sym fails ∙ e)) (refl, alive, tt)

-- without a token it does what is done elsewhere
empty_here : (go other : Rest) → Alive go → (fault : Fault) → Here other fault [] → Here go fault []
empty_here go other alive (Syntax n) here = (here.0, alive, tt)
empty_here go other alive (Range n) here = absurd here.2

-- without a token it fails as elsewhere
pub empty_alike : (go other : Rest) → Alive go → (most : ℕ) → Exact most other → go [] ≡ other [] → (fault : Fault) → 0 < most
    → go [] ≡ Err fault → Here go fault []
empty_alike go other alive most exact same fault lt e = empty_here go other alive fault (exact [] fault lt (sym same ∙ e))

-- what is live is alive
pub alive : (plain : Bool) (go : Rest) → Live plain go → Alive go
alive plain go live = (live.0, live.2, live.3)

-- ---- one reader behind another

-- steps in a row are one step and the others
pub regroup : {A B C : Type 0} (read : Result A Fault) (f : A → Result B Fault) (g : B → Result C Fault)
    → ((read >>= f) >>= g) ≡ (read >>= λ x. f x >>= g)
regroup (Ok x) f g = refl
regroup (Err fault) f g = refl

-- one thing that goes on goes on in the same way as another
pub regrouped : {A B : Type 0} (r : List Tok → Read A) (s : A × List Tok → Read B) (go : B → Rest)
    → Then (λ ts. r ts >>= s) go ≡ Then r (λ x ts. s (x, ts) >>= λ y. go y.0 y.1)
regrouped r s go i ts = regroup (r ts) s (λ y. go y.0 y.1) i

-- the same of the two in one
moved : {A B : Type 0} (plain : Bool) (most : ℕ) (r : List Tok → Read A) (s : A × List Tok → Read B) (go : B → Rest)
    → Holds plain most (Then r (λ x ts. s (x, ts) >>= λ y. go y.0 y.1)) → Holds plain most (Then (λ ts. r ts >>= s) go)
moved plain most r s go both = (subst (Exact most) (sym (regrouped r s go)) both.0, subst (Live plain) (sym (regrouped r s go)) both.1)

-- one reader and then another, that keeps what the first asks of AS OF
pub then_ends : {A B : Type 0} {plain inner may_end : Bool} (r : List Tok → Read A) (s : A × List Tok → Read B) → Passes plain inner r
    → ((x : A) → Passes true may_end (λ ts. s (x, ts)))
    → ((x : A) (most : ℕ) (go : B → Rest) → AllGood may_end most go → EndsAsOf inner most (Then (λ ts. s (x, ts)) go))
    → Passes plain may_end (λ ts. r ts >>= s)
then_ends {A = A} {plain = plain} {inner = inner} r s one two ends = record {
  on = λ most go good.
      let ready : (x : A) → Good inner most (λ ts. s (x, ts) >>= λ y. go y.0 y.1) = λ x.
      let after = (two x).on most go good in
      record { exact = after.0; live = after.1; ends = ends x most go good }
      in
      moved plain most r s go (one.on most (λ x ts. s (x, ts) >>= λ y. go y.0 y.1) ready);
}

-- one reader and then another
pub then_passes : {A B : Type 0} {plain may_end : Bool} (r : List Tok → Read A) (s : A × List Tok → Read B) → Passes plain false r
    → ((x : A) → Passes true may_end (λ ts. s (x, ts))) → Passes plain may_end (λ ts. r ts >>= s)
then_passes r s one two = then_ends r s one two (λ x most go good. tt)

-- what asks nothing of AS OF passes anywhere
pub passes_any : {A : Type 0} {plain may_end : Bool} {r : List Tok → Read A} → Passes plain false r → Passes plain may_end r
passes_any one = record { on = λ most go good. one.on most go (λ x. record { exact = (good x).exact; live = (good x).live; ends = tt }) }

-- what was read needs no token
pub value_passes : {A : Type 0} {may_end : Bool} (x : A) → Passes true may_end (λ ts. Ok (x, ts))
value_passes x = record { on = λ most go good. ((good x).exact, (good x).live) }

-- ---- names and keys

-- a name is read on, and any other token refused
name_step : (most : ℕ) (go : List ℕ → Rest) → ((name : List ℕ) → Exact most (go name)) → (tok : Tok) → Step most most (Then name_at go) tok
name_step most go exact (N name) = goes (exact name)
name_step most go exact (K key) = refused (λ ts. refl)
name_step most go exact (Number n) = refused (λ m ts. refl)
name_step most go exact (T text) = refused (λ other ts. refl)

-- a name, and what goes on with it
name_exact : (plain : Bool) (most : ℕ) (go : List ℕ → Rest) → ((name : List ℕ) → Exact most (go name))
    → ((name : List ℕ) → Live plain (go name)) → Holds true most (Then name_at go)
name_exact plain most go exact live =
    let (ts, begins, s, e) = live [] in
    let alive : Alive (Then name_at go) = (N [] ∷ ts, s, e) in (
      exact_by most most (omega arith) (Then name_at go) alive (empty_fails (Then name_at go) alive refl most)
          (name_step most go exact),
      (N [] ∷ ts, tt, s, e),
    )

-- a name
pub name_passes : {may_end : Bool} → Passes true may_end name_at
name_passes = record { on = λ most go good. name_exact true most go (λ name. (good name).exact) (λ name. (good name).live) }

-- a name, and then anything
pub name_then : {A : Type 0} {plain may_end : Bool} (s : List ℕ × List Tok → Read A)
    → ((name : List ℕ) → Passes plain may_end (λ ts. s (name, ts))) → Passes true may_end (λ ts. name_at ts >>= s)
name_then s two = record {
  on = λ most go good.
      moved true most name_at s go
      (name_exact _ most (λ name ts. s (name, ts) >>= λ y. go y.0 y.1) (λ name. ((two name).on most go good).0)
      (λ name. ((two name).on most go good).1));
}

-- whether the token is the key
abbrev pub is_key : Key → Tok → Bool
is_key key (K first) = same first key
is_key key tok = false

-- the key stands first
pub key_next : (key : Key) (ts : List Tok) → next key (K key ∷ ts) ≡ Some ts
key_next key ts = rw (true_same the_type key key refl) refl

-- a token that is the key
pub key_is : (key : Key) (tok : Tok) → is_key key tok ≡ true → tok ≡ K key
key_is key (K first) is = ap (λ (one : Key). K one) (same_true the_type tt first key is)
key_is key (N name) is = absurd cc
key_is key (Number n) is = absurd cc
key_is key (T text) is = absurd cc

-- what a test that failed leaves
found_none : (found : Bool) (ts : List Tok) → found ≡ false → (if found then Some ts else None) ≡ None
found_none true ts is = absurd cc
found_none false ts is = refl

-- a token that is not the key
pub next_none : (key : Key) (tok : Tok) (ts : List Tok) → is_key key tok ≡ false → next key (tok ∷ ts) ≡ None
next_none key (K first) ts is = found_none (same first key) ts is
next_none key (N name) ts is = refl
next_none key (Number n) ts is = refl
next_none key (T text) ts is = refl

-- tokens that are alike are both the key, or both not
pub key_alike : (key : Key) (tok other : Tok) → IsLike tok other → is_key key tok ≡ false → is_key key other ≡ false
key_alike key (K first) other like is = subst (λ u. is_key key u ≡ false) like is
key_alike key (N name) other like is = subst (λ u. is_key key u ≡ false) like is
key_alike key (Number n) (Number m) like is = refl
key_alike key (Number n) (K other) like is = absurd cc
key_alike key (Number n) (N other) like is = refl
key_alike key (Number n) (T other) like is = refl
key_alike key (T text) (T other) like is = refl
key_alike key (T text) (K other) like is = absurd cc
key_alike key (T text) (N other) like is = refl
key_alike key (T text) (Number other) like is = refl

-- the key, and then what goes on
abbrev pub Behind : Key → Rest → Rest
Behind key go ts = key_at key ts >>= go

-- another key is refused
other_key : (key : Key) (go : Rest) (tok : Tok) → is_key key tok ≡ false → IsRefused (Behind key go) tok
other_key key go (K first) is = λ ts. ap (λ found. behind (K first ∷ ts) found >>= go) (next_none key (K first) ts is)
other_key key go (N name) is = λ ts. refl
other_key key go (Number n) is = λ m ts. refl
other_key key go (T text) is = λ other ts. refl

-- what goes on behind the key
pub behind_key : (key : Key) (go : Rest) → past (K key) (Behind key go) ≡ go
behind_key key go i ts = behind (K key ∷ ts) (key_next key ts i) >>= go

-- the key is read on, and any other token refused
key_step : (key : Key) (most : ℕ) (go : Rest) → Exact most go → (tok : Tok) (is : Bool) → is_key key tok ≡ is
    → Step most most (Behind key go) tok
key_step key most go exact tok true is =
    goes (subst (λ u. Exact most (past u (Behind key go))) (sym (key_is key tok is)) (subst (Exact most) (sym (behind_key key go)) exact))
key_step key most go exact tok false is = refused (other_key key go tok is)

-- whether a key is one that begins an optional part
key_plain : (key : Key) (optional : Bool) → opens key ≡ optional → (ts : List Tok) → IsPlain (not optional) (K key ∷ ts)
key_plain key true is ts = tt
key_plain key false is ts = is

-- the key, and what goes on behind it
pub key_exact : (key : Key) (plain : Bool) (most : ℕ) (go : Rest) → Exact most go → Live plain go
    → Holds (not (opens key)) most (Behind key go)
key_exact key plain most go exact (ts, begins, s, e) =
    let on = (λ i. behind_key key go i ts) ∙ e in
    let alive : Alive (Behind key go) = (K key ∷ ts, s, on) in (
      exact_by most most (omega arith) (Behind key go) alive (empty_fails (Behind key go) alive refl most)
          (λ tok. key_step key most go exact tok (is_key key tok) refl),
      (K key ∷ ts, key_plain key (opens key) refl ts, s, on),
    )

-- a key, and then anything
pub key_then : {A : Type 0} {plain may_end : Bool} (key : Key) (s : List Tok → Read A) → Passes plain may_end s
    → Passes (not (opens key)) may_end (λ ts. key_at key ts >>= s)
key_then key s two = record {
  on = λ most go good.
      let after = two.on most go good in
      let is : (λ ts. (key_at key ts >>= s) >>= λ y. go y.0 y.1) ≡ Behind key (λ ts. s ts >>= λ y. go y.0 y.1) =
      λ i ts. regroup (key_at key ts) s (λ y. go y.0 y.1) i
      in
      let both = key_exact key _ most (Then s go) after.0 after.1 in
      (subst (Exact most) (sym is) both.0, subst (Live _) (sym is) both.1);
}

-- ---- what may be left out

-- where the key stands first one thing goes on, and where it doesn't another
pub record Chooses (key : Key) (go some none : Rest) : Type 0 where
  pub empty : go [] ≡ none []
  pub found : past (K key) go ≡ some
  pub other : (tok : Tok) → is_key key tok ≡ false → past tok go ≡ past tok none

-- the key is read on, and any other token as without the part
choice_step : (key : Key) (less most : ℕ) (go some none : Rest) → Chooses key go some none → Exact less some → Exact most none
    → (tok : Tok) (is : Bool) → is_key key tok ≡ is → Step less most go tok
choice_step key less most go some none chooses exact rest tok true is =
    goes (subst (λ u. Exact less (past u go)) (sym (key_is key tok is)) (subst (Exact less) (sym chooses.found) exact))
choice_step key less most go some none chooses exact rest tok false is =
    alike none rest (λ one like. chooses.other one (key_alike key tok one like is))

-- a choice is exact
pub choice_exact : (key : Key) (less most : ℕ) → most ≤ suc less → (go some none : Rest) → Chooses key go some none → Alive go
    → Exact less some → Exact most none → Exact most go
choice_exact key less most le go some none chooses alive exact rest =
    exact_by less most le go alive (empty_alike go none alive most rest chooses.empty)
    (λ tok. choice_step key less most go some none chooses exact rest tok (is_key key tok) refl)

-- a key that begins no optional part is another than one that does
differs : (one other : Key) → opens one ≡ false → opens other ≡ true → (is : Bool) → same one other ≡ is → same one other ≡ false
differs one other closed optional true is = let equal : one ≡ other = same_true the_type tt one other is in absurd cc
differs one other closed optional false is = is

-- what begins with no optional part begins with no key of one
plain_key : (key : Key) → opens key ≡ true → (tok : Tok) (ts : List Tok) → IsPlain true (tok ∷ ts) → is_key key tok ≡ false
plain_key key optional (K first) ts plain = differs first key plain optional (same first key) refl
plain_key key optional (N name) ts plain = refl
plain_key key optional (Number n) ts plain = refl
plain_key key optional (T text) ts plain = refl

-- without the key the choice is the part left out
choice_same : (key : Key) → opens key ≡ true → (go some none : Rest) → Chooses key go some none → (ts : List Tok) → IsPlain true ts
    → go ts ≡ none ts
choice_same key optional go some none chooses [] plain = chooses.empty
choice_same key optional go some none chooses (tok ∷ ts) plain = ap (λ f. f ts) (chooses.other tok (plain_key key optional tok ts plain))

-- a choice is alive
pub choice_live : (key : Key) → opens key ≡ true → (go some none : Rest) → Chooses key go some none → Live true none → Live true go
choice_live key optional go some none chooses (ts, plain, s, e) = (ts, plain, s, choice_same key optional go some none chooses ts plain ∙ e)

-- a choice is exact, and alive
pub choice_passes : (key : Key) → opens key ≡ true → (most : ℕ) (go some none : Rest) → Chooses key go some none → Exact most some
    → Exact most none → Live true none → Holds true most go
choice_passes key optional most go some none chooses exact rest live =
    let here = choice_live key optional go some none chooses live in
    (choice_exact key most most (omega arith) go some none chooses (alive true go here) exact rest, here)

-- a choice by the key that stands first
pub optional_chooses : {A : Type 0} (key : Key) (f : List Tok → Option (List Tok) → Read A) (a : List Tok → Read A)
    → ((ts : List Tok) → f (K key ∷ ts) (Some ts) ≡ a ts) → (go : A → Rest)
    → Chooses key (Then (λ ts. f ts (next key ts)) go) (Then a go) (Then (λ ts. f ts None) go)
optional_chooses key f a is go = record {
  empty = refl;
  found = λ i ts. (ap (f (K key ∷ ts)) (key_next key ts) ∙ is ts) i >>= λ x. go x.0 x.1;
  other = λ tok differs i ts. f (tok ∷ ts) (next_none key tok ts differs i) >>= λ x. go x.0 x.1;
}

-- a part behind its key, and else another
pub optional_passes : {A : Type 0} {plain may_end : Bool} (key : Key) → opens key ≡ true
    → (f : List Tok → Option (List Tok) → Read A) (a : List Tok → Read A) → ((ts : List Tok) → f (K key ∷ ts) (Some ts) ≡ a ts)
    → Passes plain may_end a → Passes true may_end (λ ts. f ts None) → Passes true may_end (λ ts. f ts (next key ts))
optional_passes key optional f a is one two = record {
  on = λ most go good.
      let rest = two.on most go good in
      choice_passes key optional most (Then (λ ts. f ts (next key ts)) go) (Then a go) (Then (λ ts. f ts None) go)
      (optional_chooses key f a is go) (one.on most go good).0 rest.0 rest.1;
}

-- the key is refused, and any other token read as without it
barred_step : (key : Key) (most : ℕ) (go none : Rest) → Chooses key go (λ ts. Err (Syntax (length (K key ∷ ts)))) none → Exact most none
    → (tok : Tok) (is : Bool) → is_key key tok ≡ is → Step most most go tok
barred_step key most go none chooses rest tok true is =
    subst (Step most most go) (sym (key_is key tok is)) (refused (λ ts. ap (λ f. f ts) chooses.found))
barred_step key most go none chooses rest tok false is = alike none rest (λ one like. chooses.other one (key_alike key tok one like is))

-- a key that may not stand there, and else a part
pub barred_passes : {A : Type 0} {may_end : Bool} (key : Key) → opens key ≡ true → (f : List Tok → Option (List Tok) → Read A)
    → ((ts : List Tok) → f (K key ∷ ts) (Some ts) ≡ stuck (K key ∷ ts))
    → Passes true may_end (λ ts. f ts None) → Passes true may_end (λ ts. f ts (next key ts))
barred_passes key optional f is two = record {
  on = λ most go good.
      let rest = two.on most go good in
      let all = Then (λ ts. f ts (next key ts)) go in
      let none = Then (λ ts. f ts None) go in
      let chooses = optional_chooses key f (λ ts. stuck (K key ∷ ts)) is go in
      let here = choice_live key optional all _ none chooses rest.1 in (
        exact_by most most (omega arith) all (alive true all here) (empty_alike all none (alive true all here) most rest.0 chooses.empty)
            (λ tok. barred_step key most all none chooses rest.0 tok (is_key key tok) refl),
        here,
      );
}

-- ---- readers of one token

-- what each token does, where anything good goes on
abbrev pub TokenSteps : {A : Type 0} → (List Tok → Read A) → Type 0
TokenSteps {A = A} r = (most : ℕ) (go : A → Rest) → AllGood false most go → (tok : Tok) → Step most most (Then r go) tok

-- exact by what each token does
pub token_passes : {A : Type 0} (r : List Tok → Read A) → r [] ≡ stuck []
    → ((most : ℕ) (go : A → Rest) → AllGood false most go → Live true (Then r go))
    → TokenSteps r → Passes true false r
token_passes r empty live steps = record {
  on = λ most go good.
      let here = live most go good in
      let lives = alive true (Then r go) here in (
        exact_by most most (omega arith) (Then r go) lives (empty_fails (Then r go) lives (λ i. empty i >>= λ x. go x.0 x.1) most)
            (steps most go good),
        here,
      );
}

-- a number or a text that has limits
pub within_step : {A : Type 0} (most : ℕ) (r : List Tok → Read A) (go : A → Rest) (tok other : Tok) (fits : Bool) (x : A)
    → ((ts : List Tok) → r (tok ∷ ts) ≡ within fits (tok ∷ ts) x ts)
    → IsLike tok other → Alive (past other (Then r go)) → Exact most (go x) → Step most most (Then r go) tok
within_step most r go tok other true x is like on exact =
    let same : past tok (Then r go) ≡ go x = λ i ts. is ts i >>= λ y. go y.0 y.1 in
    goes (subst (Exact most) (sym same) exact)
within_step most r go tok other false x is like on exact = over (λ ts i. is ts i >>= λ y. go y.0 y.1) other like on

-- what holds of a token, of all numbers and of all texts holds of what is like the token
pub like_cases : (P : Tok → Type 0) (tok other : Tok) → IsLike tok other → P tok → ((n : ℕ) → P (Number n)) → ((text : List ℕ) → P (T text))
    → P other
like_cases P (K key) other like here numbers texts = subst P like here
like_cases P (N name) other like here numbers texts = subst P like here
like_cases P (Number n) (Number m) like here numbers texts = numbers m
like_cases P (Number n) (K key) like here numbers texts = absurd cc
like_cases P (Number n) (N name) like here numbers texts = absurd cc
like_cases P (Number n) (T text) like here numbers texts = absurd cc
like_cases P (T text) (T other) like here numbers texts = texts other
like_cases P (T text) (K key) like here numbers texts = absurd cc
like_cases P (T text) (N name) like here numbers texts = absurd cc
like_cases P (T text) (Number n) like here numbers texts = absurd cc

-- ---- lists

-- what is read has no more tokens behind it than before it
abbrev pub Shortens : {A : Type 0} → (List Tok → Read A) → Type 0
Shortens {A = A} r = (ts : List Tok) (x : A) (us : List Tok) → r ts ≡ Ok (x, us) → length us ≤ length ts

-- others, as many as there are
abbrev pub others_at : {A : Type 0} → Key → (List Tok → Read A) → List Tok → Read (List A)
others_at key r ts = more (length ts) key r ts

-- one of the others, and then those behind it
abbrev pub one_more : {A : Type 0} → (List Tok → Read A) → (List Tok → Read (List A)) → List Tok → Read (List A)
one_more r others us = r us >>= λ x. others x.1 >>= λ xs. Ok (x.0 ∷ xs.0, xs.1)

-- one more is read alike, if those behind it are
same_one : {A : Type 0} (r : List Tok → Read A) (one other : List Tok → Read (List A)) (us : List Tok) (read : Read A) → r us ≡ read
    → ((x : A) (vs : List Tok) → r us ≡ Ok (x, vs) → one vs ≡ other vs) → one_more r one us ≡ one_more r other us
same_one r one other us (Ok x) is equal = ap (λ y. y >>= λ x. one x.1 >>= λ xs. Ok (x.0 ∷ xs.0, xs.1)) is
    ∙ ap (λ y. y >>= λ xs. Ok (x.0 ∷ xs.0, xs.1)) (equal x.0 x.1 is) ∙ sym
    (ap (λ y. y >>= λ x. other x.1 >>= λ xs. Ok (x.0 ∷ xs.0, xs.1)) is)
same_one r one other us (Err fault) is equal =
    ap (λ y. y >>= λ x. one x.1 >>= λ xs. Ok (x.0 ∷ xs.0, xs.1)) is ∙ sym
    (ap (λ y. y >>= λ x. other x.1 >>= λ xs. Ok (x.0 ∷ xs.0, xs.1)) is)

-- others are read alike, if those behind the next one are
same_from : {A : Type 0} (key : Key) (r : List Tok → Read A) → Shortens r → (n m : ℕ)
    → ((vs : List Tok) → length vs ≤ n → length vs ≤ m → more n key r vs ≡ more m key r vs) → (ts : List Tok) (found : Option (List Tok))
    → next key ts ≡ found
    → length ts ≤ suc n → length ts ≤ suc m → more_from r (more n key r) ts found ≡ more_from r (more m key r) ts found
same_from key r short n m later ts None is one other = refl
same_from key r short n m later ts (Some us) is one other =
    let long = ap length (next_is key ts us is) in
    same_one r (more n key r) (more m key r) us (r us) refl (λ x vs e. let le = short us x vs e in later vs (omega arith) (omega arith))

-- as many as there are tokens are enough
more_enough : {A : Type 0} (key : Key) (r : List Tok → Read A) → Shortens r → (n m : ℕ) (ts : List Tok) → length ts ≤ n → length ts ≤ m
    → more n key r ts ≡ more m key r ts
more_enough key r short zero zero ts one other = refl
more_enough key r short zero (suc m) [] one other = refl
more_enough key r short zero (suc m) (tok ∷ ts) one other = absurd (omega arith)
more_enough key r short (suc n) zero [] one other = refl
more_enough key r short (suc n) zero (tok ∷ ts) one other = absurd (omega arith)
more_enough key r short (suc n) (suc m) ts one other =
    same_from key r short n m (more_enough key r short n m) ts (next key ts) refl one other

-- so many are enough behind the key
enough_behind : {A : Type 0} (key : Key) (r : List Tok → Read A) → Shortens r → (us : List Tok)
    → one_more r (more (length us) key r) us ≡ one_more r (others_at key r) us
enough_behind key r short us =
    same_one r (more (length us) key r) (others_at key r) us (r us) refl
    (λ x vs e. more_enough key r short (length us) (length vs) vs (short us x vs e) (omega arith))

-- at the key one more is read, and else there are no others
others_choose : {A : Type 0} (key : Key) (r : List Tok → Read A) → Shortens r → (go : List A → Rest)
    → Chooses key (Then (others_at key r) go) (Then (one_more r (others_at key r)) go) (go [])
others_choose key r short go = record {
  empty = refl;
  found = λ i ts. (ap (more_from r (more (length ts) key r) (K key ∷ ts)) (key_next key ts) ∙ enough_behind key r short ts) i
      >>= λ x. go x.0 x.1;
  other = λ tok differs i ts. more_from r (more (length ts) key r) (tok ∷ ts) (next_none key tok ts differs i) >>= λ x. go x.0 x.1;
}

-- AS OF is no other, where the query may end there
abbrev pub StopsAsOf : Bool → Key → Type 0
StopsAsOf false key = Unit {0}
StopsAsOf true key = same k.As key ≡ false

-- AS OF ends the others
others_end : {A : Type 0} (may_end : Bool) (key : Key) (r : List Tok → Read A) → StopsAsOf may_end key → (most : ℕ) (go : List A → Rest)
    → EndsAsOf may_end most (go []) → EndsAsOf may_end most (Then (others_at key r) go)
others_end false key r stops most go ends = tt
others_end true key r stops most go (timed, exact, is) = (
  timed,
  exact,
  λ ts. ap (λ found. more_from r (more (length (K k.Of ∷ ts)) key r) (K k.As ∷ K k.Of ∷ ts) found >>= λ x. go x.0 x.1)
      (next_none key (K k.As) (K k.Of ∷ ts) stops) ∙ is ts,
)

-- what is good for more tokens is good for fewer
fewer : (most : ℕ) (go : Rest) → Exact (suc most) go → Exact most go
fewer most go exact ts fault lt e = exact ts fault (omega arith) e

-- the same of AS OF
fewer_ends : (may_end : Bool) (most : ℕ) (go : Rest) → EndsAsOf may_end (suc most) go → EndsAsOf may_end most go
fewer_ends false most go ends = tt
fewer_ends true most go (timed, exact, is) = (timed, fewer most timed exact, is)

-- the same of all that is asked
fewer_good : (may_end : Bool) (most : ℕ) (go : Rest) → Good may_end (suc most) go → Good may_end most go
fewer_good may_end most go good = record { exact = fewer most go good.exact; live = good.live; ends = fewer_ends may_end most go good.ends }

-- what a list asks of its members
pub record Lists {A : Type 0} (plain may_end : Bool) (key : Key) (r : List Tok → Read A) : Type 0 where
  pub optional : opens key ≡ true
  pub stops : StopsAsOf may_end key
  pub short : Shortens r
  pub passes : Passes plain may_end r

-- the others are alive, as there may be none
others_live : {A : Type 0} {plain may_end : Bool} {key : Key} {r : List Tok → Read A} → Lists plain may_end key r
    → (most : ℕ) (go : List A → Rest) → AllGood may_end most go → Live true (Then (others_at key r) go)
others_live {key = key} {r = r} lists most go good =
    choice_live key lists.optional (Then (others_at key r) go) (Then (one_more r (others_at key r)) go) (go [])
    (others_choose key r lists.short go) (good []).live

-- one member, if the others pass
one_passes : {A : Type 0} {plain may_end : Bool} {key : Key} {r : List Tok → Read A} → Lists plain may_end key r
    → (most : ℕ) (go : List A → Rest) → AllGood may_end most go
    → ((x : A) → Exact most (Then (others_at key r) (λ xs. go (x ∷ xs)))) → Holds plain most (Then (one_more r (others_at key r)) go)
one_passes {A = A} {plain = plain} {may_end = may_end} {key = key} {r = r} lists most go good exact =
    let add : A × List Tok → Read (List A) = λ x. others_at key r x.1 >>= λ xs. Ok (x.0 ∷ xs.0, xs.1) in
    let on : A → Rest = λ x ts. add (x, ts) >>= λ y. go y.0 y.1 in
    let is : (x : A) → Then (others_at key r) (λ xs. go (x ∷ xs)) ≡ on x = λ x. sym
    (regrouped (others_at key r) (λ xs. Ok (x ∷ xs.0, xs.1)) go) in
    let ready : (x : A) → Good may_end most (on x) = λ x. subst (Good may_end most) (is x) (record {
      exact = exact x;
      live = others_live lists most (λ xs. go (x ∷ xs)) (λ xs. good (x ∷ xs));
      ends = others_end may_end key r lists.stops most (λ xs. go (x ∷ xs)) (good (x ∷ [])).ends;
    }) in
    moved plain most r add go (lists.passes.on most on ready)

-- the others are exact, by the number of tokens
others_exact : {A : Type 0} {plain may_end : Bool} {key : Key} {r : List Tok → Read A} → Lists plain may_end key r
    → (most : ℕ) (go : List A → Rest) → AllGood may_end most go → Exact most (Then (others_at key r) go)
others_exact lists zero go good = λ ts fault lt e. absurd (omega arith)
others_exact {key = key} {r = r} lists (suc most) go good =
    choice_exact key most (suc most) (omega arith) (Then (others_at key r) go) (Then (one_more r (others_at key r)) go) (go [])
    (others_choose key r lists.short go) (alive true _ (others_live lists (suc most) go good))
    (one_passes lists most go (λ xs. fewer_good _ most (go xs) (good xs))
    (λ x. others_exact lists most (λ xs. go (x ∷ xs)) (λ xs. fewer_good _ most (go (x ∷ xs)) (good (x ∷ xs))))).0 (good []).exact

-- one or more with the key between
pub listed_passes : {A : Type 0} {plain may_end : Bool} {key : Key} {r : List Tok → Read A} → Lists plain may_end key r
    → Passes plain may_end (listed key r)
listed_passes lists =
    record { on = λ most go good. one_passes lists most go good (λ x. others_exact lists most (λ xs. go (x ∷ xs)) (λ xs. good (x ∷ xs))) }

-- none, or some with the key before each
pub list_passes : {A : Type 0} {plain may_end : Bool} {key : Key} {r : List Tok → Read A} → Lists plain may_end key r
    → Passes true may_end (λ ts. list_from (listed key r) ts (next key ts))
list_passes {key = key} {r = r} lists =
    optional_passes key lists.optional (list_from (listed key r)) (listed key r) (λ ts. refl) (listed_passes lists) (value_passes [])
