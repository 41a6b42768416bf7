-- In each stream of a legal log peeks are asked for in the order in which they were made.
use Rattle.std.proofs.Common.{◌≡◌, ℕ, ◌+◌, ◌<◌, ◌≤◌, ◌&&◌, Bool, true, false, cond, List, [], ◌∷◌, ◌++◌, drop, length, filter, map, reverse, nat_lt, not, refl, sym, ap, subst, arith}
use Rattle.std.specs.List.{AllByRecursion as Each}
use Rattle.std.proofs.lemmas.Bool.{cond_both}
use Rattle.mz_time.specs.declared.frontier.Frontier.{Frontier}
use Rattle.mz_time.specs.declared.frontier.Frontier.TheVariants.{At, Done}
use Rattle.mz_plan.specs.declared.command.Command.{Command}
use Rattle.mz_plan.specs.declared.command.Command.TheVariants.{Create, Allow, Peek, Retire}
use Rattle.mz_plan.specs.declared.command.PendingPeek.{PendingPeek}
use Rattle.mz_rules.specs.Frontiers.{is_le}
use Rattle.mz_rules.specs.Joining.{allowances, allowances_of, ask, creation, is_made_in, is_read_in, joined, joined_before, joining, numbers}
use Rattle.mz_rules.specs.Since.{since_of}
use Rattle.mz_rules.specs.Streams.{asked, created, is_retired, told}
use Rattle.mz_rules.specs.declared.capability.Collection.{Collection}
use Rattle.mz_rules.specs.declared.capability.Settled.{Settled}
use Rattle.mz_rules.proofs.Each.{each_append, each_filter, each_of}
use Rattle.mz_books.specs.Feeds.{answers_in}
use Rattle.mz_books.specs.Streams.{asking_lines, ending_lines, is_kept_in, item_numbers, new_lines}
use Rattle.mz_call_laws.specs.Members.{Pairwise}
use Rattle.mz_call_laws.specs.Waiting.{IsMadeBefore, IsMadeWithin}
use Rattle.mz_call_laws.proofs.Lists.{each_has, pairwise_append}

-- ---- lists of lines

-- numbers that rise
abbrev pub Rise : List ℕ → Type 0
Rise ns = Pairwise (λ n m. n < m) ns

-- the lines ask for peeks in order, each of them after the first so many and among those that were made
pub record AreInOrder (from made : ℕ) (lines : List Command) : Type 0 where
  pub rise : Rise (asked lines)
  pub within : Each (λ n. (from < n) × (n ≤ made)) (asked lines)

-- what two lists of lines ask for
asked_append : (xs ys : List Command) → asked (xs ++ ys) ≡ asked xs ++ asked ys
asked_append [] ys = refl
asked_append (Peek peek collection t ∷ xs) ys = ap (λ rest. peek ∷ rest) (asked_append xs ys)
asked_append (line ∷ xs) ys = asked_append xs ys

-- more of them may have been made
pub order_later : (from made now : ℕ) → made ≤ now → (lines : List Command) → AreInOrder from made lines → AreInOrder from now lines
order_later from made now h lines p = record {
  rise = p.rise;
  within = each_of (λ n. (from < n) × (n ≤ made)) (λ n. (from < n) × (n ≤ now)) (λ n q. (q.0, omega (arith, h, q.1))) (asked lines) p.within;
}

-- two lists in a row, where the second asks for later ones
pub order_append : (from made now : ℕ) → from ≤ made → made ≤ now → (lines more : List Command) → AreInOrder from made lines
    → AreInOrder made now more → AreInOrder from now (lines ++ more)
order_append from made now low high lines more p q =
    let both = asked_append lines more in record {
      rise = subst Rise (sym both) (pairwise_append (λ n m. n < m) (asked lines) (asked more) p.rise q.rise
          (λ n here. let own = each_has (λ n. (from < n) × (n ≤ made)) n (asked lines) p.within here in
          each_of (λ m. (made < m) × (m ≤ now)) (λ m. n < m) (λ m k. omega (arith, own.1, k.0)) (asked more) q.within));
      within = subst (Each (λ n. (from < n) × (n ≤ now))) (sym both) (each_append (λ n. (from < n) × (n ≤ now)) (asked lines) (asked more)
          (order_later from made now high lines p).within
          (each_of (λ m. (made < m) × (m ≤ now)) (λ m. (from < m) × (m ≤ now)) (λ m k. (omega (arith, low, k.0), k.1)) (asked more) q.within));
    }

-- lines that ask for nothing
pub order_none : (from made : ℕ) (lines : List Command) → asked lines ≡ [] → AreInOrder from made lines
order_none from made lines none = record {
  rise = subst Rise (sym none) tt;
  within = subst (Each (λ n. (from < n) × (n ≤ made))) (sym none) tt;
}

-- ---- what the lines of each kind ask for

-- new collections
creations_ask : (names : List (ℕ × ℕ)) (cs : List Collection) → asked (map (λ c. creation names c c.as_of) cs) ≡ []
creations_ask names [] = refl
creations_ask names (c ∷ cs) = creations_ask names cs

pub new_ask : (before after : List Collection) (cluster : ℕ) → asked (new_lines before after cluster) ≡ []
new_ask before after cluster = creations_ask (item_numbers after) (filter (λ c. is_made_in cluster c) (drop (length before) after))

-- the ends of peeks
retires_ask : (peeks : List PendingPeek) → asked (map (λ peek. Retire peek.peek) peeks) ≡ []
retires_ask [] = refl
retires_ask (peek ∷ peeks) = retires_ask peeks

pub ending_ask : (cs : List Collection) (peeks : List PendingPeek) (cluster : ℕ) → asked (ending_lines cs peeks cluster) ≡ []
ending_ask cs peeks cluster = retires_ask (filter (λ peek. is_kept_in cluster cs peek.collection) peeks)

-- allowances
allowed_ask : (ss : List Settled) (lines : List Command) (ns : List ℕ) → asked (allowances_of ss lines ns) ≡ []
allowed_ask ss lines [] = refl
allowed_ask ss lines (number ∷ ns) =
    cond_both (is_le (since_of number ss) (told number lines)) (allowances_of ss lines ns)
    (Allow number (since_of number ss) ∷ allowances_of ss lines ns) (λ xs. asked xs ≡ []) (λ e. allowed_ask ss lines ns)
    (λ e. allowed_ask ss lines ns)

pub allowances_ask : (ss : List Settled) (lines : List Command) → asked (allowances ss lines) ≡ []
allowances_ask ss lines = allowed_ask ss lines (reverse (created lines))

-- the collections of a replica that joins
joined_ask : (names : List (ℕ × ℕ)) (cluster : ℕ) (ss : List Settled) → asked (joined names cluster ss) ≡ []
joined_ask names cluster [] = refl
joined_ask names cluster (s ∷ ss) = step (is_made_in cluster s.collection) s.since (joined_ask names cluster ss)
  where
    step : (b : Bool) (f : Frontier) → asked (joined names cluster ss) ≡ []
        → asked (cond b (joined_before names s.collection f (joined names cluster ss)) (joined names cluster ss)) ≡ []
    step false f rest = rest
    step true Done rest = rest
    step true (At t) rest = rest

-- the next peek
pub asking_order : (made : ℕ) (cs : List Collection) (peek collection time cluster : ℕ) → peek ≡ made + 1
    → AreInOrder made (made + 1) (asking_lines cs (Peek peek collection time) collection cluster)
asking_order made cs peek collection time cluster next =
    cond_both (is_kept_in cluster cs collection) (Peek peek collection time ∷ []) [] (AreInOrder made (made + 1))
    (λ e. record { rise = (tt, tt); within = ((omega (arith, next), omega (arith, next)), tt) })
    (λ e. order_none made (made + 1) [] refl)

-- pending peeks
asks_rise : (made : ℕ) (peeks : List PendingPeek) → Pairwise IsMadeBefore peeks → Each (IsMadeWithin made) peeks → AreInOrder 0 made (map ask peeks)
asks_rise made [] p q = record { rise = tt; within = tt }
asks_rise made (first ∷ peeks) p q =
    let rest = asks_rise made peeks p.1 q.1 in record {
      rise = (later first.peek peeks p.0, rest.rise);
      within = ((omega (arith, q.0.0), q.0.1), rest.within);
    }
  where
    later : (n : ℕ) (ps : List PendingPeek) → Each (λ p. n < p.peek) ps → Each (λ m. n < m) (asked (map ask ps))
    later n [] k = tt
    later n (p ∷ ps) k = (k.0, later n ps k.1)

-- some of them
filter_rises : (test : PendingPeek → Bool) (peeks : List PendingPeek) → Pairwise IsMadeBefore peeks → Pairwise IsMadeBefore (filter test peeks)
filter_rises test [] p = tt
filter_rises test (first ∷ peeks) p =
    cond_both (test first) (first ∷ filter test peeks) (filter test peeks) (Pairwise IsMadeBefore)
    (λ e. (each_filter (IsMadeBefore first) test peeks p.0, filter_rises test peeks p.1)) (λ e. filter_rises test peeks p.1)

-- so the first lines of a replica that joins ask in order
pub joining_order : (made cluster : ℕ) (ss : List Settled) (peeks : List PendingPeek) → Pairwise IsMadeBefore peeks
    → Each (IsMadeWithin made) peeks → AreInOrder 0 made (joining cluster ss peeks)
joining_order made cluster ss peeks p q =
    let test : PendingPeek → Bool = λ peek. is_read_in cluster ss peek.collection in
    order_append 0 0 made (omega arith) (omega arith) (joined (numbers ss) cluster ss) (map ask (filter test peeks))
    (order_none 0 0 (joined (numbers ss) cluster ss) (joined_ask (numbers ss) cluster ss))
    (asks_rise made (filter test peeks) (filter_rises test peeks p) (each_filter (IsMadeWithin made) test peeks q))

-- ---- packets

-- what is so of each peek that is asked for is so of each that is answered
answers_each : (P : ℕ → Type 0) (all : List Command) (ready : ℕ) (lines : List Command) → Each P (asked lines) → Each P (answers_in all ready lines)
answers_each P all ready [] p = tt
answers_each P all ready (Peek peek collection t ∷ lines) p =
    let rest = answers_each P all ready lines p.1 in
    cond_both (nat_lt t ready && not (is_retired peek all)) (peek ∷ answers_in all ready lines) (answers_in all ready lines) (Each P)
    (λ e. (p.0, rest)) (λ e. rest)
answers_each P all ready (Create collection plan t ∷ lines) p = answers_each P all ready lines p
answers_each P all ready (Allow collection f ∷ lines) p = answers_each P all ready lines p
answers_each P all ready (Retire peek ∷ lines) p = answers_each P all ready lines p

-- so the answers of a packet are in order
pub answers_rise : (all : List Command) (ready : ℕ) (lines : List Command) → Rise (asked lines) → Rise (answers_in all ready lines)
answers_rise all ready [] p = tt
answers_rise all ready (Peek peek collection t ∷ lines) p =
    let rest = answers_rise all ready lines p.1 in
    cond_both (nat_lt t ready && not (is_retired peek all)) (peek ∷ answers_in all ready lines) (answers_in all ready lines) Rise
    (λ e. (answers_each (λ m. peek < m) all ready lines p.0, rest)) (λ e. rest)
answers_rise all ready (Create collection plan t ∷ lines) p = answers_rise all ready lines p
answers_rise all ready (Allow collection f ∷ lines) p = answers_rise all ready lines p
answers_rise all ready (Retire peek ∷ lines) p = answers_rise all ready lines p
