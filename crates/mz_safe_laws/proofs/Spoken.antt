-- What streams say of collections: no line names a frontier that is past the since, and none makes a collection as of a time past the
-- read time.
use Rattle.std.proofs.Common.{◌≡◌, ℕ, zero, suc, ◌+◌, ◌≤◌, Bool, true, false, cond, max, List, [], ◌∷◌, ◌++◌, length, map, drop, filter, reverse, sym, subst, arith}
use Rattle.std.specs.Prelude.{⊤}
use Rattle.std.specs.List.{AllByRecursion as Each}
use Rattle.std.proofs.lemmas.Bool.{cond_both}
use Rattle.mz_time.specs.Frontier.{Le}
use Rattle.mz_time.specs.declared.frontier.Frontier.{Frontier}
use Rattle.mz_time.specs.declared.frontier.Frontier.TheVariants.{At, Done}
use Rattle.mz_plan.specs.declared.command.Command.{Command}
use Rattle.mz_plan.specs.declared.command.Command.TheVariants.{Create, Allow, Peek, Retire}
use Rattle.mz_plan.specs.declared.command.PendingPeek.{PendingPeek}
use Rattle.mz_rules.specs.Capabilities.{Capability}
use Rattle.mz_rules.specs.Frontiers.{is_le, IsWithin}
use Rattle.mz_rules.specs.Joining.{allowances, allowances_of, ask, creation, is_made_in, is_read_in, joined, joined_before, joining, numbers}
use Rattle.mz_rules.specs.Since.{settle, since_of, since_or}
use Rattle.mz_rules.specs.Streams.{created, is_dropped, told, IsSaidWithin}
use Rattle.mz_rules.specs.declared.capability.Collection.{Collection}
use Rattle.mz_rules.specs.declared.capability.Settled.{Settled}
use Rattle.mz_rules.proofs.Each.{each_of, each_both, each_append, each_filter, each_map}
use Rattle.mz_rules.proofs.Held.{sinces_within}
use Rattle.mz_rules.proofs.Numbers.{own_place}
use Rattle.mz_rules.proofs.Said.{allowances_said, creations_said, joining_said, said_later}
use Rattle.mz_books.specs.Feeds.{frontiers_in}
use Rattle.mz_books.specs.Streams.{asking_lines, ending_lines, is_kept_in, item_numbers, new_lines}
use Rattle.mz_safe_laws.proofs.Onward.{Core, IsTimely}
use Rattle.mz_safe_laws.proofs.Building.{unsettled}

-- a line makes a collection as of no later time than this
abbrev pub IsEarly : ℕ → Command → Type 0
IsEarly read (Create number plan t) = t ≤ read
IsEarly read line = ⊤

-- a list of lines says nothing past the sinces and the read time
pub record SaysWell (since : ℕ → Frontier) (read : ℕ) (lines : List Command) : Type 0 where
  pub said : Each (IsSaidWithin since) lines
  pub early : Each (IsEarly read) lines

-- two in a row
pub well_append : (since : ℕ → Frontier) (read : ℕ) (xs ys : List Command) → SaysWell since read xs → SaysWell since read ys
    → SaysWell since read (xs ++ ys)
well_append since read xs ys p q = record {
  said = each_append (IsSaidWithin since) xs ys p.said q.said;
  early = each_append (IsEarly read) xs ys p.early q.early;
}

-- a later read time
early_later : (read later : ℕ) → read ≤ later → (line : Command) → IsEarly read line → IsEarly later line
early_later read later h (Create number plan t) p = omega arith
early_later read later h line p = tt

pub well_later : (since later : ℕ → Frontier) (read then_read : ℕ) → ((number : ℕ) → Le (since number) (later number)) → read ≤ then_read
    → (lines : List Command) → SaysWell since read lines → SaysWell later then_read lines
well_later since later read then_read rises h lines p = record {
  said = said_later since later rises lines p.said;
  early = each_of (IsEarly read) (IsEarly then_read) (early_later read then_read h) lines p.early;
}

-- a collection may be made as of its as-of
abbrev IsAnnounced : (ℕ → Frontier) → ℕ → Collection → Type 0
IsAnnounced since read c = Le (At c.as_of) (since c.number) × (c.as_of ≤ read)

all_announced : (read : ℕ) (cs : List Collection) (kept : List Capability) → Core read cs kept
    → Each (IsAnnounced (λ number. since_of number (settle kept cs)) read) cs
all_announced read cs kept core =
    let all = settle kept cs in
    each_both (λ c. Le (At c.as_of) (since_or (At 0) c.number all)) (IsTimely read) (IsAnnounced (λ number. since_or (At 0) number all) read)
    (λ c p q. (p, q.created)) cs
    (unsettled (λ c. Le (At c.as_of) (since_or (At 0) c.number all)) kept cs
    (each_both (λ s. (1 ≤ s.collection.number) × (since_or (At 0) s.collection.number all ≡ s.since)) (λ s. Le (At s.collection.as_of) s.since)
    (λ s. Le (At s.collection.as_of) (since_or (At 0) s.collection.number all))
    (λ s p low. subst (Le (At s.collection.as_of)) (sym p.1) low) all (own_place (At 0) kept 1 cs core.numbered) core.from_as_of))
    core.timely

each_drop : {A : Type 0} (P : A → Type 0) (n : ℕ) (xs : List A) → Each P xs → Each P (drop n xs)
each_drop P zero xs p = p
each_drop P (suc n) [] p = tt
each_drop P (suc n) (x ∷ xs) p = each_drop P n xs p.1

-- what new collections add
pub new_lines_well : (read : ℕ) (before cs : List Collection) (kept : List Capability) (cluster : ℕ) → Core read cs kept
    → SaysWell (λ number. since_of number (settle kept cs)) read (new_lines before cs cluster)
new_lines_well read before cs kept cluster core =
    let since : ℕ → Frontier = λ number. since_of number (settle kept cs) in
    let names = item_numbers cs in
    let news : List Collection = drop (length before) cs in
    let all = each_drop (IsAnnounced since read) (length before) cs (all_announced read cs kept core) in
    record {
      said = creations_said names cluster since news
          (each_of (IsAnnounced since read) (λ c. Le (At c.as_of) (since c.number)) (λ c p. p.0) news all);
      early = each_map (IsAnnounced since read) (IsEarly read) (λ c. creation names c c.as_of) (λ c p. p.1)
          (filter (λ c. is_made_in cluster c) news) (each_filter (IsAnnounced since read) (λ c. is_made_in cluster c) news all);
    }

-- a peek that is asked for
pub asking_well : (since : ℕ → Frontier) (read : ℕ) (cs : List Collection) (peek collection time cluster : ℕ)
    → SaysWell since read (asking_lines cs (Peek peek collection time) collection cluster)
asking_well since read cs peek collection time cluster =
    cond_both (is_kept_in cluster cs collection) (Peek peek collection time ∷ []) [] (SaysWell since read)
    (λ e. record { said = (tt, tt); early = (tt, tt) }) (λ e. record { said = tt; early = tt })

-- peeks that are ended
ends_well : (since : ℕ → Frontier) (read : ℕ) (peeks : List PendingPeek) → SaysWell since read (map (λ peek. Retire peek.peek) peeks)
ends_well since read [] = record { said = tt; early = tt }
ends_well since read (peek ∷ peeks) = let rest = ends_well since read peeks in record { said = (tt, rest.said); early = (tt, rest.early) }

pub ending_well : (since : ℕ → Frontier) (read : ℕ) (cs : List Collection) (ended : List PendingPeek) (cluster : ℕ)
    → SaysWell since read (ending_lines cs ended cluster)
ending_well since read cs ended cluster = ends_well since read (filter (λ peek. is_kept_in cluster cs peek.collection) ended)

-- no since is past the read time
pub core_within : (read : ℕ) (cs : List Collection) (kept : List Capability) → Core read cs kept
    → Each (λ s. IsWithin read s.since) (settle kept cs)
core_within read cs kept core =
    sinces_within read kept cs (each_of _ (λ s. s.time ≤ read) (λ s p. p.in_time) kept core.placed)
    (each_of (IsTimely read) (λ c. IsWithin read c.implied) (λ c p. p.kept) cs core.timely)

-- a joining list
joined_early : (names : List (ℕ × ℕ)) (cluster read : ℕ) (ss : List Settled) → Each (λ s. IsWithin read s.since) ss
    → Each (IsEarly read) (joined names cluster ss)
joined_early names cluster read [] p = tt
joined_early names cluster read (s ∷ ss) p = step (is_made_in cluster s.collection) s.since p.0 (joined_early names cluster read ss p.1)
  where
    step : (b : Bool) (f : Frontier) → IsWithin read f → Each (IsEarly read) (joined names cluster ss)
        → Each (IsEarly read) (cond b (joined_before names s.collection f (joined names cluster ss)) (joined names cluster ss))
    step false f h rest = rest
    step true Done h rest = rest
    step true (At u) h rest = (h, rest)

asks_early : (read : ℕ) (peeks : List PendingPeek) → Each (IsEarly read) (map ask peeks)
asks_early read [] = tt
asks_early read (peek ∷ peeks) = (tt, asks_early read peeks)

pub joining_well : (read cluster : ℕ) (cs : List Collection) (kept : List Capability) (peeks : List PendingPeek) → Core read cs kept
    → SaysWell (λ number. since_of number (settle kept cs)) read (joining cluster (settle kept cs) peeks)
joining_well read cluster cs kept peeks core =
    let ss = settle kept cs in
    record {
      said = joining_said cluster 1 kept cs peeks core.numbered;
      early = each_append (IsEarly read) (joined (numbers ss) cluster ss) (map ask (filter (λ peek. is_read_in cluster ss peek.collection) peeks))
          (joined_early (numbers ss) cluster read ss (core_within read cs kept core))
          (asks_early read (filter (λ peek. is_read_in cluster ss peek.collection) peeks));
    }

-- allowances make nothing
allowed_early : (ss : List Settled) (read : ℕ) (lines : List Command) (ns : List ℕ) → Each (IsEarly read) (allowances_of ss lines ns)
allowed_early ss read lines [] = tt
allowed_early ss read lines (number ∷ ns) =
    let rest = allowed_early ss read lines ns in
    cond_both (is_le (since_of number ss) (told number lines)) (allowances_of ss lines ns)
    (Allow number (since_of number ss) ∷ allowances_of ss lines ns) (Each (IsEarly read)) (λ e. rest) (λ e. (tt, rest))

-- those of a feed
pub allowances_well : (ss : List Settled) (read : ℕ) (lines : List Command) → SaysWell (λ number. since_of number ss) read (allowances ss lines)
allowances_well ss read lines = record { said = allowances_said ss lines; early = allowed_early ss read lines (reverse (created lines)) }

-- how far a packet says that collections have come: no further than the round after the read time
pub frontiers_timely : (read ready : ℕ) (all lines : List Command) → ready ≤ read + 1 → Each (IsEarly read) lines
    → Each (λ f. f.1 ≤ read + 1) (frontiers_in all ready lines)
frontiers_timely read ready all [] h p = tt
frontiers_timely read ready all (Create collection plan t ∷ lines) h p =
    let rest = frontiers_timely read ready all lines h p.1 in
    cond_both (is_dropped collection all) (frontiers_in all ready lines) ((collection, max t ready) ∷ frontiers_in all ready lines)
    (Each (λ f. f.1 ≤ read + 1)) (λ e. rest) (λ e. (omega (arith, p.0), rest))
frontiers_timely read ready all (line ∷ lines) h p = frontiers_timely read ready all lines h p.1
