-- What entries do that make no collection: capabilities come and go, and collections move on.
use Rattle.std.proofs.Common.{ℕ, ◌+◌, ◌≤◌, ◌==◌, true, max, List, [], ◌∷◌, length, map, ◌≡◌, sym, subst, arith}
use Rattle.std.specs.List.{AllByRecursion as Each}
use Rattle.std.proofs.lemmas.Bool.{cond_both, false≢true}
use Rattle.std.proofs.lemmas.List.{length-map}
use Rattle.mz_time.specs.Frontier.{Le}
use Rattle.mz_time.specs.declared.frontier.Frontier.TheVariants.{At}
use Rattle.mz_statement.specs.Statement.{IsKeep}
use Rattle.mz_statement.specs.declared.statement.Keep.{Keep}
use Rattle.mz_rules.specs.Capabilities.{Capability}
use Rattle.mz_rules.specs.Joining.{is_table}
use Rattle.mz_rules.specs.Moves.{come_to, kept_by, let_go}
use Rattle.mz_rules.specs.Numbering.{Moved}
use Rattle.mz_rules.specs.Since.{settle, since_or}
use Rattle.mz_rules.specs.declared.capability.Collection.{Collection}
use Rattle.mz_rules.proofs.Each.{each_map}
use Rattle.mz_rules.proofs.Growing.{all_move, comes_on, gone_on, grows_same, kept_on, moved_self}
use Rattle.mz_rules.proofs.Held.{capabilities_hold}
use Rattle.mz_rules.proofs.Numbers.{numbered_map}
use Rattle.mz_rules.proofs.Policies.{within}
use Rattle.mz_books.specs.Collections.{advanced, is_called, is_in_catalog, named_for, reported, retained, without_item}
use Rattle.mz_safe_laws.proofs.Onward.{IsPlaced, IsTimely, Core, Onward}

-- capabilities change: those that there are then stand at or after the sinces before
pub capabilities_move : (read : ℕ) (cs : List Collection) (kept after : List Capability) → Core read cs kept
    → Each (IsPlaced (length cs) read) after → Each (λ s. Le (since_or (At 0) s.collection (settle kept cs)) (At s.time)) after
    → Onward read cs kept read cs after
capabilities_move read cs kept after core placed above = record {
  a = 0;
  read_rises = omega arith;
  numbered = core.numbered;
  placed = placed;
  timely = core.timely;
  above = above;
  grows = grows_same (λ number. since_or (At 0) number (settle kept cs)) 0 cs;
}

-- nothing changes
pub stays : (read : ℕ) (cs : List Collection) (kept : List Capability) → Core read cs kept → Onward read cs kept read cs kept
stays read cs kept core = capabilities_move read cs kept kept core core.placed (capabilities_hold kept cs)

-- collections move on
pub collections_move : (read : ℕ) (cs : List Collection) (kept : List Capability) (f : Collection → Collection)
    → ((c : Collection) → Moved c (f c)) → ((c : Collection) → IsTimely read c → IsTimely read (f c)) → Core read cs kept
    → Onward read cs kept read (map f cs) kept
collections_move read cs kept f moves timely core = record {
  a = 0;
  read_rises = omega arith;
  numbered = numbered_map f (λ c. (moves c).same_number) 1 cs core.numbered;
  placed = subst (λ n. Each (IsPlaced n read) kept) (sym (length-map cs f)) core.placed;
  timely = each_map (IsTimely read) (IsTimely read) f timely cs core.timely;
  above = capabilities_hold kept cs;
  grows = all_move (λ number. since_or (At 0) number (settle kept cs)) 0 f moves cs;
}

-- a collection that comes on stays timely, up to the round after the read time
pub come_timely : (read upper : ℕ) (c : Collection) → upper ≤ read + 1 → IsTimely read c → IsTimely read (come_to upper c)
come_timely read upper c h p = record {
  created = p.created;
  kept = within c.keep upper read c.implied p.fair h p.kept;
  come = h;
  fair = p.fair;
  older = p.older;
}

-- a round moves tables on
pub advanced_moved : (time : ℕ) (c : Collection) → Moved c (advanced time c)
advanced_moved time c =
    cond_both (is_table c.kind) (come_to (time + 1) c) c (Moved c) (λ e. comes_on (time + 1) c) (λ e. moved_self c)

pub advanced_timely : (time : ℕ) (c : Collection) → IsTimely time c → IsTimely time (advanced time c)
advanced_timely time c p =
    cond_both (is_table c.kind) (come_to (time + 1) c) c (IsTimely time) (λ e. come_timely time (time + 1) c (omega arith) p) (λ e. p)

-- what is named for a collection is within what all is
named_within : (bound number : ℕ) (fs : List (ℕ × ℕ)) → Each (λ f. f.1 ≤ bound) fs → named_for number fs ≤ bound
named_within bound number [] p = omega arith
named_within bound number (f ∷ fs) p =
    cond_both (f.0 == number) (max f.1 (named_for number fs)) (named_for number fs) (λ n. n ≤ bound)
    (λ e. omega (arith, p.0, named_within bound number fs p.1)) (λ e. named_within bound number fs p.1)

-- a packet moves the others on
pub reported_moved : (fs : List (ℕ × ℕ)) (c : Collection) → Moved c (reported fs c)
reported_moved fs c =
    cond_both (is_table c.kind) c (come_to (max c.upper (named_for c.number fs)) c) (Moved c) (λ e. moved_self c)
    (λ e. comes_on (max c.upper (named_for c.number fs)) c)

pub reported_timely : (read : ℕ) (fs : List (ℕ × ℕ)) → Each (λ f. f.1 ≤ read + 1) fs → (c : Collection) → IsTimely read c
    → IsTimely read (reported fs c)
reported_timely read fs h c p =
    cond_both (is_table c.kind) c (come_to (max c.upper (named_for c.number fs)) c) (IsTimely read) (λ e. p)
    (λ e. come_timely read (max c.upper (named_for c.number fs)) c (omega (arith, p.come, named_within (read + 1) c.number fs h)) p)

-- a RETAIN gives a collection another policy
pub retained_moved : (name : List ℕ) (keep : Keep) (c : Collection) → Moved c (retained name keep c)
retained_moved name keep c = cond_both (is_called name c) (kept_by keep c) c (Moved c) (λ e. kept_on keep c) (λ e. moved_self c)

pub retained_timely : (read : ℕ) (name : List ℕ) (keep : Keep) → IsKeep keep → (c : Collection) → IsTimely read c
    → IsTimely read (retained name keep c)
retained_timely read name keep k c p =
    cond_both (is_called name c) (kept_by keep c) c (IsTimely read)
    (λ e. record {
      created = p.created;
      kept = within keep c.upper read c.implied k p.come p.kept;
      come = p.come;
      fair = k;
      older = p.older;
    })
    (λ e. p)

-- a drop lets a collection go
pub dropped_moved : (item : ℕ) (c : Collection) → Moved c (without_item item c)
dropped_moved item c = cond_both (c.item == item) (let_go c) c (Moved c) (λ e. gone_on c) (λ e. moved_self c)

pub dropped_timely : (read item : ℕ) (c : Collection) → IsTimely read c → IsTimely read (without_item item c)
dropped_timely read item c p =
    cond_both (c.item == item) (let_go c) c (IsTimely read)
    (λ e. record { created = p.created; kept = tt; come = p.come; fair = p.fair; older = p.older }) (λ e. p)

-- what is present after a drop was so before, under its number
pub dropped_present : (P : ℕ → Type 0) (item : ℕ) (c : Collection) → (is_in_catalog c ≡ true → P c.number)
    → is_in_catalog (without_item item c) ≡ true → P (without_item item c).number
dropped_present P item c p =
    cond_both (c.item == item) (let_go c) c (λ d. is_in_catalog d ≡ true → P d.number) (λ e here. absurd (false≢true here)) (λ e. p)
