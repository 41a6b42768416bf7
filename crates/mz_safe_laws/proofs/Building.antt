-- A round that makes and drops items, change by change.
use Rattle.std.proofs.Common.{◌≡◌, ℕ, suc, ◌+◌, ◌<◌, ◌≤◌, ◌==◌, true, List, [], ◌∷◌, ◌++◌, filter, length, map, refl, sym, subst, arith, length-append}
use Rattle.std.specs.List.{AllByRecursion as Each, list_any}
use Rattle.std.proofs.lemmas.Bool.{cond_both, and_parts}
use Rattle.std.proofs.lemmas.List.{length-map}
use Rattle.mz_time.specs.Frontier.{Le}
use Rattle.mz_time.specs.declared.frontier.Frontier.{Frontier}
use Rattle.mz_time.specs.declared.frontier.Frontier.TheVariants.{At}
use Rattle.mz_time.proofs.FrontierLemmas.{Le-refl, Le-trans}
use Rattle.mz_plan.specs.Leaves.{leaves_of}
use Rattle.mz_plan.specs.declared.item.Item.{Item}
use Rattle.mz_plan.specs.declared.item.ItemKind.{ItemKind}
use Rattle.mz_plan.specs.declared.item.ItemKind.TheVariants as item
use Rattle.mz_plan.specs.declared.plan.Plan.{Plan}
use Rattle.mz_plan.specs.declared.plan.Plan.TheVariants as plan
use Rattle.mz_rules.specs.Capabilities.{Capability}
use Rattle.mz_rules.specs.Frontiers.{IsWithin}
use Rattle.mz_rules.specs.Numbering.{Grows, Numbered}
use Rattle.mz_rules.specs.Since.{settle, since_or}
use Rattle.mz_rules.specs.declared.capability.Collection.{Collection}
use Rattle.mz_rules.specs.declared.capability.CollectionKind.{CollectionKind}
use Rattle.mz_rules.specs.declared.capability.CollectionKind.TheVariants as kind
use Rattle.mz_rules.proofs.Each.{each_of, each_map, each_both, each_one}
use Rattle.mz_rules.proofs.FrontierLemmas.{within_at, within_more}
use Rattle.mz_rules.proofs.Growing.{grows_same, grows_map, grows_more}
use Rattle.mz_rules.proofs.Held.{implied_holds}
use Rattle.mz_rules.proofs.Numbers.{new_place, numbered_map, numbered_more, own_place}
use Rattle.mz_log.specs.Sequential.{Change, Made, Removed, Moved}
use Rattle.mz_books.specs.Collections.{advanced, inputs_for, is_leaf, is_in_catalog, next_collection, with_change, with_changes, with_item, without_item}
use Rattle.mz_safe_laws.proofs.Onward.{IsPlaced, IsTimely, Core, Onward, still_above}
use Rattle.mz_safe_laws.proofs.Moves.{advanced_moved, advanced_timely, dropped_moved, dropped_present, dropped_timely}

-- the collections while a round is applied
pub record Building (g : ℕ → Frontier) (w : ℕ) (cs ds : List Collection) : Type 0 where
  pub grows : Grows g w cs ds
  pub numbered : Numbered 1 ds
  pub longer : length cs ≤ length ds
  pub leaves : Each (λ c. is_in_catalog c ≡ true → Le (g c.number) (At w)) ds
  pub timely : Each (IsTimely w) ds

-- what holds of each settled collection holds of each collection
pub unsettled : (P : Collection → Type 0) (kept : List Capability) (cs : List Collection)
    → Each (λ s. P s.collection) (settle kept cs) → Each P cs
unsettled P kept [] p = tt
unsettled P kept (c ∷ cs) p = (p.0, unsettled P kept cs p.1)

-- the since of what is present is within the read time
pub present_before : (missing : Frontier) (read w : ℕ) (cs : List Collection) (kept : List Capability) → read ≤ w → Core read cs kept
    → Each (λ c. is_in_catalog c ≡ true → Le (since_or missing c.number (settle kept cs)) (At w)) cs
present_before missing read w cs kept h core =
    let all = settle kept cs in
    each_both (IsTimely read) (λ c. Le (since_or missing c.number all) c.implied)
    (λ c. is_in_catalog c ≡ true → Le (since_or missing c.number all) (At w))
    (λ c t low here. Le-trans (since_or missing c.number all) c.implied (At w) low
    (within_at w c.implied here (within_more read w c.implied h t.kept)))
    cs core.timely
    (unsettled (λ c. Le (since_or missing c.number all) c.implied) kept cs
    (each_both (λ s. (1 ≤ s.collection.number) × (since_or missing s.collection.number all ≡ s.since)) (λ s. Le s.since s.collection.implied)
    (λ s. Le (since_or missing s.collection.number all) s.collection.implied)
    (λ s p low. subst (λ f. Le f s.collection.implied) (sym p.1) low) all (own_place missing kept 1 cs core.numbered) (implied_holds kept cs)))

-- what holds of each present collection's number holds of each that a plan reads
pub each_input : (P : ℕ → Type 0) (leaves : List ℕ) (cs : List Collection) → Each (λ c. is_in_catalog c ≡ true → P c.number) cs
    → Each P (map (λ c. c.number) (filter (is_leaf leaves) cs))
each_input P leaves [] p = tt
each_input P leaves (c ∷ cs) p =
    cond_both (is_leaf leaves c) (c ∷ filter (is_leaf leaves) cs) (filter (is_leaf leaves) cs) (λ l. Each P (map (λ x. x.number) l))
    (λ e. (p.0 (and_parts (is_in_catalog c) (list_any (λ item. item == c.item) leaves) e).0, each_input P leaves cs p.1))
    (λ e. each_input P leaves cs p.1)

-- and of each that a new collection reads
pub each_read : (P : ℕ → Type 0) (made : CollectionKind) (plan : Plan) (cs : List Collection)
    → Each (λ c. is_in_catalog c ≡ true → P c.number) cs → Each P (inputs_for made plan cs)
each_read P kind.Table plan cs p = tt
each_read P kind.Index plan cs p = each_input P (leaves_of plan) cs p
each_read P kind.Transient plan cs p = each_input P (leaves_of plan) cs p

-- numbers are below the next
pub numbers_below : (k : ℕ) (cs : List Collection) → Numbered k cs → Each (λ c. c.number < k + length cs) cs
numbers_below k [] n = tt
numbers_below k (c ∷ cs) n = (
  omega (arith, n.0),
  each_of (λ d. d.number < (k + 1) + length cs) (λ d. d.number < k + suc (length cs)) (λ d p. omega (arith, p)) cs
      (numbers_below (k + 1) cs n.1),
)

-- a new collection is timely
pub made_timely : (cs : List Collection) (name : List ℕ) (made : CollectionKind) (item cluster : ℕ) (plan : Plan) (w : ℕ) (implied : Frontier)
    → IsWithin w implied → Numbered 1 cs → IsTimely w (next_collection cs name made item cluster plan w implied)
made_timely cs name made item cluster plan w implied h n = record {
  created = omega arith;
  kept = h;
  come = omega arith;
  fair = record { low = omega arith; high = omega arith };
  older = each_read (λ input. input < length cs + 1) made plan cs
      (each_of (λ c. c.number < 1 + length cs) (λ c. is_in_catalog c ≡ true → c.number < length cs + 1) (λ c p e. omega (arith, p)) cs
      (numbers_below 1 cs n));
}

-- no number past those that there are is bound, but by the time of the round
abbrev pub IsFresh : (ℕ → Frontier) → ℕ → List Collection → Type 0
IsFresh g w cs = (number : ℕ) → 1 + length cs ≤ number → g number ≡ At w

-- one item more
one_builds : (g : ℕ → Frontier) (w : ℕ) (cs ds : List Collection) (name : List ℕ) (made : CollectionKind) (item cluster : ℕ) (plan : Plan)
    → IsFresh g w cs → Building g w cs ds
    → Building g w cs (ds ++ (next_collection ds name made item cluster plan w (At w) ∷ []))
one_builds g w cs ds name made item cluster plan fresh b =
    let longer = b.longer in
    let next = next_collection ds name made item cluster plan w (At w) in
    let new = fresh (length ds + 1) (omega arith) in
    let at : Le (At w) (g (length ds + 1)) = subst (Le (At w)) (sym new) (Le-refl (At w)) in
    record {
      grows = grows_more g w next (record {
        own_as_of = refl;
        kept = Le-refl (At w);
        inputs_before = each_read (λ input. Le (g input) (At w)) made plan ds b.leaves;
        own_bound = at;
      }) cs ds b.grows;
      numbered = numbered_more 1 ds next b.numbered (omega arith);
      longer = omega (arith, length-append ds (next ∷ []));
      leaves = each_one (λ c. is_in_catalog c ≡ true → Le (g c.number) (At w)) ds next b.leaves
          (λ e. subst (λ f. Le f (At w)) (sym new) (Le-refl (At w)));
      timely = each_one (IsTimely w) ds next b.timely (made_timely ds name made item cluster plan w (At w) (omega arith) b.numbered);
    }

-- an item of any kind
item_builds : (g : ℕ → Frontier) (w : ℕ) (cs ds : List Collection) (made : Item) (is : ItemKind) → IsFresh g w cs
    → Building g w cs ds → Building g w cs (with_item w ds made is)
item_builds g w cs ds made (item.Table columns) fresh b = one_builds g w cs ds made.name kind.Table made.id made.cluster (plan.Table made.id) fresh b
item_builds g w cs ds made (item.View columns query) fresh b = b
item_builds g w cs ds made (item.Index on own) fresh b = one_builds g w cs ds made.name kind.Index made.id made.cluster own fresh b

-- a change of a round
change_builds : (g : ℕ → Frontier) (w : ℕ) (cs ds : List Collection) (change : Change) → IsFresh g w cs
    → Building g w cs ds → Building g w cs (with_change w ds change)
change_builds g w cs ds (Made item) fresh b = item_builds g w cs ds item item.kind fresh b
change_builds g w cs ds (Removed item) fresh b = record {
  grows = grows_map g w (without_item item) (dropped_moved item) cs ds b.grows;
  numbered = numbered_map (without_item item) (λ c. (dropped_moved item c).same_number) 1 ds b.numbered;
  longer = subst (λ n. length cs ≤ n) (sym (length-map ds (without_item item))) b.longer;
  leaves = each_map (λ c. is_in_catalog c ≡ true → Le (g c.number) (At w)) (λ c. is_in_catalog c ≡ true → Le (g c.number) (At w)) (without_item item)
      (λ c p. dropped_present (λ number. Le (g number) (At w)) item c p) ds b.leaves;
  timely = each_map (IsTimely w) (IsTimely w) (without_item item) (dropped_timely w item) ds b.timely;
}
change_builds g w cs ds (Moved table rows) fresh b = b

-- all changes
changes_build : (g : ℕ → Frontier) (w : ℕ) (cs ds : List Collection) (changes : List Change) → IsFresh g w cs
    → Building g w cs ds → Building g w cs (with_changes w ds changes)
changes_build g w cs ds [] fresh b = b
changes_build g w cs ds (change ∷ changes) fresh b =
    changes_build g w cs (with_change w ds change) changes fresh (change_builds g w cs ds change fresh b)

-- what is timely stays so
later_timely : (read w : ℕ) → read ≤ w → (c : Collection) → IsTimely read c → IsTimely w c
later_timely read w h c p = record {
  created = omega (arith, p.created);
  kept = within_more read w c.implied h p.kept;
  come = omega (arith, p.come);
  fair = p.fair;
  older = p.older;
}

-- what the changes of a round make
round_builds : (read w : ℕ) (cs : List Collection) (kept : List Capability) (changes : List Change) → read < w → Core read cs kept
    → Building (λ number. since_or (At w) number (settle kept cs)) w cs (with_changes w cs changes)
round_builds read w cs kept changes h core =
    let g : ℕ → Frontier = λ number. since_or (At w) number (settle kept cs) in
    let start : Building g w cs cs = record {
      grows = grows_same g w cs;
      numbered = core.numbered;
      longer = omega arith;
      leaves = present_before (At w) read w cs kept (omega arith) core;
      timely = each_of (IsTimely read) (IsTimely w) (later_timely read w (omega arith)) cs core.timely;
    } in
    changes_build g w cs cs changes (λ number past. new_place (At w) kept 1 cs core.numbered number past) start

-- a round
pub round_onward : (read w : ℕ) (cs : List Collection) (kept : List Capability) (changes : List Change) → read < w → Core read cs kept
    → Onward read cs kept w (map (advanced w) (with_changes w cs changes)) kept
round_onward read w cs kept changes h core =
    let g : ℕ → Frontier = λ number. since_or (At w) number (settle kept cs) in
    let b = round_builds read w cs kept changes h core in
    let ds = with_changes w cs changes in
    let longer = b.longer in
    let same = length-map ds (advanced w) in
    record {
      a = w;
      read_rises = omega arith;
      numbered = numbered_map (advanced w) (λ c. (advanced_moved w c).same_number) 1 ds b.numbered;
      placed = each_of (IsPlaced (length cs) read) (IsPlaced (length (map (advanced w) ds)) w)
          (λ s p. record { from_one = p.from_one; made = omega (arith, p.made); in_time = omega (arith, p.in_time) }) kept core.placed;
      timely = each_map (IsTimely w) (IsTimely w) (advanced w) (advanced_timely w) ds b.timely;
      above = still_above w read cs kept core;
      grows = grows_map g w (advanced w) (advanced_moved w) cs ds b.grows;
    }
