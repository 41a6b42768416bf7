-- Each table and index that statements may name has a collection of its name in the catalog.
use Rattle.std.specs.Prelude.{bytes_eq}
use Rattle.std.proofs.Common.{◌≡◌, ℕ, ◌+◌, ◌==◌, ◌&&◌, ◌||◌, Bool, true, false, cond, not, List, [], ◌∷◌, ◌++◌, length, map, inl, inr, refl, sym, ap, ◌∙◌, subst}
use Rattle.std.specs.List.{AllByRecursion as Each, list_any}
use Rattle.std.proofs.lemmas.Bool.{and_from, and_parts, cond-false, cond_both, eq-eqb, eqb-true, false≢true, not-true, or_cases, or_left, or_right}
use Rattle.std.proofs.lemmas.List.Folds.{list_any-append}
use Rattle.std.proofs.lemmas.Slice.Eq.{bytes_eq-Decides}
use Rattle.mz_time.specs.declared.frontier.Frontier.{Frontier}
use Rattle.mz_time.specs.declared.frontier.Frontier.TheVariants.{At, Done}
use Rattle.mz_statement.specs.declared.statement.Keep.{Keep}
use Rattle.mz_statement.specs.declared.statement.Statement.TheVariants.{Retain}
use Rattle.mz_plan.specs.Items.{is_view}
use Rattle.mz_plan.specs.declared.item.Item.{Item}
use Rattle.mz_plan.specs.declared.item.ItemKind.{ItemKind}
use Rattle.mz_plan.specs.declared.item.ItemKind.TheVariants as kinds
use Rattle.mz_rules.specs.Frontiers.{is_at}
use Rattle.mz_rules.specs.Joining.{is_table}
use Rattle.mz_rules.specs.Moves.{come_to, kept_by}
use Rattle.mz_rules.specs.Policy.{raised}
use Rattle.mz_rules.specs.declared.capability.Collection.{Collection}
use Rattle.mz_rules.proofs.Each.{each_of, each_one}
use Rattle.mz_log.specs.Sequential as changes
use Rattle.mz_log.specs.Sequential.{Sequential}
use Rattle.mz_log.specs.declared.entry.Entry.TheVariants.{Apply, Read, Instant, Absorbed}
use Rattle.mz_log.specs.Log.{Log}
use Rattle.mz_books.specs.Clusters.{cluster_of}
use Rattle.mz_books.specs.States.{after_replies, items, newest_state, round_changes}
use Rattle.mz_books.specs.Collections.{advanced, collections, is_called, is_in_catalog, reported, retained, with_changes, with_item, without_item}
use Rattle.mz_books.specs.Legal.{Legal}
use Rattle.mz_replay_laws.proofs.Said.{round_said}
use Rattle.mz_replay_laws.proofs.Steady.{newest_after}
use Rattle.mz_replay_laws.proofs.WellStates.{states_well}
use Rattle.mz_safe_laws.proofs.Reached.{each_left}
use Rattle.mz_replay_laws.proofs.RoundKeeps.{IsKeptBy, round_keeps}

-- the collection is in the catalog, and that of the item, with its name
abbrev pub is_of : Item → Collection → Bool
is_of item c = is_in_catalog c && ((c.item == item.id) && bytes_eq c.name item.name)

-- each item that isn't a view has one
abbrev pub HaveAll : Sequential → List Collection → Type 0
HaveAll state cs = Each (λ item. is_view item.kind ≡ false → list_any (is_of item) cs ≡ true) state.database.items

-- ---- collections that move

-- a collection is in the catalog if it was, of its item and under its name
record IsSameOf (before after : Collection) : Type 0 where
  present : is_in_catalog after ≡ is_in_catalog before
  item : after.item ≡ before.item
  name : after.name ≡ before.name

-- so the test of an item finds it as before
same_test : (item : Item) (c d : Collection) → IsSameOf c d → is_of item d ≡ is_of item c
same_test item c d s = λ i. s.present i && ((s.item i == item.id) && bytes_eq (s.name i) item.name)

-- and finds one among all
same_any : (item : Item) (f : Collection → Collection) → ((c : Collection) → IsSameOf c (f c)) → (cs : List Collection)
    → list_any (is_of item) (map f cs) ≡ list_any (is_of item) cs
same_any item f same [] = refl
same_any item f same (c ∷ cs) = λ i. same_test item c (f c) (same c) i || same_any item f same cs i

-- so all items have theirs still
all_same : (state : Sequential) (f : Collection → Collection) → ((c : Collection) → IsSameOf c (f c)) → (cs : List Collection) → HaveAll state cs
    → HaveAll state (map f cs)
all_same state f same cs p =
    each_of (λ item. is_view item.kind ≡ false → list_any (is_of item) cs ≡ true)
    (λ item. is_view item.kind ≡ false → list_any (is_of item) (map f cs) ≡ true)
    (λ item q no_view. same_any item f same cs ∙ q no_view) state.database.items p

-- a policy that has its say makes nothing present or done
raised_at : (keep : Keep) (upper : ℕ) (f : Frontier) → is_at (raised keep upper f) ≡ is_at f
raised_at keep upper Done = refl
raised_at keep upper (At old) = refl

-- one that stays, one that comes on, and one that has another policy
same_self : (c : Collection) → IsSameOf c c
same_self c = record { present = refl; item = refl; name = refl }

same_on : (upper : ℕ) (c : Collection) → IsSameOf c (come_to upper c)
same_on upper c = record { present = raised_at c.keep upper c.implied; item = refl; name = refl }

same_keep : (keep : Keep) (c : Collection) → IsSameOf c (kept_by keep c)
same_keep keep c = record { present = raised_at keep c.upper c.implied; item = refl; name = refl }

-- by a test one or the other
same_either : (test : Bool) (c one other : Collection) → IsSameOf c one → IsSameOf c other → IsSameOf c (cond test one other)
same_either true c one other p q = p
same_either false c one other p q = q

-- ---- a change

-- what finds one finds it among what a function makes, where it makes such of each
any_kept : (find : Collection → Bool) (f : Collection → Collection) → ((c : Collection) → find c ≡ true → find (f c) ≡ true) → (cs : List Collection)
    → list_any find cs ≡ true → list_any find (map f cs) ≡ true
any_kept find f keep [] e = absurd (false≢true e)
any_kept find f keep (c ∷ cs) e = elim (or_cases (find c) (list_any find cs) e) [
  | inl own ↦ or_left (find (f c)) (list_any find (map f cs)) (keep c own)
  | inr later ↦ or_right (find (f c)) (list_any find (map f cs)) (any_kept find f keep cs later)
]

-- a drop lets go of no other item's
other_stays : (id : ℕ) (item : Item) → (item.id == id) ≡ false → (c : Collection) → is_of item c ≡ true → is_of item (without_item id c) ≡ true
other_stays id item apart c e =
    let parts = and_parts (is_in_catalog c) ((c.item == item.id) && bytes_eq c.name item.name) e in
    let own = eqb-true c.item item.id (and_parts (c.item == item.id) (bytes_eq c.name item.name) parts.1).0 in
    let other : (c.item == id) ≡ false = ap (λ n. n == id) own ∙ apart in
    subst (λ d. is_of item d ≡ true) (sym (cond-false _ _ _ other)) e

-- the collection of a new item
new_found : (item : Item) (cs : List Collection) (new : Collection) → is_in_catalog new ≡ true → new.item ≡ item.id → new.name ≡ item.name
    → list_any (is_of item) (cs ++ new ∷ []) ≡ true
new_found item cs new present own name =
    list_any-append (is_of item) cs (new ∷ [])
    ∙ or_right (list_any (is_of item) cs) (is_of item new || false)
    (or_left (is_of item new) false (and_from (is_in_catalog new) _ present
    (and_from (new.item == item.id) _ (eq-eqb new.item item.id own) ((bytes_eq-Decides new.name item.name).1 name))))

-- older items have theirs still
older_found : (cs more : List Collection) (items : List Item) → Each (λ item. is_view item.kind ≡ false → list_any (is_of item) cs ≡ true) items
    → Each (λ item. is_view item.kind ≡ false → list_any (is_of item) (cs ++ more) ≡ true) items
older_found cs more items p =
    each_of (λ item. is_view item.kind ≡ false → list_any (is_of item) cs ≡ true)
    (λ item. is_view item.kind ≡ false → list_any (is_of item) (cs ++ more) ≡ true)
    (λ item q no_view. list_any-append (is_of item) cs more ∙ or_left (list_any (is_of item) cs) (list_any (is_of item) more) (q no_view)) items p

-- an item that is made
made_found : (time : ℕ) (old : List Item) (made : Item) (kind : ItemKind) → made.kind ≡ kind → (cs : List Collection)
    → Each (λ item. is_view item.kind ≡ false → list_any (is_of item) cs ≡ true) old
    → Each (λ item. is_view item.kind ≡ false → list_any (is_of item) (with_item time cs made kind) ≡ true) (old ++ made ∷ [])
made_found time old made (kinds.Table columns) is cs p =
    each_one (λ item. is_view item.kind ≡ false → list_any (is_of item) (with_item time cs made (kinds.Table columns)) ≡ true) old made
    (older_found cs _ old p) (λ no_view. new_found made cs _ refl refl refl)
made_found time old made (kinds.Index on plan) is cs p =
    each_one (λ item. is_view item.kind ≡ false → list_any (is_of item) (with_item time cs made (kinds.Index on plan)) ≡ true) old made
    (older_found cs _ old p) (λ no_view. new_found made cs _ refl refl refl)
made_found time old made (kinds.View columns query) is cs p =
    each_one (λ item. is_view item.kind ≡ false → list_any (is_of item) cs ≡ true) old made p
    (λ no_view. absurd (false≢true (sym no_view ∙ ap is_view is)))

-- any change
change_found : (time : ℕ) → IsKeptBy time HaveAll
change_found time state used (changes.Made made) next cs p = made_found time state.database.items made made.kind refl cs p
change_found time state used (changes.Removed id) next cs p =
    each_left (λ item. is_view item.kind ≡ false → list_any (is_of item) cs ≡ true)
    (λ item. is_view item.kind ≡ false → list_any (is_of item) (map (without_item id) cs) ≡ true) (λ item. not (item.id == id))
    (λ item left q no_view. any_kept (is_of item) (without_item id) (other_stays id item (not-true (item.id == id) left)) cs (q no_view))
    state.database.items p
change_found time state used (changes.Moved table rows) next cs p = p

-- ---- every log

-- so each item of a legal log has its collection
pub items_found : (log : Log) → Legal log → HaveAll (newest_state log) (collections log)
items_found [] l = ((λ no_view. refl), tt)
items_found (Apply time replies ∷ log) l =
    subst (λ state. HaveAll state (collections (Apply time replies ∷ log))) (sym (newest_after log time replies l))
    (all_same (after_replies (cluster_of log) (newest_state log) replies) (advanced time)
    (λ c. same_either (is_table c.kind) c _ c (same_on _ c) (same_self c)) (with_changes time (collections log) (round_changes log replies))
    (round_keeps time HaveAll (change_found time) (cluster_of log) (newest_state log) (collections log) replies
    (round_said log time replies l) (states_well log l.0 _) (items_found log l.0)))
items_found (Read session call peek time statement collection ∷ log) l =
    cond_both (collection == length (collections log) + 1) _ (collections log) (HaveAll (newest_state log))
    (λ _. older_found (collections log) _ (items log) (items_found log l.0)) (λ _. items_found log l.0)
items_found (Absorbed replica incarnation turn taken ready frontiers ∷ log) l =
    all_same (newest_state log) (reported frontiers) (λ c. same_either (is_table c.kind) c c _ (same_self c) (same_on _ c)) (collections log)
    (items_found log l.0)
items_found (Instant session call (Retain name keep) time ∷ log) l =
    all_same (newest_state log) (retained name keep) (λ c. same_either (is_called name c) c _ c (same_keep keep c) (same_self c)) (collections log)
    (items_found log l.0)
items_found (entry ∷ log) l = items_found log l.0
