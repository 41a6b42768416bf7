-- What a log gives to who takes a hold keeps it good.
use Rattle.std.specs.Prelude.{⊤, IfOk, bytes_eq}
use Rattle.std.proofs.Common.{◌≡◌, ℕ, ◌==◌, ◌&&◌, ◌||◌, Bool, true, false, cond, List, [], ◌∷◌, find, Option, None, Some, Ok, Err, nat_lt, refl, sym, ap, ◌∙◌, subst, inl, inr}
use Rattle.std.specs.List.{list_any}
use Rattle.std.specs.Option.{option_map_or}
use Rattle.std.proofs.lemmas.Bool.{and_from, and_parts, cond-false, cond-true, eq-eqb, false≢true, ltb-false, or_cases, or_left, or_right}
use Rattle.std.proofs.lemmas.Slice.Eq.{bytes_eq-Decides}
use Rattle.mz_time.specs.Frontier.{Le}
use Rattle.mz_time.specs.declared.frontier.Frontier.{Frontier}
use Rattle.mz_time.specs.declared.frontier.Frontier.TheVariants.{At, Done}
use Rattle.mz_plan.specs.Items.{is_view, named}
use Rattle.mz_plan.specs.declared.item.Item.{Item}
use Rattle.mz_refusal.specs.declared.refusal.Refusal.TheVariants as refusal
use Rattle.mz_resolution.specs.Resolution.{item_of}
use Rattle.mz_resolution.specs.Steps.{Step}
use Rattle.mz_rules.specs.declared.capability.Collection.{Collection}
use Rattle.mz_log.specs.Log.{Log}
use Rattle.mz_books.specs.Entries.{after}
use Rattle.mz_books.specs.Rounds.{read_time}
use Rattle.mz_books.specs.States.{items}
use Rattle.mz_books.specs.Collections.{collections, is_called, is_in_catalog}
use Rattle.mz_books.specs.Since.{since}
use Rattle.mz_books.specs.Answer.{held_item, not_before}
use Rattle.mz_books.specs.GivenReplicas.{acquire_given, collection_called}
use Rattle.mz_books.specs.Safe.{Good}
use Rattle.mz_call_laws.specs.Members.{Has}
use Rattle.mz_call_laws.proofs.Lists.{each_has, found}
use Rattle.mz_call_laws.proofs.Steps.{past, then_ok}
use Rattle.mz_laws.proofs.Passed.{no_cause}
use Rattle.mz_complete_laws.proofs.Catalogued.{is_of, items_found}
use Rattle.mz_complete_laws.proofs.GivenGood.{IsEvent, step_good}

-- a time that isn't too early is at or after the frontier
not_too_early : (time : ℕ) (f : Frontier) (value : ⊤) → ◌≡◌ {A = Step ⊤} (not_before time f) (Ok value) → Le f (At time)
not_too_early time (At since) value e = ltb-false time since (no_cause (nat_lt time since) (refusal.BeforeSince time since) value e)
not_too_early time Done value e = absurd (cc)

-- ---- the item of a name

-- an item that may be held: it is there under its name, and no view
record MayHold (all : List Item) (name : List ℕ) (item : Item) : Type 0 where
  there : Has item all
  called : bytes_eq name item.name ≡ true
  no_view : is_view item.kind ≡ false

-- what a name is found as
named_is : (name : List ℕ) (o : Option Item) (item : Item) → ◌≡◌ {A = Step Item} (item_of name o) (Ok item) → o ≡ Some item
named_is name None item e = absurd (cc)
named_is name (Some x) item e = let same : x ≡ item = cc in ap Some same

-- so is one that a name finds
held_is : (all : List Item) (name : List ℕ) → IfOk (held_item all name) (MayHold all name)
held_is all name =
    then_ok (item_of name (named name all)) _ (MayHold all name)
    (λ item is. let own = found (λ x. bytes_eq name x.name) all item (named_is name (named name all) item is) in
    by item own.0 own.1 (is_view item.kind) refl)
  where
    by : (item : Item) → bytes_eq name item.name ≡ true → Has item all → (view : Bool) → is_view item.kind ≡ view
        → IfOk (cond view (Err (refusal.WrongType name)) (Ok item)) (MayHold all name)
    by item called there true e = tt
    by item called there false e = record { there = there; called = called; no_view = e }

-- ---- its collection

-- what a test finds, another does that passes all of it
any_of : (f g : Collection → Bool) → ((c : Collection) → f c ≡ true → g c ≡ true) → (cs : List Collection) → list_any f cs ≡ true
    → list_any g cs ≡ true
any_of f g h [] e = e
any_of f g h (c ∷ cs) e = elim (or_cases (f c) (list_any f cs) e) [
  | inl own ↦ or_left (g c) (list_any g cs) (h c own)
  | inr later ↦ or_right (g c) (list_any g cs) (any_of f g h cs later)
]

-- it finds a member
any_finds : (f : Collection → Bool) (cs : List Collection) → list_any f cs ≡ true → (c : Collection) × (find f cs ≡ Some c)
any_finds f [] e = absurd (false≢true e)
any_finds f (c ∷ cs) e = by (f c) refl (any_finds f cs)
  where
    by : (b : Bool) → f c ≡ b → (list_any f cs ≡ true → (d : Collection) × (find f cs ≡ Some d)) → (d : Collection) × (find f (c ∷ cs) ≡ Some d)
    by true is later = (c, cond-true _ _ _ is)
    by false is later =
        let rest = later (sym (ap (λ b. b || list_any f cs) is) ∙ e) in (rest.0, cond-false _ _ _ is ∙ rest.1)

-- and is found by one that it passes
has_any : (f : Collection → Bool) (c : Collection) (cs : List Collection) → Has c cs → f c ≡ true → list_any f cs ≡ true
has_any f c [] h e = absurd h
has_any f c (d ∷ cs) (inl same) e = or_left (f d) (list_any f cs) (ap f same ∙ e)
has_any f c (d ∷ cs) (inr later) e = or_right (f d) (list_any f cs) (has_any f c cs later e)

-- the collection that is called so is in the catalog
called_there : (name : List ℕ) (cs : List Collection) → list_any (is_called name) cs ≡ true
    → list_any (λ c. (c.number == collection_called name cs) && is_in_catalog c) cs ≡ true
called_there name cs e =
    let it = any_finds (is_called name) cs e in
    let own = found (is_called name) cs it.0 it.1 in
    subst (λ n. list_any (λ c. (c.number == n) && is_in_catalog c) cs ≡ true) (sym (ap (λ o. option_map_or (λ c. c.number) o 0) it.1))
    (has_any (λ c. (c.number == it.0.number) && is_in_catalog c) it.0 cs own.1
    (and_from (it.0.number == it.0.number) (is_in_catalog it.0) (eq-eqb it.0.number it.0.number refl)
    (and_parts (is_in_catalog it.0) (bytes_eq it.0.name name) own.0).0))

-- an item that may be held has one that is called so
hold_there : (log : Log) → Good log → (name : List ℕ) (item : Item) → MayHold (items log) name item
    → list_any (is_called name) (collections log) ≡ true
hold_there log good name item may =
    let same : name ≡ item.name = (bytes_eq-Decides name item.name).0 may.called in
    any_of (is_of item) (is_called name)
    (λ c e. let parts = and_parts (is_in_catalog c) ((c.item == item.id) && bytes_eq c.name item.name) e in
    and_from (is_in_catalog c) (bytes_eq c.name name) parts.0
    (ap (bytes_eq c.name) same ∙ (and_parts (c.item == item.id) (bytes_eq c.name item.name) parts.1).1))
    (collections log)
    (each_has (λ x. is_view x.kind ≡ false → list_any (is_of x) (collections log) ≡ true) item (items log) (items_found log good.legal) may.there
    may.no_view)

-- what holds of what a step gives
given_is : (step : Step Item) (item : Item) (P : Item → Type 0) → IfOk step P → step ≡ Ok item → P item
given_is (Ok x) item P h e = let same : x ≡ item = cc in subst P same h
given_is (Err refusal) item P h e = absurd (cc)

-- so a hold is taken
pub acquire_good : (log : Log) (name : List ℕ) (time : ℕ) → Good log → Good (after (acquire_given log name time).entries log)
acquire_good log name time good =
    step_good log _ good
    (then_ok (held_item (items log) name) _ (IsEvent log) (λ item is.
    past (nat_lt (read_time log) time) (refusal.AfterRead time (read_time log)) _ (IsEvent log) (λ readable.
    then_ok (not_before time (since log (collection_called name (collections log)))) _ (IsEvent log) (λ value early. record {
      next_hold = refl;
      present = called_there name (collections log)
          (hold_there log good name item (given_is (held_item (items log) name) item (MayHold (items log) name) (held_is (items log) name) is));
      at_since = not_too_early time (since log (collection_called name (collections log))) value early;
      readable = ltb-false (read_time log) time readable;
    }))))
