use Rattle.std.proofs.Common.{◌+◌, None, Some, cond, sym, ap, subst, ◌∙◌}
use Rattle.std.specs.Map.{values_of}
use Rattle.std.specs.Option.{option_or}
use Rattle.mz_plan.specs.declared.item.Item.{Item}
use Rattle.mz_catalog.specs.Keyed.{IsKept, IsStored}
use Rattle.mz_catalog.specs.Oldest.{KeepsOldest, is_at, kept_at}
use Rattle.mz_catalog.proofs.OldestLemmas.{oldest-push}
use Rattle.mz_catalog.proofs.StoredLemmas.{stored-push, values-push}
use Rattle.mz_catalog.proofs.catalog.Catalog.add.Goals as goal

-- where there is no room all is as before
pub invariant_of-self : goal.invariant_of-self
invariant_of-self c = subst (λ os. IsKept c.self.inside.items.entries os c.self.inside.next)
    (sym c.in_err-make_room.ensures.entries) c.self.invariant

-- an item that isn't refused keeps the catalog one, and is noted where it is an index
pub invariant_of-self-2 : goal.invariant_of-self-2
invariant_of-self-2 c =
    let last : Item = record c.args.item { id = c.self.inside.next } in
    record {
      stored =
          subst (IsStored c.put.new.items.entries) (sym c.in_ok-next.ensures.ok)
          (subst (λ es. IsStored es (c.self.inside.next + 1)) (sym c.in_ok-put.ensures.ok)
          (stored-push c.self.inside.items.entries c.self.inside.next c.args.item c.self.invariant.stored c.in_ok-put.ensures.free));
      indexes =
          subst (KeepsOldest c.note.new.oldest.entries)
          (sym (ap values_of c.in_ok-put.ensures.ok ∙ values-push c.self.inside.items.entries (c.args.item.name, last)))
          (oldest-push c.self.inside.oldest.entries c.note.new.oldest.entries
          (values_of c.self.inside.items.entries) last c.self.invariant.indexes
          (λ other. c.note.ensures other
          ∙ (λ i. option_or (kept_at (c.in_ok-make_room.ensures.entries i) other)
          (cond (is_at other (c.index_place-place.ensures i)) (Some c.self.inside.next) None))));
    }
