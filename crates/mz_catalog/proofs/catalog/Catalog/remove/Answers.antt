use Rattle.std.proofs.Common.{cond, sym, ap, subst, ◌∙◌}
use Rattle.std.specs.Map.{values_of}
use Rattle.std.specs.Option.{IfSome, IsSome}
use Rattle.mz_plan.specs.Items.{numbered, oldest_index}
use Rattle.mz_catalog.specs.Keyed.{IsKept}
use Rattle.mz_catalog.specs.Oldest.{is_at, kept_at}
use Rattle.mz_catalog.proofs.OldestLemmas.{kept-place, oldest-others}
use Rattle.mz_catalog.proofs.StoredLemmas.{stored-others}
use Rattle.mz_catalog.proofs.catalog.Catalog.remove.Goals as goal

-- for the place of an index that is there a number is kept
pub renew-requires : goal.renew-requires
renew-requires c =
    let at = ap (λ s. numbered c.args.id s.items) c.self.view_is ∙ c.item.ensures.item in
    subst (λ place. IfSome place (λ there. IsSome (kept_at c.self.inside.oldest.entries there))) (sym c.index_place-place.ensures)
    (kept-place c.self.inside.oldest.entries c.args.id
    (values_of c.self.inside.items.entries) c.item.result.now c.self.invariant.indexes at)

-- where none was taken out all is as before
pub invariant_of-self : goal.invariant_of-self
invariant_of-self c = subst (λ es. IsKept es c.self.inside.oldest.entries c.self.inside.next)
    (sym c.in_err-take_out.ensures.err) c.self.invariant

-- the other items are a catalog, and the oldest index of the place was looked for among them
pub invariant_of-self-2 : goal.invariant_of-self-2
invariant_of-self-2 c =
    let at = ap (λ s. numbered c.args.id s.items) c.self.view_is ∙ c.item.ensures.item in
    record {
      stored =
          stored-others c.self.inside.items.entries c.take_out.new.items.entries c.self.inside.next c.args.id c.self.invariant.stored
          c.in_ok-take_out.ensures.keyed c.in_ok-take_out.ensures.ok;
      indexes =
          oldest-others c.self.inside.oldest.entries c.renew.new.oldest.entries c.args.id (values_of c.self.inside.items.entries)
          (values_of c.take_out.new.items.entries) c.item.result.now c.self.invariant.indexes c.self.invariant.stored.catalog.numbers at
          c.in_ok-take_out.ensures.ok
          (λ other. c.renew.ensures other
          ∙ ap (λ place. cond (is_at other place) (oldest_index (values_of c.take_out.new.items.entries) other.1 other.0)
          (kept_at c.self.inside.oldest.entries other))
          c.index_place-place.ensures);
    }
