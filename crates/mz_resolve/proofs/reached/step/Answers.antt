use Rattle.std.proofs.Common.{◌≡◌, ◌<◌, [], ◌∷◌, ◌++◌, inl, inr, Some, refl, sym, subst}
use Rattle.std.proofs.lemmas.Result.{on_ok_weaker}
use Rattle.mz_plan.specs.Items.{numbered}
use Rattle.mz_catalog.proofs.ItemLemmas.{id-numbered}
use Rattle.mz_resolve.specs.Waiting.{IsPath, Learns}
use Rattle.mz_resolve.proofs.PathLemmas.{last_waits}
use Rattle.mz_resolve.proofs.reached.step.Goals as goal

-- the item that waits last is there
pub item-item-requires : goal.item-item-requires
item-item-requires c =
    (last_waits c.args.known.now.entries c.args.catalog.now.items c.args.waiting.now.items c.args.id [] c.requires.path).there

-- under its own number
pub learn-requires-clause-there : goal.learn-requires-clause-there
learn-requires-clause-there c =
    subst (λ id. numbered id c.args.catalog.now.items ≡ Some c.item-item.result.now)
    (sym (id-numbered c.args.id c.args.catalog.now.items c.item-item.result.now c.item-item.ensures.item)) c.item-item.ensures.item

-- it waits last
pub learn-requires-clause-path : goal.learn-requires-clause-path
learn-requires-clause-path c =
    subst (λ id. IsPath c.args.known.now.entries c.args.catalog.now.items (c.args.waiting.now.items ++ id ∷ []))
    (sym (id-numbered c.args.id c.args.catalog.now.items c.item-item.result.now c.item-item.ensures.item)) c.requires.path

-- it waits for an older one
pub returns-in-Some-clause-ok : goal.returns-in-Some-clause-ok
returns-in-Some-clause-ok c =
    let same = id-numbered c.args.id c.args.catalog.now.items c.item-item.result.now c.item-item.ensures.item in
    on_ok_weaker c.wait_for.result (λ longer. inl (record {
      older = c.in-Some.older;
      below = subst (λ id. c.in-Some.older < id) same c.in-Some.ensures.below;
      waits = c.in-Some.ensures.waits;
      waiting_is = longer;
      known_is = refl;
    })) c.wait_for.ensures

-- it is resolved
pub returns-in-None-clause-ok : goal.returns-in-None-clause-ok
returns-in-None-clause-ok c =
    let same = id-numbered c.args.id c.args.catalog.now.items c.item-item.result.now c.item-item.ensures.item in
    on_ok_weaker c.learn.result (λ learns. inr (subst (λ id. Learns c.args.catalog.now c.args.cluster c.args.known.now.entries
    c.args.waiting.now.items id c.learn.new.known.entries c.learn.new.waiting.items) same learns)) c.learn.ensures.ok
