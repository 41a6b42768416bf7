use Rattle.std.proofs.Common.{[], ◌∷◌, Some, sym, ap, ◌∙◌}
use Rattle.std.specs.Option.{option_map}
use Rattle.std.proofs.lemmas.Result.{on_ok_weaker}
use Rattle.mz_resolve.specs.Known.{stands_for}
use Rattle.mz_resolve.proofs.ClimbLemmas.{climbs_unknown, path_there}
use Rattle.mz_resolve.proofs.reached.learn.Goals as goal

-- what waits is there
pub climb-requires-clause-there : goal.climb-requires-clause-there
climb-requires-clause-there c =
    path_there c.args.known.now.entries c.args.catalog.now.items c.args.waiting.now.items (c.args.item.now.id ∷ []) c.requires.path

-- what the item stands for
pub climb-requires-clause-stands : goal.climb-requires-clause-stands
climb-requires-clause-stands c =
    ap (option_map (stands_for c.args.catalog.now c.args.cluster)) c.requires.there
    ∙ ap Some (sym (c.in_ok-kept.ensures (stands_for c.args.catalog.now c.args.cluster c.args.item.now) c.item_relation.ensures))

-- the topmost waited
pub keep-requires : goal.keep-requires
keep-requires c =
    climbs_unknown c.args.known.now.entries c.args.catalog.now c.args.cluster c.args.waiting.now.items c.args.item.now.id
    c.climb.new.waiting.items _ _ c.requires.path c.in_ok-top.ensures

-- it is known
pub returns-clause-ok : goal.returns-clause-ok
returns-clause-ok c =
    on_ok_weaker c.keep.result (λ known_is. record { top = _; kept = _; climbs = c.in_ok-top.ensures; known_is = known_is }) c.keep.ensures.ok
