use Rattle.std.proofs.Common.{◌≡◌, ◌+◌, ◌++◌, ◌∷◌, [], true, ap, subst, sym, ◌∙◌, length, map, take}
use Rattle.std.proofs.lemmas.List.{take-append-le}
use Rattle.std.specs.List.{AllByRecursion as Each}
use Rattle.mz_time.specs.declared.frontier.Frontier.TheVariants.{At, Done}
use Rattle.mz_time.specs.Frontier.{Le}
use Rattle.mz_rules.specs.Capabilities.{of_hold}
use Rattle.mz_rules.specs.Frontiers.{is_at}
use Rattle.mz_rules.specs.Since.{since_of}
use Rattle.mz_collections.specs.CollectionBook.{IsMade}
use Rattle.mz_collections.specs.Kept.{AreAtRest}
use Rattle.mz_collections.proofs.Changing.{rest_made}
use Rattle.mz_collections.proofs.Standing.{kept_made, marked_grown}
use Rattle.mz_collections.proofs.collections.Collections.create.Goals as goal

-- it has the next number, and reads what isn't done
pub invariant_of-self-2 : goal.invariant_of-self-2
invariant_of-self-2 c =
    let s = c.self.inside in
    let inv = c.self.invariant in
    let new = c.made_with.result in
    let many : c.len.result ≡ length s.all.items = c.len.ensures ∙ s.all.ok.0 in
    let counted : new.collection.number ≡ c.len.result + 1 = ap (λ x. x.collection.number) c.made_with.ensures in
    let number : new.collection.number ≡ length s.all.items + 1 = counted ∙ ap (λ n. n + 1) many in
    let at : is_at new.since ≡ true = ap (λ x. is_at x.since) c.made_with.ensures in
    let inputs : new.collection.inputs ≡ c.args.new.inputs = ap (λ x. x.collection.inputs) c.made_with.ensures in
    let made : Each (IsMade s.all.items) new.collection.inputs
    = subst (Each (IsMade s.all.items)) (sym inputs) (subst (λ v. Each (IsMade v.present.all) c.args.new.inputs) (sym c.self.view_is) c.requires.made) in
    let readable : Each (λ input. Le (since_of input s.all.items) (At c.args.new.as_of)) new.collection.inputs
    = subst (Each (λ input. Le (since_of input s.all.items) (At c.args.new.as_of))) (sym inputs)
    (subst (λ v. Each (λ input. Le (since_of input v.present.all) (At c.args.new.as_of)) c.args.new.inputs) (sym c.self.view_is) c.requires.readable) in
    let all = c.in_ok-push.ensures.items in
    let told : c.push-2.new.self.items ≡ c.make_room.new.told.items ++ At c.zero.result ∷ [] = rw c.unwrap.ensures at c.push-2.ensures.items in
    let over : c.push-3.new.self.items ≡ c.make_room.new.over.items ++ Done ∷ [] = rw c.unwrap-2.ensures at c.push-3.ensures.items in
    let live : c.push-4.new.self.items ≡ c.make_room.new.live.items ++ (c.len.result + 1) ∷ [] = rw c.unwrap-3.ensures at c.push-4.ensures.items in
    let live_is : c.push-4.new.self.items ≡ s.live.items ++ new.collection.number ∷ []
    = live ∙ (λ i. c.make_room.ensures.live i ++ sym counted i ∷ []) in (
      kept_made s.all.items c.push.new.self.items s.told.items c.push-2.new.self.items s.over.items c.push-3.new.self.items s.live.items c.push-4.new.self.items new (At c.zero.result)
          inv.0 number at made all (told ∙ ap (λ fs. fs ++ At c.zero.result ∷ []) c.make_room.ensures.told) (over ∙ ap (λ fs. fs ++ Done ∷ []) c.make_room.ensures.over) live_is,
      marked_grown s.all.items c.push.new.self.items s.live.items c.push-4.new.self.items s.mark s.live_mark new new.collection.number inv.1 all live_is,
      rest_made (map of_hold s.holds.present.live) (map of_hold s.peeks.present.live) s.all.items c.push.new.self.items new c.args.new.as_of inv.0.numbered at readable all inv.2,
      subst (AreAtRest (map of_hold s.holds.marked.live) (map of_hold s.peeks.marked.live)) (sym (ap (take s.mark) all ∙ take-append-le s.mark s.all.items (new ∷ []) inv.1.within)) inv.3,
    )
