use Rattle.std.proofs.Common.{◌≡◌, ◌∷◌, ◌++◌, sym, ap, subst, ◌∙◌, List, ℕ, bytes_eq}
use Rattle.std.specs.List.{IsDistinct}
use Rattle.std.specs.Map.{keys_of}
use Rattle.std.specs.Cmp.Lexicographic.{nat_list_eq_equiv}
use Rattle.indexmap.proofs.MapLemmas.{absent_before}
use Rattle.mz_plan.specs.declared.item.Item.{Item}
use Rattle.mz_catalog.proofs.entries.copied.Goals as goal

-- names are distinct, so none comes a second time
pub push-requires : goal.push-requires
push-requires c =
    let entry : List ℕ × Item = (c.in-Some.name.now, c.in-Some.item.now) in
    let next : c.entries.name-iterator ≡ entry ∷ c.next.new.self = c.in-Some.ensures.steps in
    let all : c.args.items.now.entries ≡ c.entries.copy.entries ++ entry ∷ c.next.new.self =
    sym c.entries.invariant ∙ ap (λ rest. c.entries.copy.entries ++ rest) next in
    let once = subst (λ (es : List (List ℕ × Item)). IsDistinct bytes_eq (keys_of es)) all c.len.ensures.unique in
    rw c.in_ok-try_copy.ensures (absent_before nat_list_eq_equiv c.entries.copy.entries c.next.new.self entry once)
