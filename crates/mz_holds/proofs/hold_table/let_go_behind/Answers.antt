use Rattle.std.proofs.Common.{◌≡◌, ◌+◌, ◌≤◌, ◌++◌, ◌∷◌, [], ap, subst, sym, ◌∙◌, arith, length, take}
use Rattle.std.proofs.lemmas.List.{length-append, take-append-le}
use Rattle.mz_holds.specs.Kept.{AreCounted}
use Rattle.mz_holds.proofs.Tabled.{counted_less, last_counted}
use Rattle.mz_holds.proofs.hold_table.let_go_behind.Goals as goal

-- the last is counted
pub go-requires : goal.go-requires
go-requires c =
    last_counted c.pop.new.self.items c.behind.counted.items c.in-Some.hold
    (subst (λ xs. AreCounted xs c.behind.counted.items) c.in-Some.ensures.items c.behind.invariant.counted)

-- and without it the others are
pub behind-preserved-in-Some : goal.behind-preserved-in-Some
behind-preserved-in-Some c =
    let one : c.behind.live.items ≡ c.pop.new.self.items ++ c.in-Some.hold ∷ [] = c.in-Some.ensures.items in
    let longer : length c.behind.live.items ≡ length c.pop.new.self.items + 1 = ap length one ∙ length-append c.pop.new.self.items (c.in-Some.hold ∷ []) in
    let there : c.len.result ≡ length c.behind.live.items = c.len.ensures ∙ c.behind.live.ok.0 in
    let mark : c.args.mark ≤ length c.pop.new.self.items = omega (arith, c.behind-test.true, there, longer) in
    record {
      mark = mark;
      same = sym (ap (take c.args.mark) one ∙ take-append-le c.args.mark c.pop.new.self.items (c.in-Some.hold ∷ []) mark) ∙ c.behind.invariant.same;
      counted = counted_less c.pop.new.self.items c.behind.counted.items c.go.new.counted.items c.in-Some.hold
          (subst (λ xs. AreCounted xs c.behind.counted.items) one c.behind.invariant.counted) c.go.ensures;
    }
