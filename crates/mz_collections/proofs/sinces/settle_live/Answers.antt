use Rattle.std.proofs.Common.{◌≡◌, ◌+◌, ◌-◌, ◌++◌, true, false, true≢false, refl, map, subst, sym, ◌∙◌, arith}
use Rattle.mz_rules.specs.Capabilities.{of_hold}
use Rattle.mz_collections.specs.Pass.{IsHalfway}
use Rattle.mz_collections.proofs.Halfway.{can_settle, halfway_end, halfway_step, next_found, next_live}
use Rattle.mz_collections.proofs.sinces.settle_live.Goals as goal

-- the next is the newest of those that are left
pub settle_at-requires : goal.settle_at-requires
settle_at-requires c =
    let kept = map of_hold c.args.holds.now.present.live ++ map of_hold c.args.peeks.now.present.live in
    let q = c.down.place - 1 in
    let before = c.args.all.now.items in
    let number = c.index-number.result.now in
    let back : c.down.place ≡ q + 1 = omega (arith, c.down-test.true) in
    let h = subst (IsHalfway kept before c.down.all.items c.down.over.items c.down.live.items) back c.down.invariant.halfway in
    can_settle kept before c.down.all.items c.down.over.items c.down.live.items q number h c.requires.numbered c.requires.older (c.down.invariant.as_many ∙ c.requires.as_many)
    (next_live kept before c.down.all.items c.down.over.items c.down.live.items q number number h c.index-number.ensures)

-- it is done, and left out
pub down-preserved-then-not-settle_at : goal.down-preserved-then-not-settle_at
down-preserved-then-not-settle_at c =
    let hs = map of_hold c.args.holds.now.present.live in
    let ps = map of_hold c.args.peeks.now.present.live in
    let kept = hs ++ ps in
    let q = c.down.place - 1 in
    let before = c.args.all.now.items in
    let number = c.index-number.result.now in
    let back : c.down.place ≡ q + 1 = omega (arith, c.down-test.true) in
    let h = subst (IsHalfway kept before c.down.all.items c.down.over.items c.down.live.items) back c.down.invariant.halfway in
    let l = next_live kept before c.down.all.items c.down.over.items c.down.live.items q number number h c.index-number.ensures in
    let one = c.settle_at.ensures l.s (next_found kept before c.down.all.items c.down.over.items c.down.live.items q number h c.requires.numbered l) in
    let gone : c.settle_at.result ≡ false = c.if-not-settle_at.true in
    record {
      halfway = halfway_step hs ps before c.down.all.items c.settle_at.new.all.items c.down.over.items c.settle_at.new.over.items c.down.live.items c.remove.new.self.items q number c.settle_at.result
          h c.requires.numbered c.requires.older c.requires.rest l one ((λ k. absurd (true≢false (sym k ∙ gone))), (λ k. c.remove.ensures.items));
      as_many = one.as_many ∙ c.down.invariant.as_many;
    }

-- it isn't done
pub down-preserved : goal.down-preserved
down-preserved c =
    let hs = map of_hold c.args.holds.now.present.live in
    let ps = map of_hold c.args.peeks.now.present.live in
    let kept = hs ++ ps in
    let q = c.down.place - 1 in
    let before = c.args.all.now.items in
    let number = c.index-number.result.now in
    let back : c.down.place ≡ q + 1 = omega (arith, c.down-test.true) in
    let h = subst (IsHalfway kept before c.down.all.items c.down.over.items c.down.live.items) back c.down.invariant.halfway in
    let l = next_live kept before c.down.all.items c.down.over.items c.down.live.items q number number h c.index-number.ensures in
    let one = c.settle_at.ensures l.s (next_found kept before c.down.all.items c.down.over.items c.down.live.items q number h c.requires.numbered l) in
    let live : c.settle_at.result ≡ true = c.if-not-settle_at.false in
    record {
      halfway = halfway_step hs ps before c.down.all.items c.settle_at.new.all.items c.down.over.items c.settle_at.new.over.items c.down.live.items c.down.live.items q number c.settle_at.result
          h c.requires.numbered c.requires.older c.requires.rest l one ((λ k. refl), (λ k. absurd (true≢false (sym live ∙ k))));
      as_many = one.as_many ∙ c.down.invariant.as_many;
    }

-- at the end none is left
pub returns-clause-settled : goal.returns-clause-settled
returns-clause-settled c =
    (halfway_end _ _ c.args.all.now.items c.down.all.items c.down.over.items c.down.live.items c.down.place c.requires.rest c.down.invariant.halfway (omega (arith, c.down-test.false))).settled

pub returns-clause-listed : goal.returns-clause-listed
returns-clause-listed c =
    (halfway_end _ _ c.args.all.now.items c.down.all.items c.down.over.items c.down.live.items c.down.place c.requires.rest c.down.invariant.halfway (omega (arith, c.down-test.false))).listed

pub returns-clause-idle : goal.returns-clause-idle
returns-clause-idle c =
    (halfway_end _ _ c.args.all.now.items c.down.all.items c.down.over.items c.down.live.items c.down.place c.requires.rest c.down.invariant.halfway (omega (arith, c.down-test.false))).idle
