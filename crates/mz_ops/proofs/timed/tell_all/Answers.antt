use Rattle.std.proofs.Common.{◌≡◌, ℕ, None, refl, sym, subst, ◌∙◌, rules}
use Rattle.mz_bag.specs.Weighted.{Weighted}
use Rattle.mz_ops.specs.Change.{IsBearable, ReadsCounts}
use Rattle.mz_ops.specs.Moments.{first_time}
use Rattle.mz_ops.specs.Stepping.{IsTold}
use Rattle.mz_ops.proofs.Runs.{is_first, none_first}
use Rattle.mz_ops.proofs.Telling.{run_bears, told_all, told_next, under_way}
use Rattle.mz_ops.proofs.timed.tell_all.Goals as goal

-- nothing was told yet
pub times-init : goal.times-init
times-init g c = record {
  told = under_way (g.C.Changing.meaning c.args.core.now) (g.C.Changing.load c.args.core.now) (g.C.Changing.stands c.args.core.now) c.args.now.now c.args.upper
      c.args.lefts.items c.args.rights.items c.empty-out.result c.requires c.empty-out.ensures;
  same = refl;
  same_load = refl;
}

-- the changes of the next time are within the bound
pub tell-requires : goal.tell-requires
tell-requires g c = λ ls rs us vs h k.
    let told = c.times.invariant.told in
    let first = is_first c.in-Some.time c.times.lefts.items c.times.rights.items c.times.invariant.told.first.order c.times.invariant.told.second.order
    (sym c.first_time.ensures ∙ c.in-Some.is) in
    let reads : ReadsCounts (g.C.Changing.meaning c.args.core.now) (g.C.Changing.stands c.times.core) =
    subst (λ (m : Weighted → Weighted → Weighted). ReadsCounts m (g.C.Changing.stands c.times.core)) c.times.invariant.same (g.met.C.Changing.reads c.times.core) in
    subst (λ (l : ℕ → ℕ → ℕ → ℕ → ℕ). IsBearable (g.C.Changing.stands c.times.core) l ls rs) (sym c.times.invariant.same_load)
    (run_bears (g.C.Changing.meaning c.args.core.now) (g.C.Changing.load c.args.core.now) (g.C.Changing.stands c.args.core.now) (g.C.Changing.stands c.times.core)
    c.args.now.now c.args.upper c.args.lefts.items c.args.rights.items c.times.lefts.items c.times.rights.items c.times.out c.in-Some.time us vs ls rs
    (g.met.C.Changing.loads c.args.core.now) reads c.times.invariant.told first h k)

-- and are told
pub times-preserved : goal.times-preserved
times-preserved g c =
    let first = is_first c.in-Some.time c.times.lefts.items c.times.rights.items c.times.invariant.told.first.order c.times.invariant.told.second.order
    (sym c.first_time.ensures ∙ c.in-Some.is) in
    let same = c.in_ok-tell.ensures.same ∙ c.times.invariant.same in
    let reads : ReadsCounts (g.C.Changing.meaning c.args.core.now) (g.C.Changing.stands c.times.core) =
    subst (λ (m : Weighted → Weighted → Weighted). ReadsCounts m (g.C.Changing.stands c.times.core)) c.times.invariant.same (g.met.C.Changing.reads c.times.core) in
    let reads_after : ReadsCounts (g.C.Changing.meaning c.args.core.now) (g.C.Changing.stands c.tell.new.core) =
    subst (λ (m : Weighted → Weighted → Weighted). ReadsCounts m (g.C.Changing.stands c.tell.new.core)) (c.in_ok-tell.ensures.same ∙ c.times.invariant.same) (g.met.C.Changing.reads c.tell.new.core) in
    let told : IsTold (g.C.Changing.meaning c.args.core.now) (g.C.Changing.load c.args.core.now) (g.C.Changing.stands c.times.core) (g.C.Changing.stands c.tell.new.core)
    c.in-Some.time c.times.lefts.items c.times.rights.items c.tell.new.lefts.items c.tell.new.rights.items c.times.out c.tell.new.out =
    subst (λ (l : ℕ → ℕ → ℕ → ℕ → ℕ). IsTold (g.C.Changing.meaning c.args.core.now) l (g.C.Changing.stands c.times.core) (g.C.Changing.stands c.tell.new.core)
    c.in-Some.time c.times.lefts.items c.times.rights.items c.tell.new.lefts.items c.tell.new.rights.items c.times.out c.tell.new.out) c.times.invariant.same_load
    (subst (λ (m : Weighted → Weighted → Weighted). IsTold m (g.C.Changing.load c.times.core) (g.C.Changing.stands c.times.core) (g.C.Changing.stands c.tell.new.core)
    c.in-Some.time c.times.lefts.items c.times.rights.items c.tell.new.lefts.items c.tell.new.rights.items c.times.out c.tell.new.out) c.times.invariant.same
    c.in_ok-tell.ensures.told) in
    record {
      told = told_next (g.C.Changing.meaning c.args.core.now) (g.C.Changing.load c.args.core.now) (g.C.Changing.stands c.args.core.now) (g.C.Changing.stands c.times.core)
          (g.C.Changing.stands c.tell.new.core) c.args.now.now c.args.upper c.args.lefts.items c.args.rights.items c.times.lefts.items c.times.rights.items
          c.tell.new.lefts.items c.tell.new.rights.items c.times.out c.tell.new.out c.in-Some.time
          (g.met.C.Changing.loads c.args.core.now) reads reads_after c.times.invariant.told first told;
      same = c.in_ok-tell.ensures.same ∙ c.times.invariant.same;
      same_load = c.in_ok-tell.ensures.same_load ∙ c.times.invariant.same_load;
    }

-- till nothing is to come
pub returns-clause-stepped : goal.returns-clause-stepped
returns-clause-stepped g c =
    let none : first_time c.times.lefts.items c.times.rights.items ≡ None = search rules in
    told_all (g.C.Changing.meaning c.args.core.now) (g.C.Changing.load c.args.core.now) (g.C.Changing.stands c.args.core.now) (g.C.Changing.stands c.times.core)
    c.args.now.now c.args.upper c.args.lefts.items c.args.rights.items c.times.lefts.items c.times.rights.items c.times.out c.times.invariant.told
    (none_first c.times.lefts.items c.times.rights.items none)
