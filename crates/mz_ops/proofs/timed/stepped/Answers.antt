use Rattle.std.proofs.Common.{subst}
use Rattle.mz_bag.specs.Weighted.{Weighted}
use Rattle.mz_ops.specs.Change.{ReadsCounts}
use Rattle.mz_ops.specs.Step.{StandsBefore}
use Rattle.mz_ops.proofs.StepLaws.{step_out, step_same}
use Rattle.mz_ops.proofs.Telling.{bears_sums, same_bears}
use Rattle.mz_ops.proofs.timed.stepped.Goals as goal

-- what changes at one time is within the bound
pub queued-requires : goal.queued-requires
queued-requires g c = (bears_sums (g.C.Changing.stands c.args.core.now) (g.C.Changing.load c.args.core.now) c.args.now.now c.args.upper c.args.left.now c.args.right.now
    (g.met.C.Changing.loads c.args.core.now) c.requires.bears c.requires.left_from c.requires.left_before c.requires.right_from c.requires.right_before).0

pub queued-requires-2 : goal.queued-requires-2
queued-requires-2 g c = (bears_sums (g.C.Changing.stands c.args.core.now) (g.C.Changing.load c.args.core.now) c.args.now.now c.args.upper c.args.left.now c.args.right.now
    (g.met.C.Changing.loads c.args.core.now) c.requires.bears c.requires.left_from c.requires.left_before c.requires.right_from c.requires.right_before).1

-- the queues contain what the sides do
pub tell_all-requires : goal.tell_all-requires
tell_all-requires g c = record {
  later = c.requires.later;
  left = record {
    from = c.in_ok-lefts.ensures.from c.args.now.now c.requires.left_from;
    before = c.in_ok-lefts.ensures.before c.args.upper c.requires.left_before;
    once = c.in_ok-lefts.ensures.once;
  };
  right = record {
    from = c.in_ok-rights.ensures.from c.args.now.now c.requires.right_from;
    before = c.in_ok-rights.ensures.before c.args.upper c.requires.right_before;
    once = c.in_ok-rights.ensures.once;
  };
  bears = same_bears (g.C.Changing.stands c.args.core.now) (g.C.Changing.load c.args.core.now) c.args.now.now c.args.upper c.args.left.now c.args.right.now
      c.in_ok-lefts.lefts.items c.in_ok-rights.rights.items c.in_ok-lefts.ensures.contents c.in_ok-rights.ensures.contents c.requires.bears;
}

-- light changes have sums
pub consolidate-requires : goal.consolidate-requires
consolidate-requires g c = c.in_ok-out.ensures.stepped.sums

-- so the step is one of the sides, and of the consolidated output
pub returns-clause-law : goal.returns-clause-law
returns-clause-law g c =
    let reads : ReadsCounts (g.C.Changing.meaning c.args.core.now) (g.C.Changing.stands c.tell_all.new.core) =
    subst (λ (m : Weighted → Weighted → Weighted). ReadsCounts m (g.C.Changing.stands c.tell_all.new.core)) c.in_ok-out.ensures.same
    (g.met.C.Changing.reads c.tell_all.new.core) in
    step_out (g.C.Changing.meaning c.args.core.now) _ _ c.args.left.now c.args.right.now c.in_ok-out.out c.consolidate.new.self c.consolidate.ensures.contents
    (step_same (g.C.Changing.meaning c.args.core.now) (StandsBefore c.args.now.now (g.C.Changing.stands c.args.core.now)) (g.C.Changing.stands c.tell_all.new.core) c.args.upper
    c.in_ok-lefts.lefts.items c.in_ok-rights.rights.items c.in_ok-out.out c.args.left.now c.args.right.now reads
    c.in_ok-lefts.ensures.contents c.in_ok-rights.ensures.contents c.requires.left_before c.requires.right_before c.in_ok-out.ensures.stepped.law)

pub returns-clause-from : goal.returns-clause-from
returns-clause-from g c = c.consolidate.ensures.from c.args.now.now c.in_ok-out.ensures.stepped.from

pub returns-clause-before : goal.returns-clause-before
returns-clause-before g c = c.consolidate.ensures.before c.args.upper c.in_ok-out.ensures.stepped.until
