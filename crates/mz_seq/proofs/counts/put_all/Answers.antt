use Rattle.std.proofs.Common.{sym, subst, ◌∙◌}
use Rattle.mz_bag.specs.Bag.{Counts}
use Rattle.mz_seq.specs.Stored.{Covers}
use Rattle.mz_seq.proofs.StoredLemmas.{covers_sum, covers_kept}
use Rattle.mz_seq.proofs.UsedLemmas.{no_place}
use Rattle.mz_seq.proofs.counts.put_all.Goals as goal

-- the rows of the change have places
pub returns-clause-covers : goal.returns-clause-covers
returns-clause-covers c =
    covers_kept c.make_places.new.counts.entries c.add_each.new.counts.entries c.merge.new.self
    (λ q none. sym (c.add_each.ensures.places q) ∙ none)
    (covers_sum c.make_places.new.counts.entries c.args.changes.now c.args.change.now c.merge.new.self
    (covers_kept c.args.counts.now.entries c.make_places.new.counts.entries c.args.changes.now c.make_places.ensures.kept c.requires.covers)
    (subst (λ (b : Counts). Covers c.make_places.new.counts.entries b) c.counts.ensures.counts c.in_ok-make_places.ensures.there)
    c.in_ok-merge.ensures.ok)

-- a row that the change doesn't have gets no place
pub returns-in_err-make_places-clause-only : goal.returns-in_err-make_places-clause-only
returns-in_err-make_places-clause-only c q none = c.make_places.ensures.only q (no_place c.counts.result.now.entries c.args.change.now q c.counts.ensures.counts none)

pub returns-in_err-merge-clause-only : goal.returns-in_err-merge-clause-only
returns-in_err-merge-clause-only c q none = c.make_places.ensures.only q (no_place c.counts.result.now.entries c.args.change.now q c.counts.ensures.counts none)

pub returns-clause-only : goal.returns-clause-only
returns-clause-only c q none has =
    c.make_places.ensures.only q (no_place c.counts.result.now.entries c.args.change.now q c.counts.ensures.counts none) (sym (c.add_each.ensures.places q) ∙ has)
