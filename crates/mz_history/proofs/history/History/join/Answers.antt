use Rattle.std.proofs.Common.{◌≡◌, None, sym, subst}
use Rattle.mz_history.specs.Kept.{AreMarked}
use Rattle.mz_history.specs.StreamBook.{stream_of}
use Rattle.mz_history.proofs.Marks.{kept_joined}
use Rattle.mz_history.proofs.history.History.join.Goals as goal

-- the replica has no other stream
pub invariant_of-self-2 : goal.invariant_of-self-2
invariant_of-self-2 c =
    let h = c.self.inside in
    subst (λ ts. AreMarked ts c.begin.new.joinings.items h.mark h.joined_mark) (sym c.in_ok-begin.ensures.streams)
    (kept_joined h.streams.items h.joinings.items c.begin.new.joinings.items h.mark h.joined_mark _ c.self.invariant
    (subst (λ v. stream_of c.args.replica.now v.present.live ≡ None) (sym c.self.view_is) c.requires) c.in_ok-begin.ensures.longer)
