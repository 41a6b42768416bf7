use Rattle.std.proofs.Common.{◌≡◌, ◌+◌, sym, subst, rules, ◌∙◌}
use Rattle.mz_updates.specs.Contents.{between, up_to, IsBefore}
use Rattle.mz_updates.proofs.ContentsLaws.{between-up_to, IsBefore-up_to}
use Rattle.mz_updates.proofs.updates.Updates.contents.Goals as goal

-- what is copied is up to the time
pub bag_of_updates-requires-clause-before : goal.bag_of_updates-requires-clause-before
bag_of_updates-requires-clause-before c =
    let all : c.deref.result.now ≡ c.args.self.now = search rules in
    let same : between 0 (c.number.result + 1) c.deref.result.now ≡ up_to c.args.t c.args.self.now =
    (λ i. between 0 (c.number.ensures.value i + 1) (all i)) ∙ between-up_to c.args.t c.args.self.now in
    subst (IsBefore (c.args.t + 1)) (sym (c.in_ok-updates.ensures ∙ same)) (IsBefore-up_to c.args.t c.args.self.now)
