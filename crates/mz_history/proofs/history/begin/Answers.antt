use Rattle.std.proofs.Common.{◌≡◌, ◌<◌, ◌^◌, ◌++◌, ◌∷◌, [], OnOk, subst}
use Rattle.mz_history.proofs.history.begin.Goals as goal

-- the number of an incarnation fits
pub enter-requires : goal.enter-requires
enter-requires c = subst (λ n. n < 2 ^ 64) c.requires c.ranges.incarnation.fits

pub returns-clause-streams : goal.returns-clause-streams
returns-clause-streams c =
    subst (λ t. OnOk c.enter.result (c.enter.new.streams.items ≡ c.args.streams.now.items ++ t ∷ [])) c.in_ok-stream.ensures c.enter.ensures.streams
