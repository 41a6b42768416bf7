use Rattle.std.proofs.Common.{ap}
use Rattle.std.proofs.Math.ListN.{length-set}
use Rattle.mz_history.specs.StreamBook.{with_line}
use Rattle.mz_history.proofs.Found.{is_at}
use Rattle.mz_history.proofs.Lists.{markeds_set}
use Rattle.mz_history.proofs.Live.{changed_at}
use Rattle.mz_history.proofs.Pushing.{put_same}
use Rattle.mz_history.proofs.streams.push_at.Goals as goal

pub returns-in-Ok-clause-marked : goal.returns-in-Ok-clause-marked
returns-in-Ok-clause-marked c =
    λ m. markeds_set m c.args.place c.args.streams.now.items c.index_mut.result.now c.push.new.self c.index_mut.ensures.value (ap (λ t. t.marked) c.in-Ok.ensures.ok)

pub returns-in-Ok-clause-same_length : goal.returns-in-Ok-clause-same_length
returns-in-Ok-clause-same_length c = length-set c.args.streams.now.items c.args.place c.push.new.self

pub returns-in-Ok-clause-ok : goal.returns-in-Ok-clause-ok
returns-in-Ok-clause-ok c =
    changed_at c.args.replica.now (with_line c.args.line) c.args.streams.now.items c.args.place c.index_mut.result.now c.push.new.self c.requires.apart c.requires.there
    c.index_mut.ensures.value (ap (λ t. t.present) c.in-Ok.ensures.ok)

pub returns-in-Err-clause-marked : goal.returns-in-Err-clause-marked
returns-in-Err-clause-marked c =
    λ m. markeds_set m c.args.place c.args.streams.now.items c.index_mut.result.now c.push.new.self c.index_mut.ensures.value (ap (λ t. t.marked) c.in-Err.ensures.err)

pub returns-in-Err-clause-same_length : goal.returns-in-Err-clause-same_length
returns-in-Err-clause-same_length c = length-set c.args.streams.now.items c.args.place c.push.new.self

pub returns-in-Err-clause-err : goal.returns-in-Err-clause-err
returns-in-Err-clause-err c =
    put_same c.args.place c.args.streams.now.items c.index_mut.result.now c.push.new.self
    (is_at (λ x. Rattle.mz_history.specs.StreamBook.is_of c.args.replica.now x.present) c.args.streams.now.items c.args.place c.requires.there).within
    c.index_mut.ensures.value c.in-Err.ensures.err
