-- what was read so far was answered, and neither count of faults has fallen
use Rattle.std.proofs.Common.{◌-◌, ◌≤◌}
use Rattle.mz_shell.specs.Runs.{longest_input}
use Rattle.mz_shell.specs.Reading.{IsGoing}
use Rattle.mz_shell.proofs.script.Script.read_all.Given as goal

abbrev pub invariant-pieces : goal.invariant-pieces
invariant-pieces g l =
    let left = g.S.Source.left in
    let written = g.K.Sink.written in
    record {
      going : IsGoing (left l.fn.source) (left l.source) (written l.fn.sink) (written l.sink)
          (g.C.Carrier.stands l.self.carrier) (g.C.Carrier.lines l.self.carrier) l.self.waiting.items l.count;
      source_later : g.S.Source.faults l.fn.source ≤ g.S.Source.faults l.source;
      sink_later : g.K.Sink.faults l.fn.sink ≤ g.K.Sink.faults l.sink;
    }

abbrev pub decreases-pieces : goal.decreases-pieces
decreases-pieces g l = longest_input - l.count
