-- what the lines did so far, with what is left, is what all do
use Rattle.std.proofs.Common.{◌+◌, ◌≤◌, length, string_bytes}
use Rattle.mz_script.specs.ScriptLine.{Machine}
use Rattle.mz_shell.specs.Carrier.{IsCarrying}
use Rattle.mz_shell.specs.Lines.{lines_of}
use Rattle.mz_shell.proofs.ReadingLemmas.{HasDone}
use Rattle.mz_shell.proofs.script.answer_lines.Given as goal

abbrev pub invariant-lines : goal.invariant-lines
invariant-lines g l =
    let stands = g.C.Carrier.stands in
    let lines = g.C.Carrier.lines in
    record {
      some : IsCarrying (stands l.carrier);
      few : lines l.carrier + length l.rest ≤ lines l.initial.carrier + length l.initial.rest;
      done : (machine : Machine) → stands l.initial.carrier machine
          → HasDone (stands l.carrier) (string_bytes l.initial.text) (string_bytes l.text) machine (lines_of l.initial.rest) (lines_of l.rest);
    }

abbrev pub decreases-lines : goal.decreases-lines
decreases-lines g l = length l.rest
