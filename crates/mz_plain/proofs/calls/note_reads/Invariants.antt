use Rattle.std.proofs.Common.{◌≡◌, drop, length, map}
use Rattle.std.specs.List.{AllByRecursion as Each}
use Rattle.mz_kept.specs.Steps.{with_replies}
use Rattle.mz_core.specs.Told.{IsNumberOf}
use Rattle.mz_plain.proofs.calls.note_reads.Given as goal

-- the replies that are still to be noted make all of them, and are to sessions
abbrev pub invariant-reads : goal.invariant-reads
invariant-reads l = record {
  noted : with_replies l.sessions.items (map (λ read. read.session) (drop l.read-index l.reads))
      ≡ with_replies l.initial.sessions.items (map (λ read. read.session) l.reads);
  owners : Each (λ read. IsNumberOf (length l.sessions.items) read.session) (drop l.read-index l.reads);
}
