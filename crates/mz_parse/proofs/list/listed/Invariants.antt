use Rattle.std.proofs.Common.{length}
use Rattle.mz_parse.specs.Reading.{listed}
use Rattle.mz_parse.proofs.Turns.{SoFar}
use Rattle.mz_parse.proofs.list.listed.Given as goal

-- what was read, with what is still to be read, is the list
abbrev pub invariant-members : goal.invariant-members
invariant-members g l = SoFar l.key (g.R.Reader.reads l.reader) l.list.items (length l.initial.rest) l.counter l.rest (listed l.key (g.R.Reader.reads l.reader) l.fn.tokens)
