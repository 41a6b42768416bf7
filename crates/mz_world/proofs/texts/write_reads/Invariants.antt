-- what is written, with the reads that are left, is the text before with all reads
use Rattle.std.proofs.Common.{◌≡◌, ◌++◌, drop, string_bytes}
use Rattle.mz_world.specs.Texts.{reads_text}
use Rattle.mz_world.proofs.texts.write_reads.Given as goal

abbrev pub invariant-loop-read : goal.invariant-loop-read
invariant-loop-read l =
    string_bytes l.text ++ reads_text l.fn.names.keys (drop l.read-index l.reads)
    ≡ string_bytes l.initial.text ++ reads_text l.fn.names.keys l.initial.reads
