-- what is written, with the values that are left, is the text before with all values
use Rattle.std.proofs.Common.{◌≡◌, ◌++◌, drop, string_bytes}
use Rattle.mz_script.specs.Texts.{more_values_text}
use Rattle.mz_script.proofs.texts.write_more_values.Given as goal

abbrev pub invariant-loop-value : goal.invariant-loop-value
invariant-loop-value l =
    string_bytes l.text ++ more_values_text (drop l.value-index l.values) ≡ string_bytes l.initial.text ++ more_values_text l.initial.values
