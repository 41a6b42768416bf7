-- What is carried out one thing after another.
use Rattle.std.proofs.Common.{◌∙◌, ℕ, List, ◌++◌, ap, append_assoc, Result, Ok, Err, OnOk}
use Rattle.mz_script.specs.ScriptLine.{Machine, Said, and_then}
use Rattle.mz_shell.specs.Carrier.{DidLines}

-- first one thing was carried out, and then another
pub carried_both : {Middle Now : Machine → Type 0} {before middle now : List ℕ} (first : Said) (next : Machine → Said)
    → DidLines Middle before middle first → DidLines Now middle now (next first.machine) → DidLines Now before now (and_then first next)
carried_both first next one two = record {
  stands = two.stands;
  text = two.text ∙ ap (λ xs. xs ++ (next first.machine).text) one.text ∙ append_assoc _ first.text (next first.machine).text;
}

-- the same, where the second found memory
pub carried_then : {A E : Type 0} {Middle : Machine → Type 0} (Now : Machine → Type 0) {before middle : List ℕ} (now : List ℕ) (first : Said)
    (next : Machine → Said) (result : Result A E) → DidLines Middle before middle first
    → OnOk result (DidLines Now middle now (next first.machine)) → OnOk result (DidLines Now before now (and_then first next))
carried_then Now now first next (Ok done) one two = carried_both first next one two
carried_then Now now first next (Err fault) one two = tt
