-- What it is that a script is carried out.
use Rattle.std.specs.Prelude.{◌≡◌, ℕ, List, ◌++◌}
use Rattle.mz_script.specs.ScriptLine.{Machine, Said}

-- the most lines that one who carries a script out has to count
abbrev pub most_lines : ℕ
most_lines = 4294967296

-- who carries a script out stands for some machine
pub record IsCarrying (Stands : Machine → Type 0) : Type 0 where
  pub machine : Machine
  pub stands : Stands machine

-- lines did this, and no more: whoever carries them out stands for the machine after them, and their text was added
pub record DidLines (Stands : Machine → Type 0) (before after : List ℕ) (said : Said) : Type 0 where
  pub stands : Stands said.machine
  pub text : after ≡ before ++ said.text
