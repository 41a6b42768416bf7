-- When what is kept of a script stands for a machine, and what it is that something that is said was carried out.
use Rattle.std.specs.Prelude.{◌≡◌, ℕ, ◌<◌, ◌≤◌, Bool, List, ◌++◌, length}
use Rattle.std.specs.Result.{is_ok}
use Rattle.mz_grammar.specs.Asked.{IsAsked}
use Rattle.mz_grammar.specs.declared.asked.Asked.{Asked}
use Rattle.mz_log.specs.Log.{Log}
use Rattle.mz_books.specs.Given.{begin_given}
use Rattle.mz_books.specs.Rounds.{open_round}
use Rattle.mz_script.specs.ScriptLine.{Machine, Said}
use Rattle.mz_script_laws.specs.Rest.{IsAtRest}
use Rattle.mz_shell.specs.Carrier.{DidLines}
use Rattle.mz_world.specs.declared.world.World.{World}

-- ---- what is kept

-- what is kept is of a machine: the core stands for its log, and what the clock says and how many lines were read is as it has them
pub record IsOf {C : Type 0} (Stands : C → Log → Type 0) (world : World C) (machine : Machine) : Type 0 where
  pub core : Stands world.core machine.log
  pub moment : world.moment ≡ machine.moment
  pub lines : world.lines ≡ machine.lines

-- what is kept is of some machine
pub record HasMachine {C : Type 0} (Stands : C → Log → Type 0) (world : World C) : Type 0 where
  pub machine : Machine
  pub is_of : IsOf Stands world machine

-- what is kept stands for a machine, which is at rest
pub record StandsFor {C : Type 0} (Stands : C → Log → Type 0) (world : World C) (machine : Machine) : Type 0 where
  pub is_of : IsOf Stands world machine
  pub rest : IsAtRest machine

-- ---- what is carried out

-- whatever machine what was kept is of, what is said there was carried out
abbrev pub Carries : {C : Type 0} (Stands : C → Log → Type 0) → World C → World C → List ℕ → List ℕ → (Machine → Said) → Type 0
Carries Stands old new before now said =
    (machine : Machine) → IsOf Stands old machine → DidLines (IsOf Stands new) before now (said machine)

-- whatever machine at rest what was kept stands for, what is said there was carried out
abbrev pub CarriesAtRest : {C : Type 0} (Stands : C → Log → Type 0) → World C → World C → List ℕ → List ℕ → (Machine → Said) → Type 0
CarriesAtRest Stands old new before now said =
    (machine : Machine) → StandsFor Stands old machine → DidLines (StandsFor Stands new) before now (said machine)

-- a round can be begun at the machine
abbrev pub is_begun : Machine → Bool
is_begun machine = is_ok (begin_given machine.log machine.moment (open_round machine.log)).answer
