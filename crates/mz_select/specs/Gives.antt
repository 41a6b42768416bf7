-- How what code gives is tied to the steps of the definition.
use Rattle.std.specs.Prelude.{◌≡◌, Result, Ok, Err}
use Rattle.mz_resolution.specs.Steps.{Step}
use Rattle.mz_refusal.specs.declared.fault.CallFault.{CallFault}
use Rattle.mz_refusal.specs.declared.fault.CallFault.TheVariants.{Refused, Memory}

-- a fault of the code is the refusal of the step, or want of memory
abbrev pub Fails : {A : Type 0} → CallFault → Step A → Type 0
Fails Memory step = Unit {0}
Fails (Refused refusal) step = step ≡ Err refusal

-- what the code gives, as view sees it, is what the step gives, unless memory runs out
abbrev pub Gives : {A B : Type 0} → (A → B) → Result A CallFault → Step B → Type 0
Gives view (Ok x) step = step ≡ Ok (view x)
Gives view (Err fault) step = Fails fault step

-- what the code gives is what the step gives, unless memory runs out
abbrev pub Is : {A : Type 0} → Result A CallFault → Step A → Type 0
Is (Ok x) step = step ≡ Ok x
Is (Err fault) step = Fails fault step
