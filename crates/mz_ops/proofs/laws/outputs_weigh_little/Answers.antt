use Rattle.mz_ops.specs.Step.{StandsBefore}
use Rattle.mz_ops.proofs.OutputLaws.{output_mass}
use Rattle.mz_ops.proofs.laws.outputs_weigh_little.Goals as goal

-- what changes is the difference of both
pub returns : goal.returns
returns g c = λ op new upper next t us vs left right out stand step once late.
    output_mass (g.C.Changing.meaning op) (g.C.Changing.stands op) (StandsBefore next (g.C.Changing.stands new)) upper t us vs left right out step stand once late
