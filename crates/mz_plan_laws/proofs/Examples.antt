-- The definitions on small values, by computation.
use Rattle.std.proofs.Common.{◌≡◌, [], ◌∷◌, refl}
use Rattle.mz_statement.specs.declared.column.ColumnType.TheVariants as kind
use Rattle.mz_plan.specs.Leaves.{leaves_of, new_number, renamed}
use Rattle.mz_plan.specs.Meaning.{Leaves, index_rows}
use Rattle.mz_plan.specs.PlanTypes.{types_over}
use Rattle.mz_plan.specs.declared.aggregate.Aggregate.TheVariants.{Count, Max}
use Rattle.mz_plan.specs.declared.plan.Plan.{Plan}
use Rattle.mz_plan.specs.declared.plan.Plan.TheVariants.{Table, Index, Union, Group}

-- an index over an index has its rows, where the newest stands first
newest_first : (tables : Leaves) → index_rows tables ((2, Index 1) ∷ (1, Table 0) ∷ []) 2 ≡ tables 0
newest_first tables = refl

-- and none in the other order
oldest_first : (tables : Leaves) → index_rows tables ((1, Table 0) ∷ (2, Index 1) ∷ []) 2 ≡ []
oldest_first tables = refl

-- a leaf that is named twice is in the list twice, and each has its new number
listed_twice : leaves_of (renamed (new_number ((1, 7) ∷ [])) (Union (Index 1) (Union (Table 0) (Index 1)))) ≡ 7 ∷ 0 ∷ 7 ∷ []
unfolding Rattle.mz_plan.specs.declared.plan.Plan.TheBlock.hidden-the_row-Plan-0 denote.Hole.Carrier.hidden
listed_twice = refl

-- the types of a group are those of its keys and of its aggregates
group_types : types_over (λ item. kind.Int ∷ kind.Text ∷ []) (λ item. []) (Group (Table 0) (1 ∷ []) (Count ∷ Max 0 ∷ []))
    ≡ kind.Text ∷ kind.Wide ∷ kind.Int ∷ []
unfolding Rattle.mz_plan.specs.declared.plan.Plan.TheBlock.hidden-the_row-Plan-0 denote.Hole.Carrier.hidden
group_types = refl
