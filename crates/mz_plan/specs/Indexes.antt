-- The plans of the indexes that were made: in which order they stand, and what a plan is without indexes.
use Rattle.std.specs.Prelude.{◌<◌, ◌==◌, ℕ, Bool, true, ◌&&◌, List, [], ◌∷◌, nat_lt, if◌then◌else◌, ⊤}
use Rattle.std.specs.List.{AllByRecursion as Each, list_all}
use Rattle.mz_plan.specs.Leaves.{AllBelow}
use Rattle.mz_plan.specs.declared.plan.Plan.{Plan, Table, Index, Filter', Project', Join', Union', Group', Distinct', more_of-Plan, end_of-Plan}
use Rattle.mz_plan.specs.declared.plan.Plan.TheVariants as node

-- numbers descend: each is above those behind it
abbrev pub descend : List (ℕ × Plan) → Bool
descend [] = true
descend (newest ∷ older) = list_all (λ index. nat_lt index.0 newest.0) older && descend older

-- the newest index stands first: each has a greater number than those behind it, and its plan names lesser numbers than its own
-- alone. In another order an index over an index would have no row
abbrev pub AreNewestFirst : List (ℕ × Plan) → Type 0
AreNewestFirst [] = ⊤
AreNewestFirst (newest ∷ older) =
    AllBelow newest.0 newest.1 × Each (λ index. index.0 < newest.0) older × AreNewestFirst older

-- the plan with another plan in the place of each index that it names, which a function gives of the index's number
abbrev pub expanded : (ℕ → Plan) → Plan → Plan
expanded of_index (Table item) = node.Table item
expanded of_index (Index item) = of_index item
expanded of_index (Filter' s (more_of-Plan below end_of-Plan) cond) = node.Filter (expanded of_index below) cond
expanded of_index (Project' s (more_of-Plan below end_of-Plan) places) = node.Project (expanded of_index below) places
expanded of_index (Join' s (more_of-Plan left end_of-Plan) r (more_of-Plan right end_of-Plan) pairs) =
    node.Join (expanded of_index left) (expanded of_index right) pairs
expanded of_index (Union' s (more_of-Plan left end_of-Plan) r (more_of-Plan right end_of-Plan)) =
    node.Union (expanded of_index left) (expanded of_index right)
expanded of_index (Group' s (more_of-Plan below end_of-Plan) places aggregates) =
    node.Group (expanded of_index below) places aggregates
expanded of_index (Distinct' s (more_of-Plan below end_of-Plan)) = node.Distinct (expanded of_index below)

-- the plan of an index over tables alone, given the plans of all with the newest first. What is no index stays
abbrev pub index_plans : List (ℕ × Plan) → ℕ → Plan
index_plans [] item = node.Index item
index_plans (newest ∷ older) item = if newest.0 == item then expanded (index_plans older) newest.1 else index_plans older item
