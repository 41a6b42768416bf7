-- The spine of a plan: the plan and those below it along the first children, where calls of its parts needn't nest.
use Rattle.std.specs.Prelude.{◌≡◌, ℕ, List, [], ◌∷◌, Option, None, Some}
use Rattle.mz_plan.specs.Leaves.{renamed}
use Rattle.mz_plan.specs.declared.plan.Plan.{Plan, Table, Index, Filter', Project', Join', Union', Group', Distinct', more_of-Plan, end_of-Plan}
use Rattle.mz_plan.specs.declared.plan.Plan.TheVariants as node

-- the first plan below, where there is one
abbrev pub first_of : Plan → Option Plan
first_of (Table item) = None
first_of (Index item) = None
first_of (Filter' s (more_of-Plan plan end_of-Plan) cond) = Some plan
first_of (Project' s (more_of-Plan plan end_of-Plan) places) = Some plan
first_of (Join' s (more_of-Plan left end_of-Plan) r right pairs) = Some left
first_of (Union' s (more_of-Plan left end_of-Plan) r right) = Some left
first_of (Group' s (more_of-Plan plan end_of-Plan) places aggregates) = Some plan
first_of (Distinct' s (more_of-Plan plan end_of-Plan)) = Some plan

-- steps from a node to its next one lead from a first one through all of these, and then to the last
abbrev pub Leads : {N : Type 0} → (N → Option N) → Option N → List N → Option N → Type 0
Leads next first [] last = first ≡ last
Leads next first (n ∷ ns) last = (first ≡ Some n) × Leads next (next n) ns last

-- a plan and those below it along the first children, to the last of them
abbrev pub IsSpine : Plan → List Plan → Type 0
IsSpine plan spine = Leads first_of (Some plan) spine None

-- the operator of a plan over another first plan, what else is below it renamed. A leaf is renamed itself
abbrev pub renamed_over : (ℕ → ℕ) → Plan → Plan → Plan
renamed_over name (Table item) first = node.Table (name item)
renamed_over name (Index item) first = node.Index (name item)
renamed_over name (Filter' s below cond) first = node.Filter first cond
renamed_over name (Project' s below places) first = node.Project first places
renamed_over name (Join' s left r (more_of-Plan right end_of-Plan) pairs) first = node.Join first (renamed name right) pairs
renamed_over name (Union' s left r (more_of-Plan right end_of-Plan)) first = node.Union first (renamed name right)
renamed_over name (Group' s below places aggregates) first = node.Group first places aggregates
renamed_over name (Distinct' s below) first = node.Distinct first
