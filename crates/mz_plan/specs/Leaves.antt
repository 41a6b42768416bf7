-- The leaves of a plan: the tables and indexes that it names.
use Rattle.std.specs.Prelude.{◌<◌, ◌==◌, ℕ, List, [], ◌∷◌, ◌++◌, if◌then◌else◌}
use Rattle.mz_plan.specs.declared.plan.Plan.{Plan, Table, Index, Filter', Project', Join', Union', Group', Distinct', more_of-Plan, end_of-Plan}
use Rattle.mz_plan.specs.declared.plan.Plan.TheVariants as node

-- each leaf of a plan is as it has to be: the numbers of tables as the first says, and those of indexes as the second does
abbrev pub AllLeaves : (ℕ → Type 0) → (ℕ → Type 0) → Plan → Type 0
AllLeaves of_table of_index (Table item) = of_table item
AllLeaves of_table of_index (Index item) = of_index item
AllLeaves of_table of_index (Filter' s (more_of-Plan plan end_of-Plan) cond) = AllLeaves of_table of_index plan
AllLeaves of_table of_index (Project' s (more_of-Plan plan end_of-Plan) places) = AllLeaves of_table of_index plan
AllLeaves of_table of_index (Join' s (more_of-Plan left end_of-Plan) r (more_of-Plan right end_of-Plan) pairs) =
    AllLeaves of_table of_index left × AllLeaves of_table of_index right
AllLeaves of_table of_index (Union' s (more_of-Plan left end_of-Plan) r (more_of-Plan right end_of-Plan)) =
    AllLeaves of_table of_index left × AllLeaves of_table of_index right
AllLeaves of_table of_index (Group' s (more_of-Plan plan end_of-Plan) places aggregates) = AllLeaves of_table of_index plan
AllLeaves of_table of_index (Distinct' s (more_of-Plan plan end_of-Plan)) = AllLeaves of_table of_index plan

-- each leaf of a plan is below a number
abbrev pub AllBelow : ℕ → Plan → Type 0
AllBelow limit plan = AllLeaves (λ item. item < limit) (λ item. item < limit) plan

-- the numbers of a plan's leaves from the left, each as often as it is named
abbrev pub leaves_of : Plan → List ℕ
leaves_of (Table item) = item ∷ []
leaves_of (Index item) = item ∷ []
leaves_of (Filter' s (more_of-Plan plan end_of-Plan) cond) = leaves_of plan
leaves_of (Project' s (more_of-Plan plan end_of-Plan) places) = leaves_of plan
leaves_of (Join' s (more_of-Plan left end_of-Plan) r (more_of-Plan right end_of-Plan) pairs) = leaves_of left ++ leaves_of right
leaves_of (Union' s (more_of-Plan left end_of-Plan) r (more_of-Plan right end_of-Plan)) = leaves_of left ++ leaves_of right
leaves_of (Group' s (more_of-Plan plan end_of-Plan) places aggregates) = leaves_of plan
leaves_of (Distinct' s (more_of-Plan plan end_of-Plan)) = leaves_of plan

-- the plan in which each leaf has another number, which a function gives of its own
abbrev pub renamed : (ℕ → ℕ) → Plan → Plan
renamed name (Table item) = node.Table (name item)
renamed name (Index item) = node.Index (name item)
renamed name (Filter' s (more_of-Plan below end_of-Plan) cond) = node.Filter (renamed name below) cond
renamed name (Project' s (more_of-Plan below end_of-Plan) places) = node.Project (renamed name below) places
renamed name (Join' s (more_of-Plan left end_of-Plan) r (more_of-Plan right end_of-Plan) pairs) =
    node.Join (renamed name left) (renamed name right) pairs
renamed name (Union' s (more_of-Plan left end_of-Plan) r (more_of-Plan right end_of-Plan)) =
    node.Union (renamed name left) (renamed name right)
renamed name (Group' s (more_of-Plan below end_of-Plan) places aggregates) = node.Group (renamed name below) places aggregates
renamed name (Distinct' s (more_of-Plan below end_of-Plan)) = node.Distinct (renamed name below)

-- the number that stands beside a number in the first pair that begins with it. What begins no pair keeps its number
abbrev pub new_number : List (ℕ × ℕ) → ℕ → ℕ
new_number [] item = item
new_number (pair ∷ pairs) item = if pair.0 == item then pair.1 else new_number pairs item
