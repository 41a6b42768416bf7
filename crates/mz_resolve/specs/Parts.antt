-- What is found of a select before its plan is made.
use Rattle.std.specs.Prelude.{ℕ, ◌+◌, List, Option, Ok, Err, codes, if◌then◌else◌}
use Rattle.mz_statement.specs.declared.query.Select.{Select}
use Rattle.mz_plan.specs.declared.condition.Cond.{Cond}
use Rattle.mz_plan.specs.declared.plan.Plan.TheVariants.{Union}
use Rattle.mz_refusal.specs.declared.refusal.Refusal.TheVariants.{WrongType}
use Rattle.mz_resolution.specs.declared.relation.Listing.{Listing}
use Rattle.mz_resolution.specs.declared.relation.Relation.{Relation}
use Rattle.mz_resolution.specs.Columns.{Sight}
use Rattle.mz_resolution.specs.Conditions.{condition, equalities}
use Rattle.mz_resolution.specs.Listings.{keys_of, listing}
use Rattle.mz_resolution.specs.Queries.{small, place_meant, same_types, united}
use Rattle.mz_resolution.specs.Steps.{Step, ◌>>=◌, each}
use Rattle.mz_resolve.specs.declared.queries.SelectParts.{SelectParts}

-- the pairs of places of each JOIN, the condition, the keys and the items of a select
pub record Parts : Type 0 where
  pub pairs : List (List (ℕ × ℕ))
  pub cond : Option Cond
  pub keys : Option (List ℕ)
  pub found : Listing

-- the parts that the code holds
abbrev pub parts_in : SelectParts → Parts
parts_in parts = record { pairs = parts.pairs.items; cond = parts.cond; keys = parts.keys; found = parts.found }

-- the parts of a select in order
abbrev pub parts_of : Sight → Select → Step Parts
parts_of sight select = do
  pairs ← equalities sight 1 select.joins
  cond ← condition sight select.test
  places ← each (place_meant sight) select.group
  found ← listing sight (keys_of select places) select.items
  Ok (record { pairs = pairs; cond = cond; keys = keys_of select places; found = found })

-- the rows of two relations, of which the first gives the names of the columns
abbrev pub together : Relation → Relation → Relation
together whole next = record { columns = whole.columns; plan = Union whole.plan next.plan; tables = whole.tables + next.tables }

-- two relations under one UNION ALL, where they have the same types
abbrev pub joined_by_union : Relation → Relation → Step Relation
joined_by_union whole next =
    if same_types whole.columns next.columns then Ok (together whole next) else Err (WrongType (codes "union"))

-- the relation of a query of these selects: UNION ALL of them, and last the number of tables
abbrev pub union_of : Relation → List Relation → Step Relation
union_of first others = do
  whole ← united first others
  small whole
