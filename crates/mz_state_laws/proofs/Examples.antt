-- Worked rows: what the words of these laws come to.
use Rattle.std.proofs.Common.{◌≡◌, ℕ, true, false, [], ◌∷◌, codes, length, refl, ap, arith}
use Rattle.std.specs.FinMap.{empty}
use Rattle.mz_plan.specs.Small.{index_reads, tables_read}
use Rattle.mz_plan.specs.declared.plan.Plan.{Plan}
use Rattle.mz_plan.specs.declared.plan.Plan.TheVariants as node
use Rattle.mz_plan.specs.declared.resolved.Resolved.TheVariants as asked
use Rattle.mz_log.specs.CarriedOut.{carried_out}
use Rattle.mz_log.specs.Sequential.{Sequential, kv, opening}
use Rattle.mz_state_laws.specs.Growth.{touches}
use Rattle.mz_state_laws.specs.Reads.{Passes, ReadsOnly, is_there}
use Rattle.mz_state_laws.specs.Well.{AreNarrow, IsWellOver}
use Rattle.mz_resolve_laws.proofs.TablesRead.{read_by_join}
use Rattle.mz_resolve_laws.specs.TypedOver.{LeafTypes}

-- two tables side by side, and two of these
abbrev two_tables : Plan
two_tables = node.Join (node.Table 1) (node.Table 1) []

abbrev four_tables : Plan
four_tables = node.Join two_tables two_tables []

-- how many they read
four_read : (reads : ℕ → ℕ) → tables_read reads four_tables ≡ 4
four_read reads = omega (arith, read_by_join reads two_tables two_tables [], read_by_join reads (node.Table 1) (node.Table 1) [])

-- an index over four tables reads few
four_are_few : AreNarrow ((2, four_tables) ∷ [])
four_are_few = (omega (arith, four_read (index_reads [])), tt)

-- one that reads such an index and a table doesn't
fifth_by_index : AreNarrow ((3, node.Join (node.Index 2) (node.Table 1) []) ∷ (2, four_tables) ∷ []) → ⊥
fifth_by_index h =
    omega (arith, h.0, read_by_join (index_reads ((2, four_tables) ∷ [])) (node.Index 2) (node.Table 1) [], four_read (index_reads []))

-- `kv` with a bag of a table that isn't there
abbrev stray : Sequential
stray = record { database = record { items = kv ∷ []; next = 3; bags = (1, empty) ∷ (2, empty) ∷ [] }; plans = [] }

-- such a state isn't well
stray_is_not : (types : LeafTypes) → IsWellOver types stray → ⊥
stray_is_not types well = let same : 2 ≡ 1 = ap length well.tables in omega (arith, same)

-- an index over `kv`, dropped again
abbrev dropped : Sequential
dropped = (carried_out (carried_out opening (asked.CreateIndex (codes "i") 1 (node.Table 1) 0)).state (asked.Drop 2)).state

-- is not there
gone : is_there dropped.database.items 2 ≡ false
gone = refl

-- but reads `kv` still, which is
still_reads : ReadsOnly (Passes (is_there dropped.database.items)) dropped.plans (node.Index 2)
still_reads = refl

-- an INSERT touches its table alone
touches_one : touches (asked.Insert 1 []) 1 ≡ true
touches_one = refl

-- and no other
touches_no_other : touches (asked.Insert 1 []) 2 ≡ false
touches_no_other = refl
