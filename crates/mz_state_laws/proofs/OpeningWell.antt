-- The opening state is well.
use Rattle.std.proofs.Common.{◌<◌, List, [], ◌∷◌, codes, refl, arith}
use Rattle.std.proofs.lemmas.List.Elements.{All-from_recursion, All-nil}
use Rattle.mz_statement.specs.declared.column.Column.{Column}
use Rattle.mz_plan.specs.Types.{types_of}
use Rattle.mz_plan.specs.declared.scope.Scope.{Scope}
use Rattle.mz_resolve_laws.proofs.OverLaws.{over_empty, table_over}
use Rattle.mz_resolve_laws.proofs.TypesStay.{table_typed, typed_empty}
use Rattle.mz_resolve_laws.specs.TypedOver.{LeafTypes}
use Rattle.mz_log.specs.Sequential.{int_column, kv, opening}
use Rattle.mz_state_laws.specs.Well.{IsWell}
use Rattle.mz_state_laws.proofs.RowsStay.{rows_none}

-- the columns of `kv`
kv_columns : List Column
kv_columns = int_column (codes "k") ∷ int_column (codes "v") ∷ []

-- every number has their types
kv_types : LeafTypes
kv_types number = types_of (int_column (codes "k") ∷ int_column (codes "v") ∷ [])

-- no items
abbrev nothing : Scope
nothing = record { items = []; cluster = 0 }

-- the opening state is as if `kv` had been made among no items
pub opening_well : IsWell opening
unfolding kv_columns kv_types
opening_well = record {
  types = kv_types;
  over = record {
    names = λ i j d before within. absurd (omega (arith, before, within));
    few = omega arith;
    below = All-from_recursion (λ item. item.id < 2) (kv ∷ []) (omega arith, tt);
    made = All-nil _;
    sound = table_over [] nothing (over_empty 0) kv (All-nil _) (All-nil _) kv.name kv_columns refl;
    typed = table_typed kv_types [] nothing (typed_empty kv_types 0) kv (All-nil _) kv.name kv_columns refl refl;
    narrow = tt;
    reads = (tt, tt);
    tables = refl;
    bags = (rows_none (kv_types 1), tt);
  };
}
