-- The order of values.
use Rattle.std.specs.Prelude.{ℕ}
use Rattle.std.specs.Ordering.{nat_cmp, int_cmp, bool_cmp}
use Rattle.std.specs.Cmp.Lexicographic.{slice_cmp}
use Rattle.std.specs.declared.cmp.Ordering.{Ordering}
use Rattle.mz_value.specs.declared.datum.Datum.{Datum}
use Rattle.mz_value.specs.declared.datum.Datum.TheVariants.{Int, Text, Bool, Wide}

-- the place of a value's kind among the kinds
abbrev pub kind_place : Datum → ℕ
kind_place (Int number) = 0
kind_place (Text bytes) = 1
kind_place (Bool truth) = 2
kind_place (Wide number) = 3

-- numbers go by number, texts by bytes, false before true, and values of two kinds by their kinds
abbrev pub datum_cmp : Datum → Datum → Ordering
datum_cmp (Int x) (Int y) = int_cmp x y
datum_cmp (Text x) (Text y) = slice_cmp nat_cmp x y
datum_cmp (Bool x) (Bool y) = bool_cmp x y
datum_cmp (Wide x) (Wide y) = int_cmp x y
datum_cmp x y = nat_cmp (kind_place x) (kind_place y)
