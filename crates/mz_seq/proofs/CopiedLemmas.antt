-- That a copy of a table's rows has them as they are.
use Rattle.std.proofs.Common.{◌≡◌, ℤ, List, [], ◌∷◌, sym, ap, subst, ◌∙◌}
use Rattle.std.specs.FinMap.{entries}
use Rattle.std.specs.List.{IsDistinct}
use Rattle.std.specs.Map.{keys_of}
use Rattle.mz_value.specs.Row.{row_eq}
use Rattle.mz_value.specs.declared.datum.Datum.{Datum}
use Rattle.mz_bag.specs.Bag.{Counts, map_of}
use Rattle.mz_bag.specs.Weighted.{Weighted}
use Rattle.mz_bag.proofs.BagLaws.{bag_of-same, count-entries, count_in-map_of}
use Rattle.mz_seq.specs.Stored.{rows_now}
use Rattle.mz_seq.proofs.Making.{Makes, makes_all}

-- the next row is copied
pub copied_row : (es rest : Weighted) (row copy : List Datum) (n : ℤ) (bag : Counts) (all : Weighted) → es ≡ (row, n) ∷ rest → copy ≡ row
    → Makes bag es all → Makes bag ((copy, n) ∷ rest) all
copied_row es rest row copy n bag all next same m = subst (λ (ws : Weighted). Makes bag ws all) (next ∙ ap (λ r. (r, n) ∷ rest) (sym same)) m

-- once all are, they are the rows of now
pub copied_all : (es : Weighted) (bag : Counts) → IsDistinct row_eq (keys_of es) → Makes bag [] es → bag ≡ rows_now es
copied_all es bag once m =
    makes_all bag es m ∙ bag_of-same es (entries (map_of es)) (λ q. sym (count_in-map_of q es once) ∙ sym (count-entries (map_of es) q))
