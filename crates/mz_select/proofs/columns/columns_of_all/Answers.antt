use Rattle.std.proofs.Common.{◌+◌, ◌++◌, ◌∷◌, ◌∙◌, sym, ap, List, arith, drop, length}
use Rattle.std.proofs.lemmas.List.{at_drop_more}
use Rattle.mz_resolution.specs.declared.relation.Referred.{Referred}
use Rattle.mz_resolution.specs.Columns.{SeenColumn, columns_from}
use Rattle.mz_select.proofs.ColumnLemmas.{reference_more}
use Rattle.mz_select.proofs.columns.columns_of_all.Goals as goal

-- the columns of the next reference stand behind those so far
pub references-preserved : goal.references-preserved
references-preserved c =
    let seen = c.references.seen.items in
    let owner = c.references.owner in
    let first = c.index-references-owner.result in
    let references = c.args.references.now in
    let all : List Referred → List SeenColumn = λ left. seen ++ columns_from (length seen) owner left in
    rw (c.in_ok-push_columns.ensures, c.as_slice-columns.ensures)
    (reference_more seen owner first (drop (owner + 1) references)
    ∙ ap (λ r. all (r ∷ drop (owner + 1) references)) c.index-references-owner.is
    ∙ sym (at_drop_more all references owner first (omega arith))
    ∙ c.references.invariant)
