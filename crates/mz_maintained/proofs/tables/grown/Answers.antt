use Rattle.std.proofs.Common.{◌≡◌, ◌++◌, ap, subst, sym, ◌∙◌}
use Rattle.std.specs.FinMap.{entries}
use Rattle.mz_bag.specs.Weighted.{bag_of}
use Rattle.mz_updates.specs.Contents.{contents, stamped, FitsAt}
use Rattle.mz_maintained.proofs.TableLaws.{grown_found, rows_both, rows_fit}
use Rattle.mz_maintained.proofs.tables.grown.Goals as goal

-- what is small fits
pub contents-requires : goal.contents-requires
contents-requires c =
    subst (λ t. FitsAt t c.append.new.self) (sym c.zero-then-are_small.ensures) (rows_fit c.append.new.self (c.are_small.ensures c.if-are_small.true))

-- and what is found is the bag with the rows
pub returns-then-are_small : goal.returns-then-are_small
returns-then-are_small c =
    let all : c.in_ok-all.all ≡ stamped 0 (entries c.args.bag.now) = c.in_ok-all.ensures ∙ (λ i. stamped (c.zero.ensures i) (c.in_ok-counted.ensures.rows i)) in
    let more : stamped c.zero-2.result c.in_ok-try_copy.field-0 ≡ stamped 0 c.args.rows.now = (λ i. stamped (c.zero-2.ensures i) (c.in_ok-try_copy.ensures i)) in
    grown_found _ c.args.bag.now c.in_ok-contents.field-0 c.args.rows.now c.fitting.result
    (c.in_ok-contents.ensures ∙ ap (λ t. bag_of (contents t c.append.new.self)) c.zero-then-are_small.ensures
    ∙ ap bag_of (rows_both c.append.new.self (entries c.args.bag.now) c.args.rows.now (c.in_ok-append.ensures.ok ∙ (λ i. all i ++ more i))))
    c.fitting.ensures
