use Rattle.std.proofs.Common.{cond, ◌≡◌, List, Some, pos, sym, subst, refl}
use Rattle.std.specs.Map.{lookup}
use Rattle.mz_value.specs.Row.{row_eq}
use Rattle.mz_value.specs.declared.datum.Datum.{Datum}
use Rattle.mz_seq.proofs.StoredLemmas.{zero_placed}
use Rattle.mz_seq.proofs.UsedLemmas.{no_other}
use Rattle.mz_seq.proofs.counts.make_place.Goals as goal

-- the count 0 is none
pub returns-in_ok-insert-clause-counts : goal.returns-in_ok-insert-clause-counts
returns-in_ok-insert-clause-counts c =
    let given = subst (λ (r : List Datum). (q : List Datum) → lookup (row_eq q) c.insert.new.self.entries
    ≡ cond (row_eq r q) (Some (pos 0)) (lookup (row_eq q) c.args.counts.now.entries)) c.in_ok-try_copy.ensures c.in_ok-insert.ensures.updates.0 in
    zero_placed c.args.counts.now.entries c.insert.new.self.entries c.args.row.now (pos 0) refl given (sym c.if-not-contains_key.ensures)

-- no other row gets a place
pub returns-in_ok-insert-clause-only : goal.returns-in_ok-insert-clause-only
returns-in_ok-insert-clause-only c =
    let given = subst (λ (r : List Datum). (q : List Datum) → lookup (row_eq q) c.insert.new.self.entries
    ≡ cond (row_eq r q) (Some (pos 0)) (lookup (row_eq q) c.args.counts.now.entries)) c.in_ok-try_copy.ensures c.in_ok-insert.ensures.updates.0 in
    no_other c.args.counts.now.entries c.insert.new.self.entries c.args.row.now (pos 0) given
