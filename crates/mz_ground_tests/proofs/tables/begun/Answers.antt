use Rattle.std.proofs.Common.{◌≡◌, ◌≤◌, ◌+ℤ◌, pos, FitsSigned, SFits, sym, ap, subst, ◌∙◌, arith}
use Rattle.std.specs.Int.{w32}
use Rattle.std.proofs.lemmas.Int.{ints}
use Rattle.mz_bag.specs.Bag.{Counts, count_in}
use Rattle.mz_bag.proofs.BagLaws.{count_in-empty, count_in-sum_of}
use Rattle.mz_tables.specs.Table.{table_at}
use Rattle.mz_ground_tests.proofs.tables.begun.Goals as goal

-- at first no row is there
pub append-requires-clause-fits : goal.append-requires-clause-fits
append-requires-clause-fits g c = record {
  fits = λ t from later. record {
    fits = λ q.
        let none : count_in (table_at c.at-store.result.present t) q ≡ pos 0 = ap (λ (b : Counts). count_in b q) (c.at-store.ensures.no_row t) ∙ count_in-empty q in
        let second : SFits w32 (count_in c.in_ok-changes.changes q) = c.in_ok-changes.ensures q in
        record { low = omega (arith, ints); high = omega (arith, ints) };
  };
}

-- and then what came
pub returns-clause-small : goal.returns-clause-small
returns-clause-small g c = λ t q from.
    let since : c.at-store.result.present.since ≤ t = subst (λ n. n ≤ t) (sym (c.at-store.ensures.since ∙ c.time.ensures)) from in
    let later : c.time-2.result ≤ t = subst (λ n. n ≤ t) (sym c.time-2.ensures) from in
    let none : count_in (table_at c.at-store.result.present t) q ≡ pos 0 = ap (λ (b : Counts). count_in b q) (c.at-store.ensures.no_row t) ∙ count_in-empty q in
    let all : count_in (table_at c.append.new.self.present t) q ≡ count_in (table_at c.at-store.result.present t) q +ℤ count_in c.in_ok-changes.changes q =
    ap (λ (b : Counts). count_in b q) (c.in_ok-append.ensures.ok.later t since later) ∙ count_in-sum_of (table_at c.at-store.result.present t) c.in_ok-changes.changes q in
    let same : count_in c.in_ok-changes.changes q ≡ count_in (table_at c.append.new.self.present t) q = omega (arith, ints) in
    subst (FitsSigned w32) same (c.in_ok-changes.ensures q)
