-- What is asked of rounds: whether no command waits.
use Rattle.std.proofs.Common.{◌≡◌, ℕ, zero, suc, ◌+◌, ◌==◌, ◌&&◌, length, arith, sym, ap, ◌∙◌}
use Rattle.std.proofs.Math.Dec.{eqb-suc-zero}
use Rattle.std.proofs.lemmas.List.{length-append, length-map}
use Rattle.mz_log.specs.Log.{Log}
use Rattle.mz_oracle.specs.Rounds.{all_items, round_items}
use Rattle.mz_books.specs.Rounds.{queued}
use Rattle.mz_kept.specs.Kept.{Kept}
use Rattle.mz_core.specs.Told.{command_of}
use Rattle.mz_kept.specs.Standing.{StandsFor}

-- nothing in two makes nothing in both
none_in_both : (one other : ℕ) → ((one == 0) && (other == 0)) ≡ (one + other == 0)
none_in_both zero other = let e : other ≡ zero + other = omega arith in ap (λ n. n == 0) e
none_in_both (suc one) other =
    let e : suc (one + other) ≡ suc one + other = omega arith in
    ap (λ none. none && (other == 0)) (eqb-suc-zero one) ∙ (sym (eqb-suc-zero (one + other)) ∙ ap (λ n. n == 0) e)

-- no command waits where none is queued in the log
pub quiet_is : (k : Kept) (log : Log) → StandsFor k log
    → ((length (round_items k.rounds) == 0) && (length k.rounds.queued == 0)) ≡ (length (queued log) == 0)
quiet_is k log s =
    none_in_both (length (round_items k.rounds)) (length k.rounds.queued)
    ∙ ap (λ n. n == 0) (sym (length-append (round_items k.rounds) k.rounds.queued)
    ∙ (sym (length-map (all_items k.rounds) command_of) ∙ ap length s.rounds.queued))
