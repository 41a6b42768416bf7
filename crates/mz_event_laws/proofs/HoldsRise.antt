-- Live holds have rising numbers, none past the last that was taken.
use Rattle.std.proofs.Common.{◌≡◌, ℕ, ◌+◌, ◌≤◌, ◌<◌, ◌==◌, not, [], ◌∷◌, refl, arith}
use Rattle.std.specs.List.{AllByRecursion as Each}
use Rattle.std.proofs.lemmas.Bool.{cond_both}
use Rattle.mz_rules.specs.declared.capability.Hold.{Hold}
use Rattle.mz_rules.proofs.Each.{each_filter, each_map, each_of, each_one}
use Rattle.mz_log.specs.declared.entry.Entry.TheVariants.{Acquire, Down, Release}
use Rattle.mz_log.specs.Log.{Log}
use Rattle.mz_books.specs.Holds.{holds, holds_taken, moved, owner, takings}
use Rattle.mz_books.specs.Legal.{Legal}
use Rattle.mz_call_laws.proofs.Lists.{pairwise_one}
use Rattle.mz_event_laws.proofs.Rising.{Rises, rises_filter, rises_map}

-- how the numbers of a log's holds are
pub record HoldsRise (log : Log) : Type 0 where
  pub rise : Rises (λ h. h.number) (holds log)
  pub few : Each (λ h. h.number ≤ holds_taken log) (holds log)

-- a hold that moves on keeps its number
same_number : (number time : ℕ) (h : Hold) → (moved number time h).number ≡ h.number
same_number number time h =
    cond_both (h.number == number) (record h { time = time }) h (λ x. x.number ≡ h.number) (λ _. refl) (λ _. refl)

-- so it is in each legal log
pub holds_rise : (log : Log) → Legal log → HoldsRise log
holds_rise [] l = record { rise = tt; few = tt }
holds_rise (Acquire hold collection time ∷ log) l =
    let before = holds_rise log l.0 in
    let next = l.1.may.next_hold in
    let new : Hold = record { number = hold; collection = collection; time = time; owner = owner (takings log) } in
    record {
      rise = pairwise_one (λ x y. x.number < y.number) (holds log) new before.rise
          (each_of (λ h. h.number ≤ holds_taken log) (λ h. h.number < hold) (λ h few. omega (arith, few, next)) (holds log) before.few);
      few = each_one (λ h. h.number ≤ holds_taken log + 1) (holds log) new
          (each_of (λ h. h.number ≤ holds_taken log) (λ h. h.number ≤ holds_taken log + 1) (λ h few. omega (arith, few)) (holds log) before.few)
          (omega (arith, next));
    }
holds_rise (Down hold time ∷ log) l =
    let before = holds_rise log l.0 in
    record {
      rise = rises_map (λ h. h.number) (moved hold time) (same_number hold time) (holds log) before.rise;
      few = each_map (λ h. h.number ≤ holds_taken log) (λ h. h.number ≤ holds_taken log) (moved hold time)
          (λ h few. omega (arith, few, same_number hold time h)) (holds log) before.few;
    }
holds_rise (Release hold ∷ log) l =
    let before = holds_rise log l.0 in
    record {
      rise = rises_filter (λ h. h.number) (λ live. not (live.number == hold)) (holds log) before.rise;
      few = each_filter (λ h. h.number ≤ holds_taken log) (λ live. not (live.number == hold)) (holds log) before.few;
    }
holds_rise (entry ∷ log) l = let before = holds_rise log l.0 in record { rise = before.rise; few = before.few }
