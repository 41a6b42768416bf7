-- What is kept stays within its bounds as rounds and reads go on.
use Rattle.std.proofs.Common.{◌≡◌, ℕ, ◌+◌, ◌-◌, ◌<◌, ◌≤◌, Bool, true, false, List, [], ◌++◌, length, None, refl, sym, ap, subst, ◌∙◌, arith}
use Rattle.std.specs.List.{AllByRecursion as Each}
use Rattle.std.specs.Option.{unwrap_or}
use Rattle.std.proofs.lemmas.List.{append-nil}
use Rattle.mz_rules.proofs.Each.{each_left, each_right}
use Rattle.mz_log.specs.Sequential.{Sequential}
use Rattle.mz_oracle.specs.Rounds.{all_items, round_items, with_round}
use Rattle.mz_kept.specs.declared.session.Session.{Session}
use Rattle.mz_kept.specs.Kept.{Kept}
use Rattle.mz_kept.specs.Steps.{applying, beginning, carrying_out, finishing, session_at, spending, with_replies}
use Rattle.mz_core.specs.Told.{IsNumberOf}
use Rattle.mz_kept.specs.Within.{IsOrdered, IsWithin}
use Rattle.mz_kept_laws.proofs.SessionPlaces.{is_told, replies_at, replies_length, told_if}

-- ---- replies

-- a session that has its reply has made as many calls
told_calls : (told : Bool) (session : Session) → (told_if told session).calls ≡ session.calls
told_calls true session = refl
told_calls false session = refl

-- no session has made more calls than there are, once some have their replies
told_few : (numbers : List ℕ) (k : Kept) → IsWithin k → Each (IsNumberOf (length k.names)) numbers → (place : ℕ)
    → (session_at (with_replies k.sessions numbers) place).calls ≤ k.calls
told_few numbers k w within place =
    subst (λ n. n ≤ k.calls)
    (sym (ap (λ s. s.calls) (replies_at numbers k.sessions place (subst (λ n. Each (IsNumberOf n) numbers) (sym w.paired) within))
    ∙ told_calls (is_told numbers place) (session_at k.sessions place)))
    (w.each place)

-- ---- rounds

-- a round that begins takes the commands that wait, and there are no others
pub begun_items : (k : Kept) → k.rounds.in_round ≡ None → all_items k.rounds ≡ all_items (with_round k.rounds)
begun_items k none = ap (λ items. unwrap_or items [] ++ k.rounds.queued) none ∙ sym (append-nil k.rounds.queued)

-- a round is begun, after the last time
pub within_beginning : (time : ℕ) (k : Kept) → IsWithin k → k.rounds.in_round ≡ None → k.oracle.last < time → IsWithin (beginning time k)
within_beginning time k w none later = record {
  paired = w.paired;
  commands = subst (Each (λ c. IsNumberOf (length k.names) c.session)) (begun_items k none) w.commands;
  reads = w.reads;
  rounds = (let few = w.rounds in omega (arith, few, later));
  peeks = w.peeks;
  each = w.each;
  calls = w.calls;
  plans = w.plans;
}

-- the commands that wait are refused
pub within_spending : (numbers : List ℕ) (k : Kept) → IsWithin k → Each (IsNumberOf (length k.names)) numbers
    → IsWithin (spending numbers k)
within_spending numbers k w within = record {
  paired = replies_length numbers k.sessions ∙ w.paired;
  commands = subst (Each (λ c. IsNumberOf (length k.names) c.session)) (sym (append-nil (round_items k.rounds)))
      (each_left _ (round_items k.rounds) k.rounds.queued w.commands);
  reads = w.reads;
  rounds = w.rounds;
  peeks = w.peeks;
  each = told_few numbers k w within;
  calls = w.calls;
  plans = w.plans;
}

-- a round is carried out
pub within_carried : (state : Sequential) (k : Kept) → IsOrdered state → IsWithin k → IsWithin (carrying_out state k)
within_carried state k o w = record {
  paired = w.paired;
  commands = w.commands;
  reads = w.reads;
  rounds = w.rounds;
  peeks = w.peeks;
  each = w.each;
  calls = w.calls;
  plans = o;
}

-- and applied
pub within_applying : (numbers : List ℕ) (k : Kept) → IsWithin k → Each (IsNumberOf (length k.names)) numbers
    → IsWithin (applying numbers k)
within_applying numbers k w within = record {
  paired = replies_length numbers k.sessions ∙ w.paired;
  commands = each_right _ (round_items k.rounds) k.rounds.queued w.commands;
  reads = w.reads;
  rounds = w.rounds;
  peeks = w.peeks;
  each = told_few numbers k w within;
  calls = w.calls;
  plans = w.plans;
}

-- ---- reads

-- reads have their rows
pub within_finishing : (numbers : List ℕ) (k : Kept) → IsWithin k → Each (IsNumberOf (length k.names)) numbers
    → IsWithin (finishing numbers k)
within_finishing numbers k w within = record {
  paired = replies_length numbers k.sessions ∙ w.paired;
  commands = w.commands;
  reads = tt;
  rounds = w.rounds;
  peeks = w.peeks;
  each = told_few numbers k w within;
  calls = w.calls;
  plans = w.plans;
}
