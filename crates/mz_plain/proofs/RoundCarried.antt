-- The commands of a round are carried out, all or none.
use Rattle.std.proofs.Common.{◌≡◌, ℕ, true, List, [], Result, Ok, Err, sym, ap, subst, ◌∙◌}
use Rattle.std.specs.Result.{OnErr}
use Rattle.mz_plan.specs.Indexes.{descend}
use Rattle.mz_plan.specs.declared.plan.Plan.{Plan}
use Rattle.mz_log.specs.Sequential.{Database}
use Rattle.mz_oracle.specs.Rounds.{round_items}
use Rattle.mz_core.specs.declared.calls.RoundReply.{RoundReply}
use Rattle.mz_core.specs.declared.calls.Waiting.{Waiting}
use Rattle.mz_kept.specs.Carrying.{AreCarriedOut, leaves, newest_first}
use Rattle.mz_kept.specs.Kept.{Kept, state_of}
use Rattle.mz_kept.specs.Steps.{carrying_out}
use Rattle.mz_kept.specs.Within.{IsOrdered, IsWithin}
use Rattle.mz_kept_laws.proofs.PlanOrder.{ordered_leaves}
use Rattle.mz_kept_laws.proofs.WithinRounds.{within_carried}

-- the commands are those of the round, of which none had made a plan
pub round_carried : (k : Kept) (commands : List Waiting) (had : List (ℕ × Plan)) (after : Database) (made : List (ℕ × Plan)) (replies : List RoundReply)
    → commands ≡ round_items k.rounds → had ≡ [] → AreCarriedOut commands k.database had after made replies
    → AreCarriedOut (round_items k.rounds) k.database [] after made replies
round_carried k commands had after made replies own none carried =
    subst (λ plans. AreCarriedOut (round_items k.rounds) k.database plans after made replies) none
    (subst (λ all. AreCarriedOut all k.database had after made replies) own carried)

-- the plans are in order with those that were made
pub made_ordered : (k : Kept) (commands : List Waiting) (after : Database) (made : List (ℕ × Plan)) (replies : List RoundReply)
    → IsWithin k → AreCarriedOut commands k.database [] after made replies → descend (newest_first made k.plans) ≡ true
made_ordered k commands after made replies w carried =
    (subst IsOrdered (sym (carried.left k.plans)) (ordered_leaves commands (state_of k) w.plans)).descends

-- once they are with the others, the round is carried out
pub carried_kept : (k : Kept) (commands : List Waiting) (after : Database) (made all : List (ℕ × Plan)) (replies : List RoundReply)
    → AreCarriedOut commands k.database [] after made replies → all ≡ newest_first made k.plans
    → record k { database = after; plans = all } ≡ carrying_out (leaves (state_of k) commands) k
carried_kept k commands after made all replies carried is =
    ap (λ plans. record k { database = after; plans = plans }) is ∙ ap (λ state. carrying_out state k) (carried.left k.plans)

-- a round that starts leaves the database as it is
pub started_kept : (k : Kept) (present : Database) → present ≡ k.database → record k { database = present } ≡ k
started_kept k present is = ap (λ database. record k { database = database }) is

-- and one that is given up leaves all as it was at the start
pub given_up : (k start mid : Kept) (present : Database) → start ≡ k → record mid { database = start.database } ≡ start → present ≡ k.database
    → record mid { database = present } ≡ k
given_up k start mid present same back is =
    ap (λ database. record mid { database = database }) (is ∙ sym (ap (λ s. s.database) same)) ∙ (back ∙ same)

-- all stays within its bounds once a round is carried out
pub carried_within : (k carried : Kept) → IsWithin k → carried ≡ carrying_out (leaves (state_of k) (round_items k.rounds)) k → IsWithin carried
carried_within k carried w is =
    subst IsWithin (sym is)
    (within_carried (leaves (state_of k) (round_items k.rounds)) k (ordered_leaves (round_items k.rounds) (state_of k) w.plans) w)

-- what holds anyway holds after an error
pub after_error : {T E P : Type 0} (result : Result T E) → P → OnErr result P
after_error (Ok answer) holds = tt
after_error (Err fault) holds = holds
