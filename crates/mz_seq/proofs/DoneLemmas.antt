-- A command that comes to one change is carried out.
use Rattle.std.proofs.Common.{◌≡◌, ℕ, List, Option, None, Some, Result, Ok, Err, IfOk, sym, ap, ◌∙◌}
use Rattle.mz_plan.specs.declared.plan.Plan.{Plan}
use Rattle.mz_plan.specs.declared.resolved.Resolved.{Resolved}
use Rattle.mz_refusal.specs.declared.refusal.Refusal.{Refusal}
use Rattle.mz_log.specs.Sequential.{Change, Database, after_changes, changed}
use Rattle.mz_log.specs.CarriedOut.{Command, changing, effect}
use Rattle.mz_log.specs.declared.reply.SeqReply.{SeqReply}
use Rattle.mz_seq.specs.Done.{IsDone}
use Rattle.mz_seq.specs.Told.{ComesTo}

done : (asked : Resolved) (before after : Database) (told reply : SeqReply) (why : Option Refusal) (change : Change)
    → ((plans : List (ℕ × Plan)) → effect (record { database = before; plans = plans }) asked ≡ changing why told change)
    → ComesTo why told (changed before change) before after reply → IsDone asked before after reply
done asked before after told reply None change eff h = record {
  told = λ plans. ap Command h.0 ∙ sym (ap (λ e. e.response) (eff plans));
  left = λ plans. h.1 ∙ sym (ap (λ e. (after_changes (record { database = before; plans = plans }) e.changes).database) (eff plans));
}
done asked before after told reply (Some why) change eff h = record {
  told = λ plans. ap Command h.0 ∙ sym (ap (λ e. e.response) (eff plans));
  left = λ plans. h.1 ∙ sym (ap (λ e. (after_changes (record { database = before; plans = plans }) e.changes).database) (eff plans));
}

-- of a command that may have failed
pub if_done : {E : Type 0} (asked : Resolved) (before after : Database) (told : SeqReply) (why : Option Refusal) (change : Change) (result : Result SeqReply E)
    → ((plans : List (ℕ × Plan)) → effect (record { database = before; plans = plans }) asked ≡ changing why told change)
    → IfOk result (λ reply. ComesTo why told (changed before change) before after reply) → IfOk result (λ reply. IsDone asked before after reply)
if_done asked before after told why change (Ok reply) eff h = done asked before after told reply why change eff h
if_done asked before after told why change (Err e) eff h = tt
