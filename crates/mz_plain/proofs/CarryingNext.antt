-- One command more is carried out.
use Rattle.std.proofs.Common.{◌≡◌, ℕ, ◌+◌, ◌<◌, ◌≤◌, List, [], ◌∷◌, ◌++◌, Result, Ok, Err, drop, get_or, length, sym, ap, ◌∙◌}
use Rattle.std.specs.Prelude.{IfOk}
use Rattle.std.proofs.lemmas.List.{append-nil, append_assoc, drop_all}
use Rattle.mz_statement.specs.declared.statement.Statement.{Statement}
use Rattle.mz_plan.specs.declared.plan.Plan.{Plan}
use Rattle.mz_plan.specs.declared.resolved.Resolved.{Resolved}
use Rattle.mz_resolution.specs.Resolution.{resolution}
use Rattle.mz_log.specs.Sequential.{Database, Sequential}
use Rattle.mz_log.specs.declared.reply.SeqReply.{SeqReply}
use Rattle.mz_core.specs.declared.calls.RoundReply.{RoundReply}
use Rattle.mz_core.specs.declared.calls.Waiting.{Waiting}
use Rattle.mz_seq.specs.Done.{IsDone}
use Rattle.mz_kept.specs.Carrying.{IsCarriedOut, index_plan, leaves, made_plan, state_with, tells}
use Rattle.mz_kept_laws.proofs.CarryingOut.{command_carried, leaves_next, tells_next}
use Rattle.mz_kept_laws.proofs.SessionPlaces.{from_place}

-- the command that stands there comes first
own_place : (commands : List Waiting) (place : ℕ) (own : Waiting) → place < length commands → own ≡ get_or commands place own
    → drop place commands ≡ own ∷ drop (place + 1) commands
own_place commands place own h is = from_place commands place own h ∙ ap (λ first. first ∷ drop (place + 1) commands) (sym is)

-- what it is told stands behind what was told before it
pub told_next : (commands : List Waiting) (place : ℕ) (own : Waiting) (before after : Database) (had has : List (ℕ × Plan)) (told : SeqReply)
    (replies all : List RoundReply) (plans : List (ℕ × Plan)) → place < length commands → own ≡ get_or commands place own
    → IsCarriedOut own.statement before had after has told
    → replies ++ tells (state_with before had plans) (drop place commands) ≡ all
    → (replies ++ record { session = own.session; call = own.call; reply = told } ∷ [])
    ++ tells (state_with after has plans) (drop (place + 1) commands) ≡ all
told_next commands place own before after had has told replies all plans h is carried so_far =
    append_assoc replies (record { session = own.session; call = own.call; reply = told } ∷ []) (tells (state_with after has plans) (drop (place + 1) commands))
    ∙ (ap (λ rest. replies ++ rest) (sym (ap (tells (state_with before had plans)) (own_place commands place own h is)
    ∙ tells_next own (drop (place + 1) commands) before after had has told carried plans)) ∙ so_far)

-- and the others leave what all leave
pub left_next : (commands : List Waiting) (place : ℕ) (own : Waiting) (before after : Database) (had has : List (ℕ × Plan)) (told : SeqReply)
    (plans : List (ℕ × Plan)) → place < length commands → own ≡ get_or commands place own → IsCarriedOut own.statement before had after has told
    → leaves (state_with after has plans) (drop (place + 1) commands) ≡ leaves (state_with before had plans) (drop place commands)
left_next commands place own before after had has told plans h is carried =
    sym (ap (leaves (state_with before had plans)) (own_place commands place own h is)
    ∙ leaves_next own (drop (place + 1) commands) before after had has told carried plans)

-- ---- at the end

-- what the commands so far were told is what all are told
pub all_told : (commands : List Waiting) (place : ℕ) (state : Sequential) (replies all : List RoundReply) → length commands ≤ place
    → replies ++ tells state (drop place commands) ≡ all → replies ≡ all
all_told commands place state replies all h so_far =
    sym (append-nil replies) ∙ (ap (λ rest. replies ++ tells state rest) (sym (drop_all place commands h)) ∙ so_far)

-- and what they left is what all leave
pub all_left : (commands : List Waiting) (place : ℕ) (state left : Sequential) → length commands ≤ place
    → leaves state (drop place commands) ≡ left → state ≡ left
all_left commands place state left h so_far = ap (leaves state) (sym (drop_all place commands h)) ∙ so_far

-- ---- one command

-- a command is carried out, where memory lasts
pub command_if : {E : Type 0} (before after : Database) (had has : List (ℕ × Plan)) (statement : Statement) (asked : Resolved) (result : Result SeqReply E)
    → resolution (record { items = before.items; cluster = 0 }) statement ≡ Ok asked
    → IfOk result (λ told. IsDone asked before after told) → IfOk result (λ told. has ≡ had ++ made_plan (index_plan asked) told)
    → IfOk result (λ told. IsCarriedOut statement before had after has told)
command_if before after had has statement asked (Ok told) is done noted = command_carried before after had has statement asked told is done noted
command_if before after had has statement asked (Err fault) is done noted = tt
