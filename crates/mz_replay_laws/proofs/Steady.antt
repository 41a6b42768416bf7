-- What a log says of a time that may be read stays, and from the read time on the state is the newest.
use Rattle.std.proofs.Common.{◌≡◌, ℕ, ◌≤◌, List, [], ◌∷◌, ◌++◌, refl, sym, ap, ap₂, ◌∙◌, arith}
use Rattle.std.proofs.lemmas.Bool.{cond-true, cond-false, le-leb, lt-leb}
use Rattle.mz_bag.specs.Weighted.{bag_of}
use Rattle.mz_plan.specs.Meaning.{index_rows, meaning, table_rows}
use Rattle.mz_plan.specs.declared.plan.Plan.{Plan}
use Rattle.mz_log.specs.declared.entry.Entry.TheVariants.{Apply}
use Rattle.mz_log.specs.declared.entry.Replied.{Replied}
use Rattle.mz_log.specs.Log.{Log}
use Rattle.mz_books.specs.Clusters.{cluster_of}
use Rattle.mz_books.specs.Rounds.{read_time}
use Rattle.mz_log.specs.Sequential.{bag_at}
use Rattle.mz_books.specs.States.{after_replies, bags_at, dropped, newest_state, plan_at, state_at, table_at}
use Rattle.mz_books.specs.Legal.{Legal}
use Rattle.mz_call_laws.proofs.Times.{read_rises, round_later}

-- ---- times that may be read

-- a round changes only states of its own time and later
pub state_stays : (log later : Log) (time : ℕ) → Legal (later ++ log) → time ≤ read_time log → state_at (later ++ log) time ≡ state_at log time
state_stays log [] t l h = refl
state_stays log (Apply time replies ∷ later) t l h =
    let before = read_rises log later l.0 in
    let after = round_later (later ++ log) time replies l in
    cond-false _ _ _ (lt-leb time t (omega arith)) ∙ state_stays log later t l.0 h
state_stays log (entry ∷ later) t l h = state_stays log later t l.0 h

-- and drops no table before it
pub dropped_stays : (log later : Log) (time : ℕ) → Legal (later ++ log) → time ≤ read_time log → dropped (later ++ log) time ≡ dropped log time
dropped_stays log [] t l h = refl
dropped_stays log (Apply time replies ∷ later) t l h =
    let before = read_rises log later l.0 in
    let after = round_later (later ++ log) time replies l in
    cond-false _ _ _ (lt-leb time t (omega arith)) ∙ dropped_stays log later t l.0 h
dropped_stays log (entry ∷ later) t l h = dropped_stays log later t l.0 h

-- so the bags stay
pub bags_stay : (log later : Log) (time : ℕ) → Legal (later ++ log) → time ≤ read_time log → bags_at (later ++ log) time ≡ bags_at log time
bags_stay log later t l h =
    ap₂ (λ state gone. state.database.bags ++ gone) (state_stays log later t l h) (dropped_stays log later t l h)

-- ---- from the read time on

-- the state stays
pub steady : (log : Log) → Legal log → (time : ℕ) → read_time log ≤ time → state_at log time ≡ newest_state log
steady [] l t h = refl
steady (Apply time replies ∷ log) l t h =
    let later = round_later log time replies l in
    cond-true _ _ _ (le-leb time t h)
    ∙ ap (λ state. after_replies (cluster_of log) state replies) (steady log l.0 t (omega arith) ∙ sym (steady log l.0 time (omega arith)))
    ∙ sym (cond-true _ _ _ (le-leb time time (omega arith)))
steady (entry ∷ log) l t h = steady log l.0 t h

-- a round leads the newest state on
pub newest_after : (log : Log) (time : ℕ) (replies : List Replied) → Legal (Apply time replies ∷ log)
    → newest_state (Apply time replies ∷ log) ≡ after_replies (cluster_of log) (newest_state log) replies
newest_after log time replies l =
    let later = round_later log time replies l in
    cond-true _ _ _ (le-leb time time (omega arith))
    ∙ ap (λ state. after_replies (cluster_of log) state replies) (steady log l.0 time (omega arith))

-- ---- what is told of them

-- so does each table
pub table_stays : (log later : Log) (table time : ℕ) → Legal (later ++ log) → time ≤ read_time log
    → table_at (later ++ log) table time ≡ table_at log table time
table_stays log later table t l h = ap (λ bags. bag_at bags table) (bags_stay log later t l h)

-- and what a plan gives
pub plan_stays : (log later : Log) (plan : Plan) (time : ℕ) → Legal (later ++ log) → time ≤ read_time log
    → plan_at (later ++ log) plan time ≡ plan_at log plan time
plan_stays log later plan t l h =
    ap₂ (λ bags state. bag_of (meaning (table_rows bags) (index_rows (table_rows bags) state.plans) plan)) (bags_stay log later t l h)
    (state_stays log later t l h)

-- all of these
pub ruleset all_stay = (state_stays, bags_stay, table_stays, plan_stays)
