-- What an INSERT and a DELETE come to among all tables.
use Rattle.std.proofs.Common.{◌≡◌, ℕ, Bool, List, length, slice_set, Option, None, Some, Result, Ok, Err, IfOk, OnOk, OnErr, sym, subst}
use Rattle.std.specs.FinMap.{entries}
use Rattle.mz_value.specs.declared.datum.Datum.{Datum}
use Rattle.mz_bag.specs.Bag.{Counts}
use Rattle.mz_bag.specs.Mass.{mass}
use Rattle.mz_bag.specs.Weighted.{Weighted, each_once, negated}
use Rattle.mz_plan.specs.Operators.{filtered}
use Rattle.mz_refusal.specs.declared.refusal.Refusal.{Refusal}
use Rattle.mz_log.specs.Sequential.{added, bag_at, with_rows}
use Rattle.mz_log.specs.CarriedOut.{overfull, rows_in}
use Rattle.mz_log.specs.declared.reply.SeqReply.{SeqReply}
use Rattle.mz_log.specs.declared.reply.SeqReply.TheVariants.{Inserted, Deleted}
use Rattle.mz_seq.specs.Told.{ComesTo}
use Rattle.mz_marked.specs.Twice.{Twice}
use Rattle.mz_seq.specs.Tables.{bags_now}
use Rattle.mz_seq.specs.declared.tables.Table.{Table}
use Rattle.mz_seq.proofs.FoundLemmas.{Around, bag_there, now_moved, now_as_before}

-- what a command comes to in one table, it comes to in all
in_all : (n : ℕ) (ts : List Table) (place : ℕ) (t : Table) (r : Twice Counts) (ws : Weighted) (why : Option Refusal) (told reply : SeqReply) → Around n ts place t
    → ComesTo why told (added t.rows.present ws) t.rows.present r.present reply
    → ComesTo why told (with_rows n ws (bags_now ts)) (bags_now ts) (bags_now (slice_set ts place (record t { rows = r }))) reply
in_all n ts place t r ws None told reply a h = (h.0, now_moved n ts place t r ws a h.1)
in_all n ts place t r ws (Some why) told reply a h = (h.0, now_as_before n ts place t r a h.1)

pub insert_told : {E : Type 0} (n : ℕ) (ts : List Table) (place : ℕ) (t : Table) (r : Twice Counts) (rows : List (List Datum)) (result : Result SeqReply E) → Around n ts place t
    → IfOk result (λ reply. ComesTo (overfull (rows_in t.rows.present) (length rows)) (Inserted (length rows)) (added t.rows.present (each_once rows)) t.rows.present r.present reply)
    → IfOk result (λ reply. ComesTo (overfull (rows_in (bag_at (bags_now ts) n)) (length rows)) (Inserted (length rows)) (with_rows n (each_once rows) (bags_now ts)) (bags_now ts)
    (bags_now (slice_set ts place (record t { rows = r }))) reply)
insert_told n ts place t r rows (Err e) a h = tt
insert_told n ts place t r rows (Ok reply) a h =
    subst (λ (bag : Counts). ComesTo (overfull (rows_in bag) (length rows)) (Inserted (length rows)) (with_rows n (each_once rows) (bags_now ts)) (bags_now ts)
    (bags_now (slice_set ts place (record t { rows = r }))) reply)
    (sym (bag_there n ts place t a))
    (in_all n ts place t r (each_once rows) (overfull (rows_in t.rows.present) (length rows)) (Inserted (length rows)) reply a h)

pub delete_told : {E : Type 0} (n : ℕ) (ts : List Table) (place : ℕ) (t : Table) (r : Twice Counts) (p : List Datum → Bool) (result : Result SeqReply E) → Around n ts place t
    → IfOk result (λ reply. reply ≡ Deleted (mass (filtered p (entries t.rows.present))))
    → OnOk result (r.present ≡ added t.rows.present (negated (filtered p (entries t.rows.present))))
    → IfOk result (λ reply. ComesTo None (Deleted (mass (filtered p (entries (bag_at (bags_now ts) n))))) (with_rows n (negated (filtered p (entries (bag_at (bags_now ts) n)))) (bags_now ts)) (bags_now ts)
    (bags_now (slice_set ts place (record t { rows = r }))) reply)
delete_told n ts place t r p (Err e) a told moved = tt
delete_told n ts place t r p (Ok reply) a told moved =
    subst (λ (bag : Counts). ComesTo None (Deleted (mass (filtered p (entries bag)))) (with_rows n (negated (filtered p (entries bag))) (bags_now ts)) (bags_now ts)
    (bags_now (slice_set ts place (record t { rows = r }))) reply)
    (sym (bag_there n ts place t a))
    (told, now_moved n ts place t r (negated (filtered p (entries t.rows.present))) a moved)

-- without memory all are as before
pub err_before : {E : Type 0} (n : ℕ) (ts : List Table) (place : ℕ) (t : Table) (r : Twice Counts) (result : Result SeqReply E) → Around n ts place t
    → OnErr result (r.present ≡ t.rows.present) → OnErr result (bags_now (slice_set ts place (record t { rows = r })) ≡ bags_now ts)
err_before n ts place t r (Err e) a h = now_as_before n ts place t r a h
err_before n ts place t r (Ok reply) a h = tt
