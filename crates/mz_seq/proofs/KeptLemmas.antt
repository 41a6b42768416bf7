-- A database stays one through commands, and what becomes of catalog and tables becomes of the database.
use Rattle.std.proofs.Common.{◌≡◌, ℕ, Bool, true, false, ◌++◌, append-nil, Option, None, Some, Result, Ok, Err, IfOk, OnErr, refl, sym, ap, subst, ◌∙◌}
use Rattle.mz_bag.specs.Weighted.{Weighted}
use Rattle.mz_plan.specs.Items.{is_table}
use Rattle.mz_plan.specs.declared.item.Item.{Item}
use Rattle.mz_plan.specs.declared.item.ItemKind.{ItemKind}
use Rattle.mz_plan.specs.declared.item.ItemKind.TheVariants.{Table, View, Index}
use Rattle.mz_refusal.specs.declared.refusal.Refusal.{Refusal}
use Rattle.mz_catalog.specs.CatalogState.{CatalogState}
use Rattle.mz_log.specs.Sequential.{Bags, Database, Made, Removed, changed, new_bag, with_rows}
use Rattle.mz_log.specs.declared.reply.SeqReply.{SeqReply}
use Rattle.mz_log.specs.declared.reply.SeqReply.TheVariants.{Created, Dropped, Refused}
use Rattle.mz_seq.specs.Tables.{database_of, gone_bags, made_bags, IsDatabase}
use Rattle.mz_seq.specs.Told.{ComesTo, IsMade, IsRemoved}
use Rattle.mz_seq.proofs.DatabaseLemmas.{moved_kept}

-- what a command comes to is a database
pub comes_kept : (why : Option Refusal) (told reply : SeqReply) (moved before after : Database) → ComesTo why told moved before after reply
    → IsDatabase before → IsDatabase moved → IsDatabase after
comes_kept None told reply moved before after h is then = subst IsDatabase (sym h.1) then
comes_kept (Some why) told reply moved before after h is then = subst IsDatabase (sym h.1) is

-- rows that come to a table, or don't
pub rows_kept : {E : Type 0} (result : Result SeqReply E) (why : Option Refusal) (told : SeqReply) (catalog : CatalogState) (bags after : Bags) (table : ℕ) (ws : Weighted)
    → IsDatabase (database_of catalog bags) → IfOk result (λ reply. ComesTo why told (with_rows table ws bags) bags after reply) → OnErr result (after ≡ bags)
    → IsDatabase (database_of catalog after)
rows_kept (Ok reply) None told catalog bags after table ws is h err =
    subst (λ (b : Bags). IsDatabase (database_of catalog b)) (sym h.1) (moved_kept (database_of catalog bags) table ws is)
rows_kept (Ok reply) (Some why) told catalog bags after table ws is h err = subst (λ (b : Bags). IsDatabase (database_of catalog b)) (sym h.1) is
rows_kept (Err e) why told catalog bags after table ws is h err = subst (λ (b : Bags). IsDatabase (database_of catalog b)) (sym err) is

-- an item that is made
made_new : (id : ℕ) (kind : ItemKind) → made_bags (is_table kind) (Created id) ≡ new_bag id kind
made_new id (Table columns) = refl
made_new id (View columns query) = refl
made_new id (Index on plan) = refl

none_made : (b : Bool) (why : Refusal) (bags : Bags) → bags ++ made_bags b (Refused why) ≡ bags
none_made true why bags = append-nil bags
none_made false why bags = append-nil bags

pub made_after : (why : Option Refusal) (item : Item) (catalog next : CatalogState) (bags after : Bags) (reply : SeqReply) → IsMade why item catalog next reply
    → after ≡ bags ++ made_bags (is_table item.kind) reply
    → ComesTo why (Created catalog.next) (changed (database_of catalog bags) (Made (record item { id = catalog.next }))) (database_of catalog bags) (database_of next after) reply
made_after None item catalog next bags after reply h is =
    let bag : after ≡ bags ++ new_bag catalog.next item.kind =
    is ∙ ap (λ r. bags ++ made_bags (is_table item.kind) r) h.0 ∙ ap (λ b. bags ++ b) (made_new catalog.next item.kind) in
    (h.0, λ i. database_of (h.1 i) (bag i))
made_after (Some why) item catalog next bags after reply h is =
    let bag : after ≡ bags = is ∙ ap (λ r. bags ++ made_bags (is_table item.kind) r) h.0 ∙ none_made (is_table item.kind) why bags in
    (h.0, λ i. database_of (h.1 i) (bag i))

-- an item that is removed
pub gone_after : (why : Option Refusal) (id : ℕ) (catalog next : CatalogState) (bags after : Bags) (reply : SeqReply) → IsRemoved why id catalog next reply
    → after ≡ gone_bags reply id bags
    → ComesTo why Dropped (changed (database_of catalog bags) (Removed id)) (database_of catalog bags) (database_of next after) reply
gone_after None id catalog next bags after reply h is =
    let bag = is ∙ ap (λ r. gone_bags r id bags) h.0 in
    (h.0, λ i. database_of (h.1 i) (bag i))
gone_after (Some why) id catalog next bags after reply h is =
    let bag = is ∙ ap (λ r. gone_bags r id bags) h.0 in
    (h.0, λ i. database_of (h.1 i) (bag i))
