-- What a CREATE and a DROP are told, and what is left of the catalog.
use Rattle.std.specs.Prelude.{◌≡◌, ℕ, Option, None, Some}
use Rattle.mz_statement.specs.declared.column.Column.{Column}
use Rattle.mz_plan.specs.declared.item.Item.{Item}
use Rattle.mz_refusal.specs.declared.refusal.Limited.TheVariants.{Items}
use Rattle.mz_refusal.specs.declared.refusal.Refusal.{Refusal}
use Rattle.mz_refusal.specs.declared.refusal.Refusal.TheVariants as refusal
use Rattle.mz_catalog.specs.CatalogState.{CatalogState, with_item, without}
use Rattle.mz_catalog.specs.declared.fault.CatalogFault.{CatalogFault}
use Rattle.mz_catalog.specs.declared.fault.CatalogFault.TheVariants.{NameTaken, TooMany, HasDependents, Memory}
use Rattle.mz_log.specs.declared.reply.SeqReply.{SeqReply}
use Rattle.mz_log.specs.declared.reply.SeqReply.TheVariants.{Created, Dropped, Refused}

-- the refusal of a column whose name an earlier one has
abbrev pub twin_name : Column → Refusal
twin_name column = refusal.NameTaken column.name

-- the refusal that a fault of the catalog is, none for want of memory
abbrev pub refusal_of : CatalogFault → Option Refusal
refusal_of (NameTaken name) = Some (refusal.NameTaken name)
refusal_of (TooMany limit) = Some (refusal.TooMany Items limit)
refusal_of (HasDependents name) = Some (refusal.HasDependents name)
refusal_of Memory = None

-- the reply tells the fault
abbrev pub Tells : CatalogFault → SeqReply → Type 0
Tells fault reply = (why : Refusal) × (refusal_of fault ≡ Some why) × (reply ≡ Refused why)

-- an item was made, or it was refused and the catalog is as before
abbrev pub IsMade : Option Refusal → Item → CatalogState → CatalogState → SeqReply → Type 0
IsMade None item before after reply = (reply ≡ Created before.next) × (after ≡ with_item before item)
IsMade (Some why) item before after reply = (reply ≡ Refused why) × (after ≡ before)

-- the item of this number was removed, or that was refused and the catalog is as before
abbrev pub IsRemoved : Option Refusal → ℕ → CatalogState → CatalogState → SeqReply → Type 0
IsRemoved None id before after reply = (reply ≡ Dropped) × (after ≡ without before id)
IsRemoved (Some why) id before after reply = (reply ≡ Refused why) × (after ≡ before)

-- a command is told this and comes to that, or it is refused and nothing comes of it
abbrev pub ComesTo : {A : Type 0} → Option Refusal → SeqReply → A → A → A → SeqReply → Type 0
ComesTo None told moved before after reply = (reply ≡ told) × (after ≡ moved)
ComesTo (Some why) told moved before after reply = (reply ≡ Refused why) × (after ≡ before)
