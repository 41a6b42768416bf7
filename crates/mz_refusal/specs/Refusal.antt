-- The number of each refusal, and the text that is written behind it.
use Rattle.std.specs.Prelude.{ℕ, List, ◌++◌, codes}
use Rattle.std.specs.Fmt.{decimal}
use Rattle.mz_refusal.specs.declared.fault.CallFault.{CallFault}
use Rattle.mz_refusal.specs.declared.fault.CallFault.TheVariants.{Refused, Memory}
use Rattle.mz_refusal.specs.declared.refusal.Limited.{Limited}
use Rattle.mz_refusal.specs.declared.refusal.Limited.TheVariants.{Columns, Items, Sessions, Replicas, Calls, Feeds, Clusters}
use Rattle.mz_refusal.specs.declared.refusal.Refusal.{Refusal}
use Rattle.mz_refusal.specs.declared.refusal.Refusal.TheVariants.{Syntax, UnknownName, UnknownColumn, NameTaken, WrongType, LiteralRange, TooManyLeaves, HasDependents, TableFull, Busy, BeforeSession, BeforeSince, AfterRead, CatalogMoved, InTransaction, NoTransaction, TooMany, TimeSpent, Closed, BelowHold}

-- the number of a cause
abbrev pub refusal_number : Refusal → ℕ
refusal_number (Syntax at) = 1
refusal_number (UnknownName name) = 2
refusal_number (UnknownColumn name) = 3
refusal_number (NameTaken name) = 4
refusal_number (WrongType name) = 5
refusal_number (LiteralRange at) = 6
refusal_number (TooManyLeaves has) = 7
refusal_number (HasDependents name) = 8
refusal_number (TableFull has adds) = 9
refusal_number (Busy call) = 10
refusal_number (BeforeSession asked seen) = 11
refusal_number (BeforeSince asked since) = 12
refusal_number (AfterRead asked read) = 13
refusal_number (CatalogMoved ddl asked) = 14
refusal_number InTransaction = 15
refusal_number NoTransaction = 16
refusal_number (TooMany what limit) = 17
refusal_number (TimeSpent last) = 18
refusal_number Closed = 19
refusal_number (BelowHold at asked) = 20

-- the word for what there may be only so many of
abbrev pub limited_text : Limited → List ℕ
limited_text Columns = codes "columns"
limited_text Items = codes "items"
limited_text Sessions = codes "sessions"
limited_text Replicas = codes "replicas"
limited_text Calls = codes "calls"
limited_text Feeds = codes "feeds"
limited_text Clusters = codes "clusters"

-- the text of a cause, with its numbers in decimal
abbrev pub refusal_text : Refusal → List ℕ
refusal_text (Syntax at) = codes ": at " ++ decimal at
refusal_text (UnknownName name) = codes ": " ++ name
refusal_text (UnknownColumn name) = codes ": " ++ name
refusal_text (NameTaken name) = codes ": " ++ name
refusal_text (WrongType name) = codes ": " ++ name
refusal_text (LiteralRange at) = codes ": at " ++ decimal at
refusal_text (TooManyLeaves has) = codes ": has " ++ decimal has
refusal_text (HasDependents name) = codes ": " ++ name
refusal_text (TableFull has adds) = codes ": has " ++ (decimal has ++ (codes ", adds " ++ decimal adds))
refusal_text (Busy call) = codes ": call " ++ decimal call
refusal_text (BeforeSession asked seen) = codes ": asked " ++ (decimal asked ++ (codes ", seen " ++ decimal seen))
refusal_text (BeforeSince asked since) = codes ": asked " ++ (decimal asked ++ (codes ", since " ++ decimal since))
refusal_text (AfterRead asked read) = codes ": asked " ++ (decimal asked ++ (codes ", read " ++ decimal read))
refusal_text (CatalogMoved ddl asked) = codes ": ddl " ++ (decimal ddl ++ (codes ", asked " ++ decimal asked))
refusal_text InTransaction = codes ": in transaction"
refusal_text NoTransaction = codes ": no transaction"
refusal_text (TooMany what limit) = codes ": " ++ (limited_text what ++ (codes " " ++ decimal limit))
refusal_text (TimeSpent last) = codes ": last " ++ decimal last
refusal_text Closed = codes ": closed"
refusal_text (BelowHold at asked) = codes ": at " ++ (decimal at ++ (codes ", asked " ++ decimal asked))

-- the text of a fault: a refusal with its number before it
abbrev pub fault_text : CallFault → List ℕ
fault_text (Refused refusal) = codes "refused " ++ (decimal (refusal_number refusal) ++ refusal_text refusal)
fault_text Memory = codes "out of memory"
