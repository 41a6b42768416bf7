-- What a call asks for stays, whatever becomes of its time and its reply.
use Rattle.std.proofs.Common.{◌≡◌, ℕ, Bool, true, false, cond, List, [], ◌∷◌, map, find, Option, None, Some, ◌&&◌, refl, sym, subst}
use Rattle.std.proofs.lemmas.Bool.{cond_both}
use Rattle.std.specs.List.{AllByRecursion as Each, list_any}
use Rattle.mz_bag.specs.Weighted.{Weighted}
use Rattle.mz_statement.specs.declared.statement.Statement.{Statement}
use Rattle.mz_plan_laws.proofs.TypedValues.{each_append}
use Rattle.mz_log.specs.declared.entry.Entry.{Entry}
use Rattle.mz_log.specs.declared.entry.Entry.TheVariants.{Queue, Apply, Read, Finish, Refused, Instant, Cancel}
use Rattle.mz_log.specs.declared.entry.Replied.{Replied}
use Rattle.mz_log.specs.declared.reply.Reply.{Reply}
use Rattle.mz_log.specs.declared.reply.Reply.TheVariants as reply
use Rattle.mz_log.specs.Log.{Log}
use Rattle.mz_books.specs.Entries.{is_reply_to}
use Rattle.mz_books.specs.Clusters.{cluster_of}
use Rattle.mz_books.specs.Calls.{Call, awaits, calls, ended, finished, is_call, is_waiting, replied_by, replied_in, with_refusal, with_reply}

-- what is said of a call by its peek, its statement and its cluster
abbrev pub Saying : Type 1
Saying = Option ℕ → Option Statement → ℕ → Type 0

-- it is said of each call
abbrev pub EachSaid : Saying → List Call → Type 0
EachSaid P cs = Each (λ c. P c.peek c.statement c.cluster) cs

-- a call that asks for the same
pub record AsksSame (before after : Call) : Type 0 where
  pub peek : after.peek ≡ before.peek
  pub statement : after.statement ≡ before.statement
  pub cluster : after.cluster ≡ before.cluster

-- the call itself, with whatever time and reply
same_call : (c : Call) (time : ℕ) (told : Reply) → AsksSame c (with_reply time told c)
same_call c time told = record { peek = refl; statement = refl; cluster = refl }

-- a round may reply to it
same_by : (time : ℕ) (found : Option Replied) (c : Call) → AsksSame c (replied_by time found c)
same_by time None c = record { peek = refl; statement = refl; cluster = refl }
same_by time (Some replied) c = same_call c time (reply.Command replied.reply)

-- by a test one or the other
same_either : (b : Bool) (c one : Call) → AsksSame c one → AsksSame c (cond b one c)
same_either true c one h = h
same_either false c one h = record { peek = refl; statement = refl; cluster = refl }

-- a round
same_replied : (time : ℕ) (replies : List Replied) (c : Call) → AsksSame c (replied_in time replies c)
same_replied time replies c = same_either (is_waiting c) c _ (same_by time (find (is_reply_to c.stored.session c.stored.call) replies) c)

-- a peek
same_finished : (peek : ℕ) (rows : Weighted) (c : Call) → AsksSame c (finished peek rows c)
same_finished peek rows c = same_either (awaits peek c) c _ (same_call c _ _)

-- an end
same_ended : (session number : ℕ) (told : ℕ → Reply) (c : Call) → AsksSame c (ended session number told c)
same_ended session number told c = same_either (is_call session number c && is_waiting c) c _ (same_call c _ _)

-- what is said of calls is said of them after a step that leaves what they ask for
said_map : (P : Saying) (f : Call → Call) → ((c : Call) → AsksSame c (f c)) → (cs : List Call) → EachSaid P cs → EachSaid P (map f cs)
said_map P f same [] h = tt
said_map P f same (c ∷ cs) h = (
  subst (λ peek. P peek (f c).statement (f c).cluster) (sym (same c).peek)
      (subst (λ said. P c.peek said (f c).cluster) (sym (same c).statement) (subst (P c.peek c.statement) (sym (same c).cluster) h.0)),
  said_map P f same cs h.1,
)

-- a call that is refused, or a new one
said_refused : (P : Saying) (session number : ℕ) (text : List ℕ) (told : Reply) (cluster time : ℕ) (cs : List Call) → P None None cluster
    → EachSaid P cs → EachSaid P (with_refusal session number text told cluster time cs)
said_refused P session number text told cluster time cs new h =
    cond_both (list_any (is_call session number) cs) _ _ (EachSaid P)
    (λ _. said_map P (ended session number (λ own. told)) (same_ended session number (λ own. told)) cs h)
    (λ _. each_append (λ c. P c.peek c.statement c.cluster) cs _ h (new, tt))

-- it is said of the call that the entry makes
abbrev pub SaidOfNew : Saying → Log → Entry → Type 0
SaidOfNew P log (Queue session number statement) = P None (Some statement) (cluster_of log session)
SaidOfNew P log (Read session number peek time statement collection) = P (Some peek) (Some statement) (cluster_of log session)
SaidOfNew P log (Instant session number statement time) = P None (Some statement) (cluster_of log session)
SaidOfNew P log (Refused session number text refusal) = P None None (cluster_of log session)
SaidOfNew P log entry = Unit {0}

-- so it is said of each call once an entry more is there
pub said_on : (P : Saying) (log : Log) (entry : Entry) → SaidOfNew P log entry → EachSaid P (calls log) → EachSaid P (calls (entry ∷ log))
said_on P log (Queue session number statement) new h = each_append (λ c. P c.peek c.statement c.cluster) (calls log) _ h (new, tt)
said_on P log (Read session number peek time statement collection) new h =
    each_append (λ c. P c.peek c.statement c.cluster) (calls log) _ h (new, tt)
said_on P log (Instant session number statement time) new h = each_append (λ c. P c.peek c.statement c.cluster) (calls log) _ h (new, tt)
said_on P log (Refused session number text refusal) new h = said_refused P session number text _ _ _ (calls log) new h
said_on P log (Apply time replies) new h = said_map P (replied_in time replies) (same_replied time replies) (calls log) h
said_on P log (Finish peek rows) new h = said_map P (finished peek rows) (same_finished peek rows) (calls log) h
said_on P log (Cancel session number) new h =
    said_map P (ended session number reply.Cancelled) (same_ended session number reply.Cancelled) (calls log) h
said_on P log entry new h = h
