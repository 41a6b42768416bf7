-- A longer log keeps the calls that have their replies, and its rounds place those that they reply to.
use Rattle.std.proofs.Common.{◌≡◌, ℕ, ◌&&◌, true, false, List, [], ◌∷◌, ◌++◌, find, map, Option, Some, None, is_some, refl, sym, ap, ◌∙◌, inl, inr}
use Rattle.std.specs.List.{list_any}
use Rattle.std.proofs.lemmas.Bool.{false≢true, cond_both}
use Rattle.mz_bag.specs.Weighted.{Weighted}
use Rattle.mz_statement.specs.declared.statement.Statement.{Statement}
use Rattle.mz_statement.specs.declared.statement.Statement.TheVariants.{ShowFrontiers}
use Rattle.mz_refusal.specs.declared.refusal.Refusal.{Refusal}
use Rattle.mz_log.specs.declared.entry.Entry.TheVariants.{Queue, Apply, Read, Finish, Refused, Instant, Cancel}
use Rattle.mz_log.specs.declared.entry.Replied.{Replied}
use Rattle.mz_log.specs.declared.reply.Reply.{Reply}
use Rattle.mz_log.specs.declared.reply.Reply.TheVariants as reply
use Rattle.mz_log.specs.Log.{Log}
use Rattle.mz_books.specs.Entries.{is_reply_to}
use Rattle.mz_books.specs.Clusters.{cluster_of}
use Rattle.mz_books.specs.Calls.{Call, awaits, calls, ended, finished, instant_reply, is_call, is_waiting, new_call, replied_by, replied_in, seen_in, with_refusal, with_reply}
use Rattle.mz_books.specs.Legal.{Legal}
use Rattle.mz_call_laws.specs.Members.{Has}
use Rattle.mz_call_laws.specs.RealTime.{IsPlaced, is_of_round}
use Rattle.mz_call_laws.proofs.Flat.{any_found}
use Rattle.mz_call_laws.proofs.Replied.{ended_is, finished_is, replied_is, stays}
use Rattle.mz_call_laws.proofs.Grown.{Grown, grown_has, grown_map, grown_of, grown_one, grown_same}

-- a call with the reply of a round was placed by these further entries
abbrev pub IsSet : (log since : Log) → Call → Type 0
IsSet log since call = is_of_round call.stored.reply ≡ true → IsPlaced log since call

-- a peek gives no round's reply, and leaves a call that has one
finished_set : (log since : Log) (peek : ℕ) (rows : Weighted) (c : Call) → IsSet log since c → IsSet log since (finished peek rows c)
finished_set log since peek rows c set =
    cond_both (awaits peek c) (with_reply c.stored.time (reply.Rows c.stored.time rows) c) c (IsSet log since)
    (λ _ of_round. absurd (false≢true of_round)) (λ _. set)

-- nor does an end
ended_set : (log since : Log) (session number : ℕ) (reply_at : ℕ → Reply) → ((time : ℕ) → is_of_round (Some (reply_at time)) ≡ false)
    → (c : Call) → IsSet log since c → IsSet log since (ended session number reply_at c)
ended_set log since session number reply_at other c set =
    cond_both (is_call session number c && is_waiting c) (with_reply c.stored.time (reply_at c.stored.time) c) c (IsSet log since)
    (λ _ of_round. absurd (false≢true (sym (other c.stored.time) ∙ of_round))) (λ _. set)

-- a round places what it replies to
by_round : (log since : Log) (time : ℕ) (replies : List Replied) (c : Call) (given : Option Replied)
    → find (is_reply_to c.stored.session c.stored.call) replies ≡ given → IsSet log since c
    → IsSet log (Apply time replies ∷ since) (replied_by time given c)
by_round log since time replies c None is set of_round = inr (set of_round)
by_round log since time replies c (Some told) is set of_round =
    inl (record { own_time = refl; replied = any_found (is_reply_to c.stored.session c.stored.call) replies ∙ ap is_some is })

-- and leaves the rest
replied_set : (log since : Log) (time : ℕ) (replies : List Replied) (c : Call) → IsSet log since c
    → IsSet log (Apply time replies ∷ since) (replied_in time replies c)
replied_set log since time replies c set =
    cond_both (is_waiting c) (replied_by time (find (is_reply_to c.stored.session c.stored.call) replies) c) c
    (IsSet log (Apply time replies ∷ since))
    (λ _. by_round log since time replies c (find (is_reply_to c.stored.session c.stored.call) replies) refl set)
    (λ _ of_round. inr (set of_round))

-- what is carried out at once isn't told by a round
instant_other : (log : Log) (statement : Statement) (time : ℕ) → is_of_round (Some (instant_reply log statement time)) ≡ false
instant_other log ShowFrontiers time = refl
instant_other log statement time = refl

-- a refusal keeps the calls that have their replies
grown_refused : (log since : Log) (session number cluster time : ℕ) (text : List ℕ) (refusal : Refusal) (xs ys : List Call)
    → Grown (IsSet log since) xs ys
    → Grown (IsSet log since) xs (with_refusal session number text (reply.Refused refusal) cluster time ys)
grown_refused log since session number cluster time text refusal xs ys g =
    let told = reply.Refused refusal in
    cond_both (list_any (is_call session number) ys) (map (ended session number (λ own. told)) ys)
    (ys ++ new_call session number time text (Some told) None cluster None ∷ []) (Grown (IsSet log since) xs)
    (λ _. grown_map _ _ (ended session number (λ own. told)) (ended_set log since session number (λ own. told) (λ _. refl))
    (λ c. (stays _ c _ (ended_is (λ _ _. Unit {0}) (λ _. tt) session number (λ own. told) c)).done) xs ys g)
    (λ _. grown_one (IsSet log since) xs ys _ (λ of_round. absurd (false≢true of_round)) g)

-- each entry keeps the calls that have their replies, and a round places those that it replies to
pub grown : (log since : Log) → Legal (since ++ log) → Grown (IsSet log since) (calls log) (calls (since ++ log))
grown log [] l = grown_same (IsSet log []) (calls log)
grown log (Queue session number statement ∷ since) l =
    grown_one (IsSet log since) (calls log) (calls (since ++ log)) _ (λ of_round. absurd (false≢true of_round)) (grown log since l.0)
grown log (Read session number peek time statement collection ∷ since) l =
    grown_one (IsSet log (Read session number peek time statement collection ∷ since)) (calls log) (calls (since ++ log)) _
    (λ of_round. absurd (false≢true of_round))
    (grown_of _ _ (λ c set own. inr (set own)) (calls log) (calls (since ++ log)) (grown log since l.0))
grown log (Instant session number statement time ∷ since) l =
    grown_one (IsSet log (Instant session number statement time ∷ since)) (calls log) (calls (since ++ log)) _
    (λ of_round. absurd (false≢true (sym (instant_other (since ++ log) statement time) ∙ of_round)))
    (grown_of _ _ (λ c set own. inr (set own)) (calls log) (calls (since ++ log)) (grown log since l.0))
grown log (Refused session number text refusal ∷ since) l =
    grown_refused log since session number (cluster_of (since ++ log) session) (seen_in session (calls (since ++ log))) text refusal
    (calls log) (calls (since ++ log)) (grown log since l.0)
grown log (Apply time replies ∷ since) l =
    grown_map _ _ (replied_in time replies) (replied_set log since time replies)
    (λ c. (stays _ c _ (replied_is (λ _ _. Unit {0}) time replies c (λ _ _ _. tt))).done) (calls log) (calls (since ++ log)) (grown log since l.0)
grown log (Finish peek rows ∷ since) l =
    grown_map _ _ (finished peek rows) (finished_set log since peek rows)
    (λ c. (stays _ c _ (finished_is (λ _ _. Unit {0}) (λ _. tt) peek rows c)).done) (calls log) (calls (since ++ log)) (grown log since l.0)
grown log (Cancel session number ∷ since) l =
    grown_map _ _ (ended session number reply.Cancelled) (ended_set log since session number reply.Cancelled (λ _. refl))
    (λ c. (stays _ c _ (ended_is (λ _ _. Unit {0}) (λ _. tt) session number reply.Cancelled c)).done)
    (calls log) (calls (since ++ log)) (grown log since l.0)
grown log (entry ∷ since) l = grown log since l.0

-- a call with its reply stays
pub reply_stays : (log since : Log) (call : Call) → Legal (since ++ log) → Has call (calls log) → is_waiting call ≡ false
    → Has call (calls (since ++ log))
reply_stays log since call l there done = grown_has (IsSet log since) call (calls log) (calls (since ++ log)) (grown log since l) done there
