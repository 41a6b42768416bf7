-- The reads that wait, as the calls show them and as the log has them pending.
use Rattle.std.proofs.Common.{◌≡◌, ℕ, true, ◌==◌, ◌&&◌, List, [], ◌∷◌, ◌++◌, map, filter, find, Some, None, is_none, refl, sym, ap, ◌∙◌, append-nil, inl, inr}
use Rattle.std.specs.List.{AllByRecursion as Each, list_any}
use Rattle.std.proofs.lemmas.Bool.{both_ways, cond_both, and_parts, eqb-true}
use Rattle.std.proofs.lemmas.List.{map-append}
use Rattle.mz_rules.proofs.Each.{each_all}
use Rattle.mz_refusal.specs.declared.refusal.Refusal.{Refusal}
use Rattle.mz_plan.specs.declared.command.PendingPeek.{PendingPeek}
use Rattle.mz_log.specs.declared.entry.Entry.TheVariants.{Queue, Apply, Read, Finish, Refused, Instant, Cancel}
use Rattle.mz_log.specs.declared.entry.Replied.{Replied}
use Rattle.mz_log.specs.declared.reply.Reply.{Reply}
use Rattle.mz_log.specs.declared.reply.Reply.TheVariants as reply
use Rattle.mz_log.specs.Log.{Log}
use Rattle.mz_books.specs.Entries.{Queued, is_reply_to}
use Rattle.mz_books.specs.Rounds.{queued}
use Rattle.mz_books.specs.Clusters.{cluster_of}
use Rattle.mz_books.specs.Holds.{pending}
use Rattle.mz_books.specs.Calls.{Call, calls, ended, finished, is_call, is_waiting, new_call, replied_by, replied_in, seen_in, with_refusal, with_reply}
use Rattle.mz_books.specs.Legal.{Legal}
use Rattle.mz_call_laws.specs.Members.{Has}
use Rattle.mz_call_laws.specs.Waiting.{awaited, read_of, reads_in}
use Rattle.mz_call_laws.proofs.Flat.{filter_map, flat_append, flat_kept, flat_same}
use Rattle.mz_call_laws.proofs.Lists.{each_from, each_has, has_from}
use Rattle.mz_call_laws.proofs.Accepted.{made_is}
use Rattle.mz_call_laws.proofs.Front.{none_found}
use Rattle.mz_call_laws.proofs.Precedes.{one_waits}
use Rattle.mz_call_laws.proofs.Rounds.{queued_call, replied_command}
use Rattle.mz_call_laws.proofs.ReadSteps.{by_reply, is_other_peek, is_other_read, read_ended, read_finished, read_kept}

-- a round changes no read
read_replied : (log : Log) (time : ℕ) (replies : List Replied) → Legal (Apply time replies ∷ log) → (c : Call) → Has c (calls log)
    → read_of (replied_in time replies c) ≡ read_of c
read_replied log time replies l c there =
    cond_both (is_waiting c) (replied_by time (find (is_reply_to c.stored.session c.stored.call) replies) c) c (λ d. read_of d ≡ read_of c)
    (λ waits. by_reply time c (find (is_reply_to c.stored.session c.stored.call) replies)
    (λ told is. (replied_command log time replies l c told there waits is).no_peek))
    (λ _. refl)

-- a call that is refused is no read that waits
refused_no_peek : (log : Log) (session number : ℕ) (text : List ℕ) (refusal : Refusal) → Legal (Refused session number text refusal ∷ log)
    → (c : Call) → Has c (calls log) → is_call session number c ≡ true → is_waiting c ≡ true → c.peek ≡ None
refused_no_peek log session number text refusal l c there own waits =
    let mine = eqb-true c.stored.session session (and_parts (c.stored.session == session) (c.stored.call == number) own).0 in
    elim l.1.may [
      | inl call ↦
          let none = (made_is log session (Refused session number text refusal) call).none_waits in
          absurd (both_ways (is_waiting c) (each_has _ c (calls log) (none_found session (calls log) none) there mine) waits)
      | inr spent ↦
          let command : Queued = record { session = session; call = number; statement = spent.statement } in
          let asked = queued_call log command (has_from command (queued log) spent.waits) in
          let same = one_waits log l.0 asked.call c asked.there there (asked.is.session ∙ sym mine) (ap is_none asked.is.no_reply) waits in
          ap (λ d. d.peek) (sym same) ∙ asked.is.no_peek
    ]

-- so a refusal leaves the reads
read_refused : (session number : ℕ) (told : Reply) (c : Call)
    → (is_call session number c ≡ true → is_waiting c ≡ true → c.peek ≡ None) → read_of (ended session number (λ own. told) c) ≡ read_of c
read_refused session number told c none =
    cond_both (is_call session number c && is_waiting c) (with_reply c.stored.time told c) c (λ d. read_of d ≡ read_of c)
    (λ test.
    let both = and_parts (is_call session number c) (is_waiting c) test in
    read_kept c (with_reply c.stored.time told c) (none both.0 both.1) refl)
    (λ _. refl)

-- of all calls
reads_refused : (session number cluster time : ℕ) (text : List ℕ) (told : Reply) (cs : List Call)
    → Each (λ c. read_of (ended session number (λ own. told) c) ≡ read_of c) cs
    → reads_in (with_refusal session number text told cluster time cs) ≡ reads_in cs
reads_refused session number cluster time text told cs e =
    let refused = new_call session number time text (Some told) None cluster None in
    cond_both (list_any (is_call session number) cs) (map (ended session number (λ own. told)) cs) (cs ++ refused ∷ [])
    (λ l. reads_in l ≡ reads_in cs)
    (λ _. flat_same read_of (ended session number (λ own. told)) cs e)
    (λ _. flat_append read_of cs (refused ∷ []) ∙ append-nil (reads_in cs))

-- what the log has pending is what its calls show
pub pending_is : (log : Log) → Legal log → reads_in (calls log) ≡ map awaited (pending log)
pending_is [] l = refl
pending_is (Queue session number statement ∷ log) l =
    flat_append read_of (calls log) _ ∙ append-nil (reads_in (calls log)) ∙ pending_is log l.0
pending_is (Instant session number statement time ∷ log) l =
    flat_append read_of (calls log) _ ∙ append-nil (reads_in (calls log)) ∙ pending_is log l.0
pending_is (Read session number peek time statement collection ∷ log) l =
    let waiting : PendingPeek = record { peek = peek; session = session; call = number; collection = collection; time = time } in
    flat_append read_of (calls log) _ ∙ ap (λ reads. reads ++ awaited waiting ∷ []) (pending_is log l.0)
    ∙ sym (map-append awaited (pending log) (waiting ∷ []))
pending_is (Refused session number text refusal ∷ log) l =
    reads_refused session number (cluster_of log session) (seen_in session (calls log)) text (reply.Refused refusal) (calls log)
    (each_from _ (calls log)
    (λ c there. read_refused session number (reply.Refused refusal) c (refused_no_peek log session number text refusal l c there)))
    ∙ pending_is log l.0
pending_is (Apply time replies ∷ log) l =
    flat_same read_of (replied_in time replies) (calls log) (each_from _ (calls log) (read_replied log time replies l)) ∙ pending_is log l.0
pending_is (Finish peek rows ∷ log) l =
    flat_kept read_of (finished peek rows) (is_other_peek peek) (calls log)
    (each_all _ (λ c. read_finished peek rows c c.peek c.stored.reply) (calls log))
    ∙ ap (filter (is_other_peek peek)) (pending_is log l.0) ∙ sym (filter_map awaited (is_other_peek peek) (pending log))
pending_is (Cancel session number ∷ log) l =
    flat_kept read_of (ended session number reply.Cancelled) (is_other_read session number) (calls log)
    (each_all _ (λ c. read_ended session number reply.Cancelled c c.peek c.stored.reply) (calls log))
    ∙ ap (filter (is_other_read session number)) (pending_is log l.0) ∙ sym (filter_map awaited (is_other_read session number) (pending log))
pending_is (entry ∷ log) l = pending_is log l.0
