-- A read keeps its time.
use Rattle.std.proofs.Common.{◌≡◌, ℕ, List, [], ◌∷◌, ◌++◌, map, Some, None, refl, sym, subst, ◌∙◌, inl}
use Rattle.std.specs.List.{list_any}
use Rattle.std.proofs.lemmas.Bool.{cond_both}
use Rattle.mz_log.specs.declared.entry.Entry.{Entry}
use Rattle.mz_log.specs.declared.entry.Entry.TheVariants.{Queue, Apply, Read, Finish, Refused, Instant, Cancel}
use Rattle.mz_log.specs.declared.reply.Reply.TheVariants as reply
use Rattle.mz_log.specs.Log.{Log}
use Rattle.mz_books.specs.Clusters.{cluster_of}
use Rattle.mz_books.specs.Calls.{Call, calls, ended, finished, is_call, new_call, replied_in, seen_in}
use Rattle.mz_books.specs.Legal.{Legal}
use Rattle.mz_call_laws.specs.Members.{Has}
use Rattle.mz_call_laws.specs.RealTime.{IsSameRead}
use Rattle.mz_call_laws.proofs.Options.{absent}
use Rattle.mz_call_laws.proofs.Lists.{has_left, has_map}
use Rattle.mz_call_laws.proofs.Replied.{IsReplied, ended_is, finished_is, replied_is, replied_keeps, stays}
use Rattle.mz_call_laws.proofs.Precedes.{one_number}
use Rattle.mz_call_laws.proofs.Rounds.{replied_command}

-- the read is among these calls, with or without its reply
record Kept (read : Call) (cs : List Call) : Type 0 where
  now : Call
  there : Has now cs
  same : IsSameRead read now

-- a reply at its own time
abbrev AtOwn : Call → ℕ → Type 0
AtOwn call time = time ≡ call.stored.time

-- leaves it the same read
same_read : (before now : Call) → IsReplied AtOwn before now → IsSameRead before now
same_read before now is =
    let kept = stays AtOwn before now is in
    record {
      session = kept.session;
      number = kept.number;
      peek = kept.peek;
      time = replied_keeps AtOwn (λ c. c.stored.time ≡ before.stored.time) before now is refl (λ time told waits own. own);
    }

-- one such change after another
same_again : (first second third : Call) → IsSameRead first second → IsSameRead second third → IsSameRead first third
same_again first second third a b = record {
  session = b.session ∙ a.session;
  number = b.number ∙ a.number;
  peek = b.peek ∙ a.peek;
  time = b.time ∙ a.time;
}

-- where each call is changed, so is the read
kept_map : (read : Call) (change : Call → Call) (cs : List Call) → Has read cs → IsReplied AtOwn read (change read) → Kept read (map change cs)
kept_map read change cs there is =
    record { now = change read; there = has_map change read cs there; same = same_read read (change read) is }

-- where there are more calls, it is the same
kept_left : (read : Call) (cs more : List Call) → Has read cs → Kept read (cs ++ more)
kept_left read cs more there = record { now = read; there = has_left read cs more there; same = same_read read read (inl refl) }

-- each entry keeps a read
kept_once : (entry : Entry) (log : Log) → Legal (entry ∷ log) → (read : Call) (peek : ℕ) → Has read (calls log) → read.peek ≡ Some peek
    → Kept read (calls (entry ∷ log))
kept_once (Queue session number statement) log l read peek there some = kept_left read (calls log) _ there
kept_once (Read session number own time statement collection) log l read peek there some = kept_left read (calls log) _ there
kept_once (Instant session number statement time) log l read peek there some = kept_left read (calls log) _ there
kept_once (Refused session number text refusal) log l read peek there some =
    let told = reply.Refused refusal in
    cond_both (list_any (is_call session number) (calls log)) (map (ended session number (λ own. told)) (calls log))
    (calls log ++ new_call session number (seen_in session (calls log)) text (Some told) None (cluster_of log session) None ∷ []) (Kept read)
    (λ _. kept_map read (ended session number (λ own. told)) (calls log) there (ended_is AtOwn (λ c. refl) session number (λ own. told) read))
    (λ _. kept_left read (calls log) _ there)
kept_once (Apply time replies) log l read peek there some =
    kept_map read (replied_in time replies) (calls log) there
    (replied_is AtOwn time replies read
    (λ waits told is. absent peek (sym (replied_command log time replies l read told there waits is).no_peek ∙ some)))
kept_once (Finish own rows) log l read peek there some =
    kept_map read (finished own rows) (calls log) there (finished_is AtOwn (λ c. refl) own rows read)
kept_once (Cancel session number) log l read peek there some =
    kept_map read (ended session number reply.Cancelled) (calls log) there
    (ended_is AtOwn (λ c. refl) session number reply.Cancelled read)
kept_once entry log l read peek there some = record { now = read; there = there; same = same_read read read (inl refl) }

-- and so do all that come
kept : (log since : Log) → Legal (since ++ log) → (read : Call) (peek : ℕ) → Has read (calls log) → read.peek ≡ Some peek
    → Kept read (calls (since ++ log))
kept log [] l read peek there some = record { now = read; there = there; same = same_read read read (inl refl) }
kept log (entry ∷ since) l read peek there some =
    let before = kept log since l.0 read peek there some in
    let after = kept_once entry (since ++ log) l before.now peek before.there (before.same.peek ∙ some) in
    record { now = after.now; there = after.there; same = same_again read before.now after.now before.same after.same }

-- so the call of that session and number is that read
pub read_keeps : (log since : Log) (read call : Call) (peek : ℕ) → Legal (since ++ log) → Has read (calls log) → read.peek ≡ Some peek
    → Has call (calls (since ++ log)) → call.stored.session ≡ read.stored.session → call.stored.call ≡ read.stored.call
    → IsSameRead read call
read_keeps log since read call peek l there some here session number =
    let found = kept log since l read peek there some in
    let same = one_number (since ++ log) l found.now call found.there here (found.same.session ∙ sym session) (found.same.number ∙ sym number) in
    subst (IsSameRead read) same found.same
