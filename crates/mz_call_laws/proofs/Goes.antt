-- What a legal entry makes of the calls: some get their reply, or there is one more.
use Rattle.std.proofs.Common.{◌≡◌, ◌⊎◌, ℕ, ◌≤◌, List, [], ◌∷◌, ◌++◌, map, Some, None, refl, sym, ◌∙◌, subst, inl, inr, arith, le_refl, map-id}
use Rattle.std.specs.List.{AllByRecursion as Each, list_any}
use Rattle.std.proofs.lemmas.Bool.{cond_both}
use Rattle.mz_rules.proofs.Each.{each_all, each_of}
use Rattle.mz_refusal.specs.declared.refusal.Refusal.{Refusal}
use Rattle.mz_log.specs.declared.entry.Entry.{Entry}
use Rattle.mz_log.specs.declared.entry.Entry.TheVariants.{Queue, Apply, Read, Finish, Refused, Instant, Cancel}
use Rattle.mz_log.specs.declared.reply.Reply.TheVariants as reply
use Rattle.mz_log.specs.Log.{Log}
use Rattle.mz_books.specs.Clusters.{cluster_of}
use Rattle.mz_books.specs.Holds.{transaction}
use Rattle.mz_books.specs.Calls.{Call, calls, ended, finished, is_call, new_call, replied_in, seen_in}
use Rattle.mz_books.specs.Answer.{as_of}
use Rattle.mz_books.specs.Legal.{Legal}
use Rattle.mz_call_laws.proofs.Flat.{none_any}
use Rattle.mz_call_laws.proofs.Options.{absent, present}
use Rattle.mz_call_laws.proofs.Accepted.{made_is}
use Rattle.mz_call_laws.proofs.Front.{none_found}
use Rattle.mz_call_laws.proofs.Times.{round_later}
use Rattle.mz_call_laws.proofs.Replied.{IsReplied, ended_is, finished_is, replied_is}
use Rattle.mz_call_laws.proofs.Transactions.{SessionUntil, at_once_seen}
use Rattle.mz_call_laws.proofs.Timed.{timed}
use Rattle.mz_call_laws.proofs.NewCalls.{IsNew, at_seen, read_behind, spent_call}

-- a reply comes at no earlier time than the call had
abbrev pub NotBefore : Call → ℕ → Type 0
NotBefore call time = call.stored.time ≤ time

-- some of the calls got their reply
pub record Change (before after : List Call) : Type 0 where
  pub change : Call → Call
  pub each : Each (λ c. IsReplied NotBefore c (change c)) before
  pub is : after ≡ map change before

-- there is one more call
pub record Addition (log : Log) (after : List Call) : Type 0 where
  pub call : Call
  pub new : IsNew log call
  pub is : after ≡ calls log ++ call ∷ []

-- either, or nothing happened
abbrev pub Goes : Log → List Call → Type 0
Goes log after = Change (calls log) after ⊎ Addition log after

-- a call is refused that waits, or that is made
refused_goes : (log : Log) (session number : ℕ) (text : List ℕ) (refusal : Refusal) → Legal (Refused session number text refusal ∷ log)
    → Goes log (calls (Refused session number text refusal ∷ log))
refused_goes log session number text refusal l =
    let told = reply.Refused refusal in
    let call = new_call session number (seen_in session (calls log)) text (Some told) None (cluster_of log session) None in
    cond_both (list_any (is_call session number) (calls log)) (map (ended session number (λ own. told)) (calls log)) (calls log ++ call ∷ []) (Goes log)
    (λ _. inl (record {
      change = ended session number (λ own. told);
      each = each_all _ (ended_is NotBefore (λ c. le_refl c.stored.time) session number (λ own. told)) (calls log);
      is = refl;
    }))
    (λ none. inr (record {
      call = call;
      new = elim l.1.may [
        | inl may ↦
            let made = made_is log session (Refused session number text refusal) may in
            at_seen log call refl refl made.is.next made.none_waits
        | inr spent ↦ absurd (spent_call log session number text refusal spent (none_any (is_call session number) (calls log) none))
      ];
      is = refl;
    }))

-- each legal entry goes so
pub goes : (entry : Entry) (log : Log) → Legal (entry ∷ log) → Goes log (calls (entry ∷ log))
goes (Queue session number statement) log l =
    let made = made_is log session (Queue session number statement) l.1.may in
    inr (record { call = _; new = at_seen log _ refl refl made.is.whose.next made.none_waits; is = refl })
goes (Read session number peek time statement collection) log l =
    let made = made_is log session (Read session number peek time statement collection) l.1.may in
    inr (record {
      call = _;
      new = record {
        next = made.is.whose.next;
        free = none_found session (calls log) made.none_waits;
        no_earlier = read_behind log session time statement (transaction log session) (as_of statement) refl refl (timed log l.0)
            made.is.picked made.is.from_seen;
        peeks = λ own some. present peek own some ∙ made.is.next_peek;
      };
      is = refl;
    })
goes (Instant session number statement time) log l =
    let made = made_is log session (Instant session number statement time) l.1.may in
    inr (record {
      call = _;
      new = record {
        next = made.is.whose.next;
        free = none_found session (calls log) made.none_waits;
        no_earlier = subst (λ t. SessionUntil session t (calls log)) (sym made.is.own_time)
            (at_once_seen log session (transaction log session) refl (timed log l.0));
        peeks = λ own none. absent own none;
      };
      is = refl;
    })
goes (Refused session number text refusal) log l = refused_goes log session number text refusal l
goes (Apply time replies) log l =
    let later = round_later log time replies l in
    inl (record {
      change = replied_in time replies;
      each = each_of _ _ (λ c until. replied_is NotBefore time replies c (λ _ _ _. omega arith)) (calls log) (timed log l.0).done;
      is = refl;
    })
goes (Finish peek rows) log l = inl (record {
  change = finished peek rows;
  each = each_all _ (finished_is NotBefore (λ c. le_refl c.stored.time) peek rows) (calls log);
  is = refl;
})
goes (Cancel session number) log l = inl (record {
  change = ended session number reply.Cancelled;
  each = each_all _ (ended_is NotBefore (λ c. le_refl c.stored.time) session number reply.Cancelled) (calls log);
  is = refl;
})
goes entry log l = inl (record { change = λ c. c; each = each_all _ (λ c. inl refl) (calls log); is = sym (map-id (calls log)) })
