-- The commands that wait are refused one after another, because no time is left.
use Rattle.std.proofs.Common.{◌≡◌, ℕ, true, false, cond, ◌==◌, ◌&&◌, List, [], ◌∷◌, ◌++◌, filter, length, map, not, None, Some, is_none, refl, sym, ap, ◌∙◌, subst, inl, inr}
use Rattle.std.specs.List.{AllByRecursion as Each, list_any}
use Rattle.std.proofs.lemmas.Bool.{and_from, and_left, and_parts, both_ways, cond-false, cond-true, cond_both, eq-eqb, eqb-true, ne_eqb, not_from_false}
use Rattle.std.proofs.lemmas.List.{length-map}
use Rattle.mz_rules.proofs.Each.{each_all, each_of}
use Rattle.mz_print.specs.Print.{print_of}
use Rattle.mz_refusal.specs.declared.refusal.Refusal.TheVariants.{TimeSpent}
use Rattle.mz_log.specs.declared.entry.Entry.{Entry}
use Rattle.mz_log.specs.declared.entry.Entry.TheVariants.{Refused}
use Rattle.mz_log.specs.declared.reply.Reply.TheVariants as reply
use Rattle.mz_log.specs.Log.{Log}
use Rattle.mz_books.specs.Clusters.{cluster_of}
use Rattle.mz_books.specs.Entries.{Queued, after}
use Rattle.mz_books.specs.Rounds.{last_time, open_round, queued}
use Rattle.mz_books.specs.Calls.{Call, calls, calls_of, ended, is_call, is_waiting, new_call, seen_in, with_reply}
use Rattle.mz_books.specs.Sessions.{calls_made, outstanding, seen}
use Rattle.mz_books.specs.Holds.{rest}
use Rattle.mz_books.specs.Owed.{IsInTurn, owed}
use Rattle.mz_books.specs.Legal.{Legal}
use Rattle.mz_books.specs.Given.{spent}
use Rattle.mz_call_laws.specs.Members.{Has, Pairwise}
use Rattle.mz_call_laws.specs.Waiting.{AreApart}
use Rattle.mz_call_laws.proofs.CommandSteps.{is_other}
use Rattle.mz_call_laws.proofs.Flat.{filter_all}
use Rattle.mz_call_laws.proofs.Lists.{contains_from, each_from}
use Rattle.mz_call_laws.proofs.Precedes.{one_waits}
use Rattle.mz_call_laws.proofs.Rounds.{queued_apart, queued_call}
use Rattle.mz_frames.proofs.Appended.{waiting_in}
use Rattle.mz_frames.proofs.Changed.{any_has, either_none, ended_keeps, made_changed, seen_changed, sessions_kept, waits_ended, waits_same}

-- ---- one command

-- the command is refused, because no time is left behind the last
abbrev pub refused_as : ℕ → Queued → Entry
refused_as last m = Refused m.session m.call (print_of m.statement) (TimeSpent last)

-- what a refusal makes of calls
abbrev refuse_call : ℕ → Queued → Call → Call
refuse_call last m = ended m.session m.call (λ own. reply.Refused (TimeSpent last))

-- the call that there would be, were the command none
abbrev refused_call : ℕ → Queued → Log → Call
refused_call last m log =
    new_call m.session m.call (seen_in m.session (calls log)) (print_of m.statement) (Some (reply.Refused (TimeSpent last))) None
    (cluster_of log m.session) None

-- a command that waits is a call that gets its reply
pub spent_calls : (log : Log) (last : ℕ) (m : Queued) → Has m (queued log)
    → calls (refused_as last m ∷ log) ≡ map (refuse_call last m) (calls log)
spent_calls log last m h =
    let asked = queued_call log m h in
    cond-true (list_any (is_call m.session m.call) (calls log)) (map (refuse_call last m) (calls log)) (calls log ++ refused_call last m log ∷ [])
    (any_has (is_call m.session m.call) asked.call (calls log) asked.there
    (and_from _ _ (eq-eqb asked.call.stored.session m.session asked.is.session) (eq-eqb asked.call.stored.call m.call asked.is.number)))

-- a call that is the command, if it waits, has its reply
call_done : (last : ℕ) (m : Queued) (c : Call) → (is_waiting c ≡ true → is_call m.session m.call c ≡ true)
    → is_waiting (refuse_call last m c) ≡ false
call_done last m c is =
    cond_both (is_call m.session m.call c && is_waiting c) (with_reply c.stored.time (reply.Refused (TimeSpent last)) c) c
    (λ d. is_waiting d ≡ false) (λ _. refl)
    (λ test. elim (is_waiting c) as (λ b. is_waiting c ≡ b → b ≡ false) [
      | true ↦ λ waits. absurd (both_ways (is_call m.session m.call c && is_waiting c) test (and_from _ _ (is waits) waits))
      | false ↦ λ _. refl
    ] refl)

-- a call of another session stays
call_other : (last : ℕ) (m : Queued) (c : Call) → (c.stored.session == m.session) ≡ false → refuse_call last m c ≡ c
call_other last m c other =
    cond_both (is_call m.session m.call c && is_waiting c) (with_reply c.stored.time (reply.Refused (TimeSpent last)) c) c (λ d. d ≡ c)
    (λ test.
    let own = and_parts (c.stored.session == m.session) (c.stored.call == m.call) (and_parts (is_call m.session m.call c) (is_waiting c) test).0 in
    absurd (both_ways (c.stored.session == m.session) other own.0))
    (λ _. refl)

-- so its session waits for none
pub spent_waits : (log : Log) → Legal log → (last : ℕ) (m : Queued) → Has m (queued log) → (other : ℕ)
    → outstanding (refused_as last m ∷ log) other ≡ cond (m.session == other) None (outstanding log other)
spent_waits log l last m h other =
    let asked = queued_call log m h in
    let kept = sessions_kept (refuse_call last m) (calls log) (ended_keeps m.session m.call (λ own. reply.Refused (TimeSpent last)) (calls log)) in
    ap (waiting_in other) (spent_calls log last m h)
    ∙ elim (m.session == other) as (λ b. (m.session == other) ≡ b
    → waiting_in other (map (refuse_call last m) (calls log)) ≡ cond b None (waiting_in other (calls log))) [
      | true ↦ λ own. waits_ended other (refuse_call last m) (calls log) kept
          (each_from _ (calls log)
          (λ c there mine. call_done last m c
          (λ waits.
          let its : c.stored.session ≡ m.session = mine ∙ sym (eqb-true m.session other own) in
          let same = one_waits log l c asked.call there asked.there (its ∙ sym asked.is.session) waits (ap is_none asked.is.no_reply) in
          and_from _ _ (eq-eqb c.stored.session m.session its)
          (eq-eqb c.stored.call m.call (ap (λ d. d.stored.call) same ∙ asked.is.number)))))
      | false ↦ λ apart. waits_same other (refuse_call last m) (calls log) kept
          (each_all _ (λ c mine. call_other last m c
          (ne_eqb c.stored.session m.session
          (λ own. both_ways (m.session == other) apart (eq-eqb m.session other (sym own ∙ mine))))) (calls log))
    ] refl

-- a session has made as many calls
pub spent_made : (log : Log) (last : ℕ) (m : Queued) → Has m (queued log) → (other : ℕ)
    → calls_made (refused_as last m ∷ log) other ≡ calls_made log other
spent_made log last m h other =
    ap (λ cs. length (calls_of other cs)) (spent_calls log last m h)
    ∙ made_changed other (refuse_call last m) (calls log)
    (sessions_kept (refuse_call last m) (calls log) (ended_keeps m.session m.call (λ own. reply.Refused (TimeSpent last)) (calls log)))

-- there are as many calls
pub spent_long : (log : Log) (last : ℕ) (m : Queued) → Has m (queued log) → length (calls (refused_as last m ∷ log)) ≡ length (calls log)
spent_long log last m h = ap length (spent_calls log last m h) ∙ length-map (calls log) (refuse_call last m)

-- and no session has seen another time
pub spent_seen : (log : Log) (last : ℕ) (m : Queued) → Has m (queued log) → (other : ℕ)
    → seen (refused_as last m ∷ log) other ≡ seen log other
spent_seen log last m h other =
    ap (seen_in other) (spent_calls log last m h)
    ∙ seen_changed other (refuse_call last m) (calls log) (ended_keeps m.session m.call (λ own. reply.Refused (TimeSpent last)) (calls log))

-- ---- all commands

-- these commands wait, no round is open, and no time is left behind this one
pub record IsSpending (last : ℕ) (ms : List Queued) (log : Log) : Type 0 where
  pub legal : Legal log
  pub whole : owed log ≡ []
  pub none_open : open_round log ≡ None
  pub own_last : last ≡ last_time log
  pub queue : queued log ≡ ms

-- commands of other sessions are other calls
others_stay : (m : Queued) (ms : List Queued) → Each (AreApart m) ms → Each (λ n. is_other m.session m.call n ≡ true) ms
others_stay m ms apart =
    each_of _ _ (λ n other. not_from_false _ (and_left (n.session == m.session) (n.call == m.call)
    (ne_eqb n.session m.session (λ same. both_ways (m.session == n.session) other (eq-eqb m.session n.session (sym same)))))) ms apart

-- the first goes, the others stay
first_goes : (m : Queued) (ms : List Queued) → Pairwise AreApart (m ∷ ms) → filter (is_other m.session m.call) (m ∷ ms) ≡ ms
first_goes m ms apart =
    cond-false _ _ _ (ap not (and_from _ _ (eq-eqb m.session m.session refl) (eq-eqb m.call m.call refl)))
    ∙ filter_all (is_other m.session m.call) ms (others_stay m ms apart.0)

-- the first is refused, and the others wait still
pub spending_next : (last : ℕ) (m : Queued) (ms : List Queued) (log : Log) → IsSpending last (m ∷ ms) log
    → IsSpending last ms (refused_as last m ∷ log)
spending_next last m ms log s =
    let there : Has m (queued log) = subst (Has m) (sym s.queue) (inl refl) in
    record {
      legal = (
        s.legal,
        record {
          may = inr (record {
            statement = m.statement;
            waits = contains_from m (queued log) there;
            own_text = refl;
            none_open = s.none_open;
            spent = ap TimeSpent s.own_last;
          });
          in_turn = subst (λ es. IsInTurn es (refused_as last m)) (sym s.whole) tt;
        },
      );
      whole = ap (λ es. rest es ++ []) s.whole;
      none_open = s.none_open;
      own_last = s.own_last;
      queue = ap (filter (is_other m.session m.call)) s.queue ∙ first_goes m ms (subst (Pairwise AreApart) s.queue (queued_apart log s.legal));
    }

-- in the end none waits
pub spending_end : (last : ℕ) (ms : List Queued) (log : Log) → IsSpending last ms log → IsSpending last [] (after (spent last ms) log)
spending_end last [] log s = s
spending_end last (m ∷ ms) log s = spending_end last ms (refused_as last m ∷ log) (spending_next last m ms log s)

-- what the refusal of a command leaves, all of them leave
pub spending_leaves : {A : Type 0} (view : Log → A)
    → ((log : Log) (last : ℕ) (m : Queued) → Has m (queued log) → view (refused_as last m ∷ log) ≡ view log)
    → (last : ℕ) (ms : List Queued) (log : Log) → IsSpending last ms log → view (after (spent last ms) log) ≡ view log
spending_leaves view leaves last [] log s = refl
spending_leaves view leaves last (m ∷ ms) log s =
    spending_leaves view leaves last ms (refused_as last m ∷ log) (spending_next last m ms log s)
    ∙ leaves log last m (subst (Has m) (sym s.queue) (inl refl))

-- the session of each waits for none
pub spending_waits : (last : ℕ) (ms : List Queued) (log : Log) → IsSpending last ms log → (other : ℕ)
    → outstanding (after (spent last ms) log) other ≡ cond (list_any (λ m. m.session == other) ms) None (outstanding log other)
spending_waits last [] log s other = refl
spending_waits last (m ∷ ms) log s other =
    spending_waits last ms (refused_as last m ∷ log) (spending_next last m ms log s) other
    ∙ ap (cond (list_any (λ n. n.session == other) ms) None)
    (spent_waits log s.legal last m (subst (Has m) (sym s.queue) (inl refl)) other)
    ∙ either_none (m.session == other) (list_any (λ n. n.session == other) ms) (outstanding log other)

-- ---- the queue

-- the commands that wait are those of a log whose queue is refused
pub spending : (log : Log) → Legal log → owed log ≡ [] → open_round log ≡ None → IsSpending (last_time log) (queued log) log
spending log l whole none = record { legal = l; whole = whole; none_open = none; own_last = refl; queue = refl }

-- what the refusal of a command leaves, that of all leaves
pub spent_leaves : {A : Type 0} (view : Log → A)
    → ((log : Log) (last : ℕ) (m : Queued) → Has m (queued log) → view (refused_as last m ∷ log) ≡ view log)
    → (log : Log) → Legal log → owed log ≡ [] → open_round log ≡ None
    → view (after (spent (last_time log) (queued log)) log) ≡ view log
spent_leaves view leaves log l whole none =
    spending_leaves view leaves (last_time log) (queued log) log (spending log l whole none)

-- all of it is legal
pub all_spent_legal : (log : Log) → Legal log → owed log ≡ [] → open_round log ≡ None
    → Legal (after (spent (last_time log) (queued log)) log)
all_spent_legal log l whole none = (spending_end (last_time log) (queued log) log (spending log l whole none)).legal

-- then nothing is owed
pub all_spent_whole : (log : Log) → Legal log → owed log ≡ [] → open_round log ≡ None
    → owed (after (spent (last_time log) (queued log)) log) ≡ []
all_spent_whole log l whole none = (spending_end (last_time log) (queued log) log (spending log l whole none)).whole

-- no command waits
pub all_spent_queue : (log : Log) → Legal log → owed log ≡ [] → open_round log ≡ None
    → queued (after (spent (last_time log) (queued log)) log) ≡ []
all_spent_queue log l whole none = (spending_end (last_time log) (queued log) log (spending log l whole none)).queue

-- no session of one waits for a call
pub all_spent_waits : (log : Log) → Legal log → owed log ≡ [] → open_round log ≡ None → (other : ℕ)
    → outstanding (after (spent (last_time log) (queued log)) log) other
    ≡ cond (list_any (λ command. command.session == other) (queued log)) None (outstanding log other)
all_spent_waits log l whole none other = spending_waits (last_time log) (queued log) log (spending log l whole none) other

-- sessions have made as many calls
pub all_spent_made : (log : Log) → Legal log → owed log ≡ [] → open_round log ≡ None → (other : ℕ)
    → calls_made (after (spent (last_time log) (queued log)) log) other ≡ calls_made log other
all_spent_made log l whole none other =
    spent_leaves (λ l. calls_made l other) (λ l last m h. spent_made l last m h other) log l whole none

-- there are as many calls
pub all_spent_long : (log : Log) → Legal log → owed log ≡ [] → open_round log ≡ None
    → length (calls (after (spent (last_time log) (queued log)) log)) ≡ length (calls log)
all_spent_long log l whole none = spent_leaves (λ l. length (calls l)) spent_long log l whole none

-- sessions have seen no other time
pub all_spent_seen : (log : Log) → Legal log → owed log ≡ [] → open_round log ≡ None → (other : ℕ)
    → seen (after (spent (last_time log) (queued log)) log) other ≡ seen log other
all_spent_seen log l whole none other =
    spent_leaves (λ l. seen l other) (λ l last m h. spent_seen l last m h other) log l whole none

-- all of these
pub ruleset spent_ones = (all_spent_legal, all_spent_whole, all_spent_queue, all_spent_waits, all_spent_made, all_spent_long, all_spent_seen)
