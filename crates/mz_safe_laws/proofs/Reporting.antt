-- The packet that is absorbed makes an honest report, and what becomes of a stream leaves its names.
use Rattle.std.specs.Prelude.{bytes_eq}
use Rattle.std.proofs.Common.{◌≡◌, ℕ, ◌+◌, ◌≤◌, ◌==◌, ◌&&◌, Bool, true, false, cond, List, [], ◌∷◌, ◌++◌, length, take, find, Some, refl, sym, ap, ◌∙◌, subst, inl, inr}
use Rattle.std.specs.List.{AllByRecursion as Each, list_any}
use Rattle.std.proofs.lemmas.Bool.{and_parts, cond_both, eqb-true, false≢true, or_cases, or_from, or_parts}
use Rattle.std.proofs.lemmas.List.Folds.{list_any-append}
use Rattle.std.proofs.lemmas.Slice.Eq.{bytes_eq-Decides}
use Rattle.mz_plan.specs.declared.command.Command.{Command}
use Rattle.mz_plan.specs.declared.command.PendingPeek.{PendingPeek}
use Rattle.mz_rules.specs.Joining.{allowances}
use Rattle.mz_rules.specs.declared.capability.Settled.{Settled}
use Rattle.mz_rules.proofs.Each.{each_both}
use Rattle.mz_log.specs.declared.entry.Entry.{Entry}
use Rattle.mz_log.specs.declared.entry.Entry.TheVariants.{Absorbed}
use Rattle.mz_log.specs.declared.stream.Report.{Report}
use Rattle.mz_log.specs.declared.stream.Stream.{Stream}
use Rattle.mz_log.specs.Log.{Log}
use Rattle.mz_books.specs.Feeds.{MadeFeed, feeds, is_feed, packet_answers}
use Rattle.mz_books.specs.Holds.{peeks_made, pending, rest}
use Rattle.mz_books.specs.Owed.{IsInTurn, answers_of, called_for, finishes, is_answered, owed}
use Rattle.mz_books.specs.Safe.{finishes_it}
use Rattle.mz_books.specs.Streams.{crashed, fed, is_stream, lines_in, newer_report, reporting, streams, told_more}
use Rattle.mz_safe_laws.proofs.Reached.{IfAsked, Reach}
use Rattle.mz_safe_laws.proofs.PacketAnswers.{IsMet, all_met, answered_finished}
use Rattle.mz_safe_laws.proofs.Incarnations.{KeepsNames}
use Rattle.mz_safe_laws.proofs.Bundles.{Bundle, IsHonestFor, IsHonestReport, StaysOwed}

-- ---- what is owed

-- what isn't owed after an entry wasn't owed before, unless it is the entry
not_owed : (test : Entry → Bool) (before more : List Entry) (entry : Entry) → IsInTurn before entry → test entry ≡ false
    → list_any test (rest before ++ more) ≡ false → list_any test before ≡ false
not_owed test [] more entry turn own h = refl
not_owed test (next ∷ later) more entry turn own h =
    or_from (test next) (list_any test later) (ap test (sym turn) ∙ own)
    (or_parts (list_any test later) (list_any test more) (sym (list_any-append test later more) ∙ h)).0

-- so it is with each peek that the entry doesn't finish
pub stays_owed : (log : Log) (entry : Entry) → IsInTurn (owed log) entry → (waiting : PendingPeek) → finishes_it waiting.peek entry ≡ false
    → StaysOwed (owed log) (owed (entry ∷ log)) waiting
stays_owed log entry turn waiting own h = not_owed (finishes_it waiting.peek) (owed log) (called_for log entry) entry turn own h

-- ---- the report of a packet

-- a stream is as long as the feed said that its replica took
fed_within : (replica : List ℕ) (incarnation taken ready : ℕ) (s : Stream) → is_stream replica incarnation s ≡ true → (fs : List MadeFeed)
    → Each (λ f. is_stream f.replica f.incarnation s ≡ true → f.taken ≤ length s.commands) fs
    → list_any (is_feed replica incarnation taken ready) fs ≡ true → taken ≤ length s.commands
fed_within replica incarnation taken ready s mine [] p e = absurd (false≢true e)
fed_within replica incarnation taken ready s mine (f ∷ fs) p e =
    elim (or_cases (is_feed replica incarnation taken ready f) (list_any (is_feed replica incarnation taken ready) fs) e) [
      | inl own ↦
          let parts = and_parts (bytes_eq f.replica replica && (f.incarnation == incarnation)) ((f.taken == taken) && (f.to + 1 == ready)) own in
          let whose = and_parts (bytes_eq f.replica replica) (f.incarnation == incarnation) parts.0 in
          let is = ap (λ k. is_stream k f.incarnation s) ((bytes_eq-Decides f.replica replica).0 whose.0)
          ∙ (ap (λ k. is_stream replica k s) (eqb-true f.incarnation incarnation whose.1) ∙ mine) in
          subst (λ k. k ≤ length s.commands) (eqb-true f.taken taken (and_parts (f.taken == taken) (f.to + 1 == ready) parts.1).0) (p.0 is)
      | inr later ↦ fed_within replica incarnation taken ready s mine fs p.1 later
    ]

-- what a packet means for a peek, it means for its report: a peek that it answers is about to be finished
honest_for : (log : Log) (answers : List ℕ) (new : Report) (waiting : PendingPeek)
    → (is_answered answers waiting ≡ true → list_any (finishes_it waiting.peek) (finishes log answers) ≡ true)
    → IsMet new.ready answers waiting → IsHonestFor (rest (owed log) ++ finishes log answers) new waiting
honest_for log answers new waiting all (inl late) h = late
honest_for log answers new waiting all (inr answer) h =
    absurd (false≢true (sym (or_parts (list_any (finishes_it waiting.peek) (rest (owed log))) (list_any (finishes_it waiting.peek) (finishes log answers))
    (sym (list_any-append (finishes_it waiting.peek) (rest (owed log)) (finishes log answers)) ∙ h)).1 ∙ all answer))

-- the report that a packet makes is honest
pub honest_report : (log : Log) (replica : List ℕ) (incarnation turn taken ready : ℕ) (frontiers : List (ℕ × ℕ))
    → list_any (is_feed replica incarnation taken ready) (feeds log) ≡ true → (s : Stream) → is_stream replica incarnation s ≡ true
    → find (is_stream replica incarnation) (streams log) ≡ Some s → Bundle (peeks_made log) (pending log) (feeds log) (owed log) s
    → IsHonestReport (pending log) (owed (Absorbed replica incarnation turn taken ready frontiers ∷ log)) s.commands
    (record { turn = turn; taken = taken; ready = ready })
honest_report log replica incarnation turn taken ready frontiers of_feed s mine is_own b =
    let entry = Absorbed replica incarnation turn taken ready frontiers in
    let new : Report = record { turn = turn; taken = taken; ready = ready } in
    let answers = answers_of log replica incarnation taken ready in
    let met : Reach (IsMet ready answers) taken s.commands (pending log) =
    subst (λ lines. Reach (IsMet ready (packet_answers (take taken lines) ready)) taken s.commands (pending log)) (sym (ap lines_in is_own))
    (all_met ready taken s.commands (pending log) (fed_within replica incarnation taken ready s mine (feeds log) b.fed of_feed) b.fits.agrees) in
    record {
      within = met.within;
      means = each_both (λ waiting. is_answered answers waiting ≡ true → list_any (finishes_it waiting.peek) (finishes log answers) ≡ true)
          (IfAsked (IsMet ready answers) taken s.commands) (IfAsked (IsHonestFor (owed (entry ∷ log)) new) taken s.commands)
          (λ waiting all q e. honest_for log answers new waiting all (q e)) (pending log) (answered_finished log answers) met.means;
    }

-- ---- what becomes of a stream leaves its names

-- what keeps the names of each stream, done to some
keeps_if : (test : Stream → Bool) (f : Stream → Stream) → KeepsNames f → KeepsNames (λ s. cond (test s) (f s) s)
keeps_if test f keeps = record {
  replica = λ s. cond_both (test s) (f s) s (λ x. x.replica ≡ s.replica) (λ e. keeps.replica s) (λ e. refl);
  incarnation = λ s. cond_both (test s) (f s) s (λ x. x.incarnation ≡ s.incarnation) (λ e. keeps.incarnation s) (λ e. refl);
}

-- further lines
pub keeps_told : (lines : ℕ → List Command) → KeepsNames (told_more lines)
keeps_told lines = keeps_if (λ s. s.live) (λ s. record s { commands = s.commands ++ lines s.cluster }) (record { replica = λ s. refl; incarnation = λ s. refl })

-- a feed
pub keeps_fed : (replica : List ℕ) (incarnation : ℕ) (ss : List Settled) → KeepsNames (fed replica incarnation ss)
keeps_fed replica incarnation ss =
    keeps_if (is_stream replica incarnation) (λ s. record s { commands = s.commands ++ allowances ss s.commands })
    (record { replica = λ s. refl; incarnation = λ s. refl })

-- a report
pub keeps_reporting : (replica : List ℕ) (incarnation : ℕ) (new : Report) → KeepsNames (reporting replica incarnation new)
keeps_reporting replica incarnation new =
    keeps_if (λ s. s.live && is_stream replica incarnation s) (λ s. record s { report = newer_report new s.report })
    (record { replica = λ s. refl; incarnation = λ s. refl })

-- the loss of a replica
pub keeps_crashed : (replica : List ℕ) → KeepsNames (crashed replica)
keeps_crashed replica =
    keeps_if (λ s. bytes_eq s.replica replica) (λ s. record s { live = false }) (record { replica = λ s. refl; incarnation = λ s. refl })
