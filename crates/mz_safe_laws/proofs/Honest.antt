-- Each legal log keeps its streams faithful, so the reports that count are honest, and the log is safe.
use Rattle.std.proofs.Common.{◌≡◌, ℕ, ◌==◌, true, false, List, [], ◌∷◌, sym, subst, refl, arith}
use Rattle.std.specs.Prelude.{IfSome}
use Rattle.std.specs.List.{AllByRecursion as Each, list_any}
use Rattle.std.proofs.lemmas.Bool.{eqb-false, ne_eqb}
use Rattle.mz_time.specs.Frontier.{Le}
use Rattle.mz_plan.specs.declared.command.PendingPeek.{PendingPeek}
use Rattle.mz_rules.proofs.Each.{each_of}
use Rattle.mz_log.specs.declared.entry.Entry.{Entry}
use Rattle.mz_log.specs.declared.entry.Entry.TheVariants.{Apply, Read, Finish, Cancel, Fed, Absorbed, Join, Crash}
use Rattle.mz_log.specs.declared.stream.Report.{Report}
use Rattle.mz_log.specs.Log.{Log}
use Rattle.mz_books.specs.Collections.{collections}
use Rattle.mz_books.specs.Holds.{is_of_call, is_peek, peeks_made, pending}
use Rattle.mz_books.specs.Legal.{Legal}
use Rattle.mz_books.specs.Owed.{owed}
use Rattle.mz_books.specs.Safe.{AreHonest, IsHonestOf, Safe, finishes_it}
use Rattle.mz_books.specs.Since.{since}
use Rattle.mz_books.specs.Streams.{new_lines, streams}
use Rattle.mz_safe_laws.proofs.PeekLines.{new_lines_fit}
use Rattle.mz_safe_laws.proofs.Reached.{IfAsked}
use Rattle.mz_safe_laws.proofs.Bundles.{IsHonestFor, IsHonestReport, if_some}
use Rattle.mz_safe_laws.proofs.Faithful.{IsFaithful, IsFaithfulStream, ended_faithful, read_faithful, told_faithful, untouched}
use Rattle.mz_safe_laws.proofs.FaithfulReplicas.{absorbed_faithful, crash_faithful, fed_faithful, join_faithful}
use Rattle.mz_safe_laws.proofs.SafeParts as parts
use Rattle.mz_safe_laws.proofs.Sound.{sinces_rise}

-- a peek that isn't the one of this number isn't finished by its rows
other_peek : (peek other : ℕ) → (other == peek) ≡ false → (peek == other) ≡ false
other_peek peek other e = ne_eqb peek other (λ same. eqb-false other peek e (sym same))

-- what each entry keeps. One that isn't named tells nothing and changes no peeks
faithful_then : (log : Log) (entry : Entry) → Legal (entry ∷ log) → IsFaithful log → IsFaithful (entry ∷ log)
faithful_then log (Apply time replies) l p =
    let longer : Log = Apply time replies ∷ log in
    let all = told_faithful log (owed longer) (pending log) (peeks_made log) (new_lines (collections log) (collections longer)) p
    (new_lines_fit (peeks_made log) (pending log) (collections log) (collections longer)) (untouched log (Apply time replies) l.1.in_turn (λ k. refl) p) in
    record { known = all.0; bundles = all.1 }
faithful_then log (Read session call peek time statement collection) l p = read_faithful log session call peek time statement collection l p
faithful_then log (Finish peek rows) l p =
    let all = ended_faithful log (Finish peek rows) (is_peek peek) l p (λ waiting e. other_peek peek waiting.peek e) in
    record { known = all.0; bundles = all.1 }
faithful_then log (Cancel session call) l p =
    let all = ended_faithful log (Cancel session call) (is_of_call session call) l p (λ waiting e. refl) in
    record { known = all.0; bundles = all.1 }
faithful_then log (Fed r i taken to) l p = fed_faithful log r i taken to l p
faithful_then log (Absorbed r i turn taken ready frontiers) l p = absorbed_faithful log r i turn taken ready frontiers l p
faithful_then log (Join r i cluster) l p = join_faithful log r i cluster l p
faithful_then log (Crash r) l p = crash_faithful log r l p
faithful_then log entry l p = record { known = p.known; bundles = untouched log entry l.1.in_turn (λ k. refl) p }

-- the opening has one stream, which has been told nothing
faithful_opening : IsFaithful []
faithful_opening = record {
  known = record { alone = (tt, tt); joined = (omega arith, tt); fed = tt };
  bundles = (record { fits = record { numbered = tt; agrees = tt }; fed = tt; report = tt }, tt);
}

-- so each legal log has faithful streams
pub faithful : (log : Log) → Legal log → IsFaithful log
faithful [] l = faithful_opening
faithful (entry ∷ log) l = faithful_then log entry l (faithful log l.0)

-- and honest reports
pub reports_are_honest : (log : Log) → Legal log → AreHonest log
reports_are_honest log l =
    let honest : List _ → Report → PendingPeek → Type 0 =
    λ lines report peek. list_any (finishes_it peek.peek) (owed log) ≡ false → IsHonestOf lines report peek in
    each_of (IsFaithfulStream log (owed log)) (λ s. s.live ≡ true → IfSome s.report (λ report. Each (honest s.commands report) (pending log)))
    (λ s b live. if_some (IsHonestReport (pending log) (owed log) s.commands) (λ report. Each (honest s.commands report) (pending log))
    (λ report q. each_of (IfAsked (IsHonestFor (owed log) report) report.taken s.commands) (honest s.commands report)
    (λ waiting kept free asks. kept asks free) (pending log) q.means) s.report b.report) (streams log) (faithful log l).bundles

-- so each legal log is safe
pub legal_logs_are_safe : (log : Log) → Legal log → Safe log
legal_logs_are_safe log l = record {
  holds_stand = parts.holds_stand log;
  peeks_stand = parts.peeks_stand log;
  told_holds = parts.told_holds log l;
  told_peeks = parts.told_peeks log l;
  readers_stand = parts.readers_stand log l;
  told_before = parts.told_before log l;
  from_as_of = parts.from_as_of log l;
  readable = parts.readable log l;
  uppers = parts.uppers log l;
  rising = λ before later e number.
      subst (λ whole. Le (since before number) (since whole number)) (sym e) (sinces_rise before later (subst Legal e l) number);
  honest = reports_are_honest log l;
}
