-- What is kept of a stream: its lines fit the pending peeks, it is as long as each feed of it said, and its report is honest.
use Rattle.std.proofs.Common.{◌≡◌, ℕ, ◌+◌, ◌≤◌, Bool, true, false, List, [], ◌∷◌, ◌++◌, length, filter, map, Option, Some, None, IfSome, arith, length-append}
use Rattle.std.specs.List.{AllByRecursion as Each, list_any}
use Rattle.std.proofs.lemmas.Bool.{cond_both}
use Rattle.mz_plan.specs.declared.command.Command.{Command}
use Rattle.mz_plan.specs.declared.command.PendingPeek.{PendingPeek}
use Rattle.mz_rules.proofs.Each.{each_filter, each_map, each_of, each_one}
use Rattle.mz_log.specs.declared.entry.Entry.{Entry}
use Rattle.mz_log.specs.declared.stream.Report.{Report}
use Rattle.mz_log.specs.declared.stream.Stream.{Stream}
use Rattle.mz_books.specs.Feeds.{MadeFeed}
use Rattle.mz_books.specs.Safe.{finishes_it}
use Rattle.mz_books.specs.Streams.{goes_on_from, is_stream, newer_report, told_more}
use Rattle.mz_safe_laws.proofs.Reached.{IsNumbered, Agrees, Reach, agrees_later, numbered_later, reach_fewer, reach_longer, reach_more, reach_of}
use Rattle.mz_safe_laws.proofs.PeekLines.{Fits, fits_append}

-- a report is no later than the peek, unless that is about to be finished
abbrev pub IsHonestFor : List Entry → Report → PendingPeek → Type 0
IsHonestFor owed report waiting = list_any (finishes_it waiting.peek) owed ≡ false → report.ready ≤ waiting.time

-- so it is with each pending peek to whose line the report has come
abbrev pub IsHonestReport : List PendingPeek → List Entry → List Command → Report → Type 0
IsHonestReport peeks owed lines report = Reach (IsHonestFor owed report) report.taken lines peeks

-- what is kept of a stream, by how many peeks were made, those that are pending, the feeds that were made, and what is owed
pub record Bundle (made : ℕ) (peeks : List PendingPeek) (fs : List MadeFeed) (owed : List Entry) (s : Stream) : Type 0 where
  pub fits : Fits made peeks s.commands
  pub fed : Each (λ f. is_stream f.replica f.incarnation s ≡ true → f.taken ≤ length s.commands) fs
  pub report : IfSome s.report (IsHonestReport peeks owed s.commands)

-- what follows from what is so of a value that may be there
pub if_some : {A : Type 0} (P Q : A → Type 0) → ((x : A) → P x → Q x) → (o : Option A) → IfSome o P → IfSome o Q
if_some P Q f None p = tt
if_some P Q f (Some x) p = f x p

-- a finish of the peek that was owed before is owed now
abbrev pub StaysOwed : List Entry → List Entry → PendingPeek → Type 0
StaysOwed before now waiting =
    list_any (finishes_it waiting.peek) now ≡ false → list_any (finishes_it waiting.peek) before ≡ false

-- nothing changes but what is owed
pub bundle_owed : (made : ℕ) (peeks : List PendingPeek) (fs : List MadeFeed) (before now : List Entry)
    → ((waiting : PendingPeek) → StaysOwed before now waiting) → (s : Stream) → Bundle made peeks fs before s → Bundle made peeks fs now s
bundle_owed made peeks fs before now f s b = record {
  fits = b.fits;
  fed = b.fed;
  report = if_some (IsHonestReport peeks before s.commands) (IsHonestReport peeks now s.commands)
      (λ report. reach_of (IsHonestFor before report) (IsHonestFor now report) (λ waiting q e. q (f waiting e)) report.taken s.commands peeks)
      s.report b.report;
}

-- some peeks are pending no more
pub bundle_fewer : (made : ℕ) (peeks : List PendingPeek) (fs : List MadeFeed) (before now : List Entry) (test : PendingPeek → Bool)
    → ((waiting : PendingPeek) → test waiting ≡ true → StaysOwed before now waiting) → (s : Stream) → Bundle made peeks fs before s
    → Bundle made (filter test peeks) fs now s
bundle_fewer made peeks fs before now test f s b = record {
  fits = record {
    numbered = b.fits.numbered;
    agrees = each_filter (λ waiting. Each (Agrees waiting) s.commands) test peeks b.fits.agrees;
  };
  fed = b.fed;
  report = if_some (IsHonestReport peeks before s.commands) (IsHonestReport (filter test peeks) now s.commands)
      (λ report. reach_fewer (IsHonestFor before report) (IsHonestFor now report) test (λ waiting h q e. q (f waiting h e)) report.taken s.commands peeks)
      s.report b.report;
}

-- one more peek is pending, which no line asks for yet
pub bundle_more : (made : ℕ) (peeks : List PendingPeek) (fs : List MadeFeed) (owed : List Entry) (waiting : PendingPeek)
    → waiting.peek ≡ made + 1 → (s : Stream) → Bundle made peeks fs owed s → Bundle (made + 1) (peeks ++ (waiting ∷ [])) fs owed s
bundle_more made peeks fs owed waiting next s b = record {
  fits = record {
    numbered = each_of (IsNumbered made) (IsNumbered (made + 1)) (numbered_later made (made + 1) (omega arith)) s.commands b.fits.numbered;
    agrees = each_one (λ other. Each (Agrees other) s.commands) peeks waiting b.fits.agrees
        (each_of (IsNumbered made) (Agrees waiting) (agrees_later made waiting (omega (arith, next))) s.commands b.fits.numbered);
  };
  fed = b.fed;
  report = if_some (IsHonestReport peeks owed s.commands) (IsHonestReport (peeks ++ (waiting ∷ [])) owed s.commands)
      (λ report. reach_more (IsHonestFor owed report) report.taken made s.commands peeks waiting (omega (arith, next)) b.fits.numbered)
      s.report b.report;
}

-- further lines, which fit
pub bundle_longer : (made : ℕ) (peeks : List PendingPeek) (fs : List MadeFeed) (owed : List Entry) (more : List Command) (s : Stream)
    → Fits made peeks more → Bundle made peeks fs owed s → Bundle made peeks fs owed (record s { commands = s.commands ++ more })
bundle_longer made peeks fs owed more s fit b = record {
  fits = fits_append made peeks s.commands more b.fits fit;
  fed = each_of (λ f. is_stream f.replica f.incarnation s ≡ true → f.taken ≤ length s.commands)
      (λ f. is_stream f.replica f.incarnation s ≡ true → f.taken ≤ length (s.commands ++ more))
      (λ f p e. omega (arith, p e, length-append s.commands more)) fs b.fed;
  report = if_some (IsHonestReport peeks owed s.commands) (IsHonestReport peeks owed (s.commands ++ more))
      (λ report. reach_longer (IsHonestFor owed report) report.taken s.commands more peeks) s.report b.report;
}

-- so it is with what an entry tells each replica, by its cluster
pub bundles_told : (made : ℕ) (peeks : List PendingPeek) (fs : List MadeFeed) (owed : List Entry) (lines : ℕ → List Command)
    → ((cluster : ℕ) → Fits made peeks (lines cluster)) → (ss : List Stream) → Each (Bundle made peeks fs owed) ss
    → Each (Bundle made peeks fs owed) (map (told_more lines) ss)
bundles_told made peeks fs owed lines fit ss p =
    each_map (Bundle made peeks fs owed) (Bundle made peeks fs owed) (told_more lines)
    (λ s b. cond_both s.live (record s { commands = s.commands ++ lines s.cluster }) s (Bundle made peeks fs owed)
    (λ e. bundle_longer made peeks fs owed (lines s.cluster) s (fit s.cluster) b) (λ e. b)) ss p

-- a feed more, which said no more than the stream has
pub bundle_fed : (made : ℕ) (peeks : List PendingPeek) (fs : List MadeFeed) (feed : MadeFeed) (owed : List Entry) (s : Stream)
    → (is_stream feed.replica feed.incarnation s ≡ true → feed.taken ≤ length s.commands) → Bundle made peeks fs owed s
    → Bundle made peeks (feed ∷ fs) owed s
bundle_fed made peeks fs feed owed s own b = record { fits = b.fits; fed = (own, b.fed); report = b.report }

-- of two reports one is kept
either_report : (P : Report → Type 0) (new : Report) (old : Option Report) → P new → IfSome old P → IfSome (newer_report new old) P
either_report P new None p q = p
either_report P new (Some old) p q = cond_both (goes_on_from new old) (Some new) (Some old) (λ o. IfSome o P) (λ e. p) (λ e. q)

-- a report more, which is honest
pub bundle_reported : (made : ℕ) (peeks : List PendingPeek) (fs : List MadeFeed) (owed : List Entry) (new : Report) (s : Stream)
    → IsHonestReport peeks owed s.commands new → Bundle made peeks fs owed s
    → Bundle made peeks fs owed (record s { report = newer_report new s.report })
bundle_reported made peeks fs owed new s p b = record {
  fits = b.fits;
  fed = b.fed;
  report = either_report (IsHonestReport peeks owed s.commands) new s.report p b.report;
}
