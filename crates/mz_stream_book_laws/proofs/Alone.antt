-- In a legal log no two live streams are of one replica.
use Rattle.std.specs.Prelude.{bytes_eq}
use Rattle.std.proofs.Common.{◌≡◌, ℕ, ◌&&◌, Bool, true, false, true≢false, cond, List, [], ◌∷◌, ◌++◌, map, find, Option, Some, None, refl, sym, ◌∙◌, inl, inr}
use Rattle.std.specs.List.{AllByRecursion as Each}
use Rattle.std.proofs.lemmas.Bool.{and_from, and_parts, cases_Bool, cond-false, cond-true, cond_both}
use Rattle.std.proofs.lemmas.Slice.Eq.{bytes_eq-Decides}
use Rattle.mz_rules.proofs.Each.{each_map, each_of, each_one}
use Rattle.mz_log.specs.declared.entry.Entry.TheVariants.{Apply, Read, Finish, Cancel, Fed, Absorbed, Join, Crash}
use Rattle.mz_log.specs.declared.stream.Report.{Report}
use Rattle.mz_log.specs.declared.stream.Stream.{Stream}
use Rattle.mz_log.specs.Log.{Log}
use Rattle.mz_rules.specs.declared.capability.Settled.{Settled}
use Rattle.mz_rules.specs.Joining.{allowances, joining}
use Rattle.mz_plan.specs.declared.command.Command.{Command}
use Rattle.mz_books.specs.Holds.{pending}
use Rattle.mz_books.specs.Legal.{Legal}
use Rattle.mz_books.specs.Since.{settled}
use Rattle.mz_books.specs.Streams.{crashed, fed, is_live_of, is_stream, joining_stream, newer_report, reporting, streams, told_more}

-- a stream isn't a live one of this replica
abbrev pub IsOther : List ℕ → Stream → Type 0
IsOther replica s = s.live ≡ true → s.replica ≡ replica → ⊥

-- no two live ones are of one replica
abbrev pub AreAlone : List Stream → Type 0
AreAlone [] = Unit {0}
AreAlone (s ∷ ss) = (s.live ≡ true → Each (IsOther s.replica) ss) × AreAlone ss

-- ---- kept by changes

-- a change keeps the replica of a stream, and makes none live
pub record KeepsReplicas (f : Stream → Stream) : Type 0 where
  pub replica : (s : Stream) → (f s).replica ≡ s.replica
  pub live : (s : Stream) → (f s).live ≡ true → s.live ≡ true

-- so no two are after it
alone_map : (f : Stream → Stream) → KeepsReplicas f → (ss : List Stream) → AreAlone ss → AreAlone (map f ss)
alone_map f keeps [] p = tt
alone_map f keeps (s ∷ ss) p = (
  (λ e. each_map (IsOther s.replica) (IsOther (f s).replica) f
      (λ x other live same. other (keeps.live x live) (sym (keeps.replica x) ∙ (same ∙ keeps.replica s))) ss (p.0 (keeps.live s e))),
  alone_map f keeps ss p.1,
)

-- further lines do so
pub keeps_told : (lines : ℕ → List Command) → KeepsReplicas (told_more lines)
keeps_told lines = record {
  replica = λ s. cond_both s.live (record s { commands = s.commands ++ lines s.cluster }) s (λ x. x.replica
      ≡ s.replica) (λ e. refl) (λ e. refl);
  live = λ s. cond_both s.live (record s { commands = s.commands ++ lines s.cluster }) s (λ x. x.live ≡ true → s.live
      ≡ true) (λ e h. h) (λ e h. h);
}

-- and a feed
pub keeps_fed : (replica : List ℕ) (incarnation : ℕ) (ss : List Settled) → KeepsReplicas (fed replica incarnation ss)
keeps_fed replica incarnation ss = record {
  replica = λ s. cond_both (is_stream replica incarnation s) (record s { commands = s.commands ++ allowances ss s.commands }) s
      (λ x. x.replica ≡ s.replica) (λ e. refl) (λ e. refl);
  live = λ s. cond_both (is_stream replica incarnation s) (record s { commands = s.commands ++ allowances ss s.commands }) s
      (λ x. x.live ≡ true → s.live ≡ true) (λ e h. h) (λ e h. h);
}

-- and a report
pub keeps_reported : (replica : List ℕ) (incarnation : ℕ) (new : Report) → KeepsReplicas (reporting replica incarnation new)
keeps_reported replica incarnation new = record {
  replica = λ s. cond_both (s.live && is_stream replica incarnation s) (record s { report = newer_report new s.report }) s
      (λ x. x.replica ≡ s.replica) (λ e. refl) (λ e. refl);
  live = λ s. cond_both (s.live && is_stream replica incarnation s) (record s { report = newer_report new s.report }) s
      (λ x. x.live ≡ true → s.live ≡ true) (λ e h. h) (λ e h. h);
}

-- and a loss
pub keeps_crashed : (replica : List ℕ) → KeepsReplicas (crashed replica)
keeps_crashed replica = record {
  replica = λ s. cond_both (bytes_eq s.replica replica) (record s { live = false }) s (λ x. x.replica ≡ s.replica) (λ e. refl) (λ e. refl);
  live = λ s. cond_both (bytes_eq s.replica replica) (record s { live = false }) s (λ x. x.live ≡ true → s.live ≡ true)
      (λ e h. absurd (true≢false (sym h))) (λ e h. h);
}

-- ---- and by a joining

-- where a choice finds nothing, the first wasn't it and nothing else was found
none_first : {A : Type 0} (t : Bool) (x : A) (o : Option A) → cond t (Some x) o ≡ None → (t ≡ false) × (o ≡ None)
none_first true x o e = absurd (cc)
none_first false x o e = (refl, e)

-- a live one of the replica is found as such
is_live_one : (replica : List ℕ) (s : Stream) → s.live ≡ true → s.replica ≡ replica → is_live_of replica s ≡ true
is_live_one replica s live named = and_from s.live (bytes_eq s.replica replica) live ((bytes_eq-Decides s.replica replica).1 named)

-- where none is found, each is another
pub none_live : (replica : List ℕ) (ss : List Stream) → find (is_live_of replica) ss ≡ None → Each (IsOther replica) ss
none_live replica [] e = tt
none_live replica (s ∷ ss) e =
    let parts = none_first (is_live_of replica s) s (find (is_live_of replica) ss) e in
    ((λ live named. true≢false (sym (is_live_one replica s live named) ∙ parts.0)), none_live replica ss parts.1)

-- one of another replica may come
alone_more : (new : Stream) (ss : List Stream) → Each (IsOther new.replica) ss → AreAlone ss → AreAlone (ss ++ (new ∷ []))
alone_more new [] none p = ((λ live. tt), tt)
alone_more new (s ∷ ss) none p =
    ((λ live. each_one (IsOther s.replica) ss new (p.0 live) (λ it same. none.0 live (sym same))), alone_more new ss none.1 p.1)

-- ---- in each legal log

-- no two live streams of a legal log are of one replica
pub alone : (log : Log) → Legal log → AreAlone (streams log)
alone [] l = ((λ live. tt), tt)
alone (Apply time replies ∷ log) l = alone_map (told_more _) (keeps_told _) (streams log) (alone log l.0)
alone (Read session call peek time statement collection ∷ log) l = alone_map (told_more _) (keeps_told _) (streams log) (alone log l.0)
alone (Finish peek rows ∷ log) l = alone_map (told_more _) (keeps_told _) (streams log) (alone log l.0)
alone (Cancel session call ∷ log) l = alone_map (told_more _) (keeps_told _) (streams log) (alone log l.0)
alone (Fed replica incarnation taken to ∷ log) l =
    alone_map (fed replica incarnation (settled log)) (keeps_fed replica incarnation (settled log)) (streams log) (alone log l.0)
alone (Absorbed replica incarnation turn taken ready frontiers ∷ log) l =
    alone_map (reporting replica incarnation _) (keeps_reported replica incarnation _) (streams log) (alone log l.0)
alone (Join replica incarnation cluster ∷ log) l =
    alone_more (joining_stream replica incarnation cluster (joining cluster (settled log) (pending log))) (streams log)
    (none_live replica (streams log) l.1.may.none_live) (alone log l.0)
alone (Crash replica ∷ log) l = alone_map (crashed replica) (keeps_crashed replica) (streams log) (alone log l.0)
alone (entry ∷ log) l = alone log l.0

-- ---- the live one of a replica

-- a live stream of the replica is the one that is found
abbrev pub IsOwn : List ℕ → Stream → Stream → Type 0
IsOwn replica own s = s.live ≡ true → s.replica ≡ replica → s ≡ own

-- each live stream of a replica is the one that is found
pub only_own : (replica : List ℕ) (own : Stream) (ss : List Stream) → AreAlone ss → find (is_live_of replica) ss ≡ Some own
    → Each (IsOwn replica own) ss
only_own replica own [] p e = tt
only_own replica own (s ∷ ss) p e = elim (cases_Bool (is_live_of replica s)) [
  | inl mine ↦
      let is : Some s ≡ Some own = sym (cond-true _ _ _ mine) ∙ e in
      let same : s ≡ own = cc in
      let parts = and_parts s.live (bytes_eq s.replica replica) mine in
      let named : s.replica ≡ replica = (bytes_eq-Decides s.replica replica).0 parts.1 in (
        (λ live name. same),
        each_of (IsOther s.replica) (IsOwn replica own) (λ x other live name. absurd (other live (name ∙ sym named))) ss (p.0 parts.0),
      )
  | inr other ↦ (
    (λ live name. absurd (true≢false (sym (is_live_one replica s live name) ∙ other))),
    only_own replica own ss p.1 (sym (cond-false _ _ _ other) ∙ e),
  )
]
