-- What each entry does to collections and capabilities.
use Rattle.std.proofs.Common.{◌≡◌, ℕ, ◌+◌, ◌<◌, ◌≤◌, ◌==◌, ◌&&◌, Bool, true, not, List, [], ◌∷◌, ◌++◌, length, map, inl, inr, arith}
use Rattle.std.specs.List.{AllByRecursion as Each, list_any}
use Rattle.std.proofs.lemmas.Bool.{and_parts, cond_both, eqb-true, false≢true, or_cases}
use Rattle.mz_bag.specs.Weighted.{Weighted}
use Rattle.mz_statement.specs.Statement.{IsKeep}
use Rattle.mz_statement.specs.declared.statement.Keep.{Keep}
use Rattle.mz_statement.specs.declared.statement.Statement.TheVariants.{Retain}
use Rattle.mz_rules.specs.Numbering.{Numbered}
use Rattle.mz_rules.specs.declared.capability.Collection.{Collection}
use Rattle.mz_time.proofs.FrontierLemmas.{Le-trans}
use Rattle.mz_time.specs.Frontier.{Le}
use Rattle.mz_time.specs.declared.frontier.Frontier.TheVariants.{At}
use Rattle.mz_plan.specs.declared.command.PendingPeek.{PendingPeek}
use Rattle.mz_rules.specs.Capabilities.{Capability, of_hold, of_peek}
use Rattle.mz_rules.specs.declared.capability.Hold.{Hold}
use Rattle.mz_rules.proofs.Each.{each_of, each_both, each_one, each_append, each_filter, each_map, each_unmap, each_left, each_right}
use Rattle.mz_rules.proofs.Held.{capabilities_hold}
use Rattle.mz_log.specs.Log.{Log}
use Rattle.mz_books.specs.Rounds.{read_time}
use Rattle.mz_log.specs.declared.entry.Entry.TheVariants.{Apply, Finish, Instant, Cancel, Acquire, Down, Release, Absorbed}
use Rattle.mz_log.specs.declared.entry.Replied.{Replied}
use Rattle.mz_books.specs.States.{round_changes}
use Rattle.mz_books.specs.Collections.{collections, is_in_catalog, reported, retained}
use Rattle.mz_books.specs.Holds.{holds, is_of_call, is_peek, moved, owner, pending, takings}
use Rattle.mz_books.specs.Legal.{MayAcquire, MayMove}
use Rattle.mz_books.specs.Since.{kept, since}
use Rattle.mz_safe_laws.proofs.Onward.{IsPlaced, Core, Onward}
use Rattle.mz_safe_laws.proofs.Moves.{capabilities_move, collections_move, reported_moved, reported_timely, retained_moved, retained_timely}
use Rattle.mz_safe_laws.proofs.Building.{round_onward}

-- what is kept of a log
abbrev pub CoreOf : Log → Type 0
CoreOf log = Core (read_time log) (collections log) (kept log)

-- what its next entry may do
abbrev pub GoesTo : Log → Log → Type 0
GoesTo log longer = Onward (read_time log) (collections log) (kept log) (read_time longer) (collections longer) (kept longer)

-- of all capabilities: of the holds and of the peeks
pub whole : (P : Capability → Type 0) (hs : List Hold) (ps : List PendingPeek) → Each (λ h. P (of_hold h)) hs → Each (λ p. P (of_peek p)) ps
    → Each P (map of_hold hs ++ map of_peek ps)
whole P hs ps h p =
    each_append P (map of_hold hs) (map of_peek ps) (each_map (λ x. P (of_hold x)) P of_hold (λ x q. q) hs h)
    (each_map (λ x. P (of_peek x)) P of_peek (λ x q. q) ps p)

pub of_holds : (P : Capability → Type 0) (hs : List Hold) (ps : List PendingPeek) → Each P (map of_hold hs ++ map of_peek ps)
    → Each (λ h. P (of_hold h)) hs
of_holds P hs ps all = each_unmap (λ x. P (of_hold x)) P of_hold (λ x q. q) hs (each_left P (map of_hold hs) (map of_peek ps) all)

pub of_peeks : (P : Capability → Type 0) (hs : List Hold) (ps : List PendingPeek) → Each P (map of_hold hs ++ map of_peek ps)
    → Each (λ p. P (of_peek p)) ps
of_peeks P hs ps all = each_unmap (λ x. P (of_peek x)) P of_peek (λ x q. q) ps (each_right P (map of_hold hs) (map of_peek ps) all)

-- a capability may be there: it is placed, and at or after the since of its collection
pub record IsFine (log : Log) (s : Capability) : Type 0 where
  pub placed : IsPlaced (length (collections log)) (read_time log) s
  pub above : Le (since log s.collection) (At s.time)

-- those of a log are
pub all_fine : (log : Log) → CoreOf log → Each (IsFine log) (kept log)
all_fine log core =
    each_both (IsPlaced (length (collections log)) (read_time log)) (λ s. Le (since log s.collection) (At s.time)) (IsFine log)
    (λ s p a. record { placed = p; above = a }) (kept log) core.placed (capabilities_hold (kept log) (collections log))

-- where the capabilities then are fine, the entry may do it
pub move : (log : Log) (after : List Capability) → CoreOf log → Each (IsFine log) after
    → Onward (read_time log) (collections log) (kept log) (read_time log) (collections log) after
move log after core fine =
    capabilities_move (read_time log) (collections log) (kept log) after core
    (each_of (IsFine log) (IsPlaced (length (collections log)) (read_time log)) (λ s f. f.placed) after fine)
    (each_of (IsFine log) (λ s. Le (since log s.collection) (At s.time)) (λ s f. f.above) after fine)

-- holds and peeks that are fine, each apart
pub holds_fine : (log : Log) → CoreOf log → Each (λ h. IsFine log (of_hold h)) (holds log)
holds_fine log core = of_holds (IsFine log) (holds log) (pending log) (all_fine log core)

pub peeks_fine : (log : Log) → CoreOf log → Each (λ p. IsFine log (of_peek p)) (pending log)
peeks_fine log core = of_peeks (IsFine log) (holds log) (pending log) (all_fine log core)

-- a collection that is found has one of the numbers
found_there : (test : Collection → Bool) (k number : ℕ) (cs : List Collection) → Numbered k cs
    → list_any (λ c. (c.number == number) && test c) cs ≡ true → (k ≤ number) × (number < k + length cs)
found_there test k number [] n e = absurd (false≢true e)
found_there test k number (c ∷ cs) n e =
    elim (or_cases ((c.number == number) && test c) (list_any (λ d. (d.number == number) && test d) cs) e) [
      | inl own ↦
          let same = eqb-true c.number number (and_parts (c.number == number) (test c) own).0 in
          (omega (arith, same, n.0), omega (arith, same, n.0))
      | inr later ↦
          let rest = found_there test (k + 1) number cs n.1 later in (omega (arith, rest.0), omega (arith, rest.1))
    ]

-- a hold more
pub acquire_goes : (log : Log) (hold collection time : ℕ) → CoreOf log → MayAcquire log hold collection time
    → GoesTo log (Acquire hold collection time ∷ log)
acquire_goes log hold collection time core may =
    let there = found_there is_in_catalog 1 collection (collections log) core.numbered may.present in
    move log (kept (Acquire hold collection time ∷ log)) core
    (whole (IsFine log) (holds (Acquire hold collection time ∷ log)) (pending log)
    (each_one (λ h. IsFine log (of_hold h)) (holds log)
    (record { number = hold; collection = collection; time = time; owner = owner (takings log) }) (holds_fine log core)
    (record { placed = record { from_one = there.0; made = omega (arith, there.1); in_time = may.readable }; above = may.at_since }))
    (peeks_fine log core))

-- a hold that moves on
pub down_goes : (log : Log) (hold time : ℕ) → CoreOf log → MayMove log hold time → GoesTo log (Down hold time ∷ log)
down_goes log hold time core may =
    move log (kept (Down hold time ∷ log)) core
    (whole (IsFine log) (map (moved hold time) (holds log)) (pending log)
    (each_map (λ h. (h.number ≡ hold → h.time ≤ time) × IsFine log (of_hold h)) (λ h. IsFine log (of_hold h)) (moved hold time)
    (λ h p. cond_both (h.number == hold) (record h { time = time }) h (λ x. IsFine log (of_hold x))
    (λ e. record {
      placed = record { from_one = p.1.placed.from_one; made = p.1.placed.made; in_time = may.readable };
      above = Le-trans (since log h.collection) (At h.time) (At time) p.1.above (p.0 (eqb-true h.number hold e));
    })
    (λ e. p.1))
    (holds log)
    (each_both (λ h. h.number ≡ hold → h.time ≤ time) (λ h. IsFine log (of_hold h))
    (λ h. (h.number ≡ hold → h.time ≤ time) × IsFine log (of_hold h)) (λ h p q. (p, q)) (holds log) may.forward (holds_fine log core)))
    (peeks_fine log core))

-- a hold less
pub release_goes : (log : Log) (hold : ℕ) → CoreOf log → GoesTo log (Release hold ∷ log)
release_goes log hold core =
    move log (kept (Release hold ∷ log)) core
    (whole (IsFine log) (holds (Release hold ∷ log)) (pending log)
    (each_filter (λ h. IsFine log (of_hold h)) (λ live. not (live.number == hold)) (holds log) (holds_fine log core)) (peeks_fine log core))

-- peeks less
pub finish_goes : (log : Log) (peek : ℕ) (rows : Weighted) → CoreOf log → GoesTo log (Finish peek rows ∷ log)
finish_goes log peek rows core =
    move log (kept (Finish peek rows ∷ log)) core
    (whole (IsFine log) (holds log) (pending (Finish peek rows ∷ log)) (holds_fine log core)
    (each_filter (λ p. IsFine log (of_peek p)) (λ waiting. not (is_peek peek waiting)) (pending log) (peeks_fine log core)))

pub cancel_goes : (log : Log) (session call : ℕ) → CoreOf log → GoesTo log (Cancel session call ∷ log)
cancel_goes log session call core =
    move log (kept (Cancel session call ∷ log)) core
    (whole (IsFine log) (holds log) (pending (Cancel session call ∷ log)) (holds_fine log core)
    (each_filter (λ p. IsFine log (of_peek p)) (λ waiting. not (is_of_call session call waiting)) (pending log) (peeks_fine log core)))

-- another policy
pub retain_goes : (log : Log) (session call : ℕ) (name : List ℕ) (keep : Keep) (time : ℕ) → CoreOf log → IsKeep keep
    → GoesTo log (Instant session call (Retain name keep) time ∷ log)
retain_goes log session call name keep time core k =
    collections_move (read_time log) (collections log) (kept log) (retained name keep) (retained_moved name keep)
    (retained_timely (read_time log) name keep k) core

-- collections that a packet says have come on
pub absorbed_goes : (log : Log) (replica : List ℕ) (incarnation turn taken ready : ℕ) (fs : List (ℕ × ℕ)) → CoreOf log
    → Each (λ f. f.1 ≤ read_time log + 1) fs → GoesTo log (Absorbed replica incarnation turn taken ready fs ∷ log)
absorbed_goes log replica incarnation turn taken ready fs core h =
    collections_move (read_time log) (collections log) (kept log) (reported fs) (reported_moved fs) (reported_timely (read_time log) fs h) core

-- a round
pub apply_goes : (log : Log) (time : ℕ) (replies : List Replied) → CoreOf log → read_time log < time → GoesTo log (Apply time replies ∷ log)
apply_goes log time replies core h =
    round_onward (read_time log) time (collections log) (kept log) (round_changes log replies) h core
