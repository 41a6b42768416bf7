-- No since of what a transaction sees is past its time, so a query that resolves in it is read at its time.
use Rattle.std.specs.Prelude.{unwrap_or}
use Rattle.std.proofs.Common.{◌≡◌, ℕ, ◌+◌, ◌<◌, ◌≤◌, ◌==◌, ◌&&◌, Bool, true, false, cond, List, [], ◌∷◌, ◌++◌, map, filter, Option, Some, Ok, refl, sym, ap, ◌∙◌, subst, inl, inr, ◌⊎◌, arith}
use Rattle.std.specs.List.{AllByRecursion as Each, list_any}
use Rattle.std.proofs.lemmas.Bool.{and_from, and_parts, cond_both, eq-eqb, eqb-true, false≢true, or_cases, or_left, or_right}
use Rattle.mz_time.specs.Frontier.{Le}
use Rattle.mz_time.specs.declared.frontier.Frontier.TheVariants.{At}
use Rattle.mz_statement.specs.declared.statement.Statement.{Statement}
use Rattle.mz_statement.specs.declared.statement.Statement.TheVariants.{Start, Commit, Retain}
use Rattle.mz_grammar.specs.declared.asked.Asked.TheVariants as asks
use Rattle.mz_plan.specs.Leaves.{leaves_of}
use Rattle.mz_plan.specs.declared.item.ItemKind.{ItemKind}
use Rattle.mz_plan.specs.declared.item.ItemKind.TheVariants as kinds
use Rattle.mz_plan.specs.declared.plan.Plan.{Plan}
use Rattle.mz_print.specs.Print.{print_of}
use Rattle.mz_refusal.specs.declared.refusal.Refusal.TheVariants as refusal
use Rattle.mz_resolution.specs.Steps.{Step}
use Rattle.mz_rules.specs.Numbering.{Moved}
use Rattle.mz_rules.specs.declared.capability.Collection.{Collection}
use Rattle.mz_rules.specs.declared.capability.Hold.{Hold}
use Rattle.mz_rules.proofs.Each.{each_both, each_map, each_of, each_one}
use Rattle.mz_rules.proofs.FrontierLemmas.{at_earlier}
use Rattle.mz_log.specs.Sequential as changes
use Rattle.mz_log.specs.Sequential.{Change}
use Rattle.mz_log.specs.declared.entry.Entry.{Entry}
use Rattle.mz_log.specs.declared.entry.Entry.TheVariants.{Apply, Read, Refused, Instant, Close, Absorbed}
use Rattle.mz_log.specs.declared.entry.Replied.{Replied}
use Rattle.mz_log.specs.Log.{Log}
use Rattle.mz_books.specs.Rounds.{ddl, read_time}
use Rattle.mz_books.specs.States.{round_changes}
use Rattle.mz_books.specs.Collections.{advanced, collections, inputs_of, is_in_catalog, reported, retained, with_changes, with_item, without_item}
use Rattle.mz_books.specs.Holds.{Taking, holds, takings_of, transaction}
use Rattle.mz_books.specs.Since.{settled, since}
use Rattle.mz_books.specs.Sessions.{calls_made}
use Rattle.mz_books.specs.Answer.{answer, as_of}
use Rattle.mz_books.specs.Owed.{owed}
use Rattle.mz_books.specs.Legal.{Legal}
use Rattle.mz_call_laws.proofs.Timed.{timed}
use Rattle.mz_call_laws.proofs.Times.{round_later}
use Rattle.mz_call_laws.proofs.Transactions.{begun, not_ended}
use Rattle.mz_safe_laws.proofs.Building.{each_input}
use Rattle.mz_safe_laws.proofs.Moves.{advanced_moved, dropped_moved, reported_moved, retained_moved}
use Rattle.mz_safe_laws.proofs.SafeParts.{holds_stand}
use Rattle.mz_complete_laws.specs.Saying.{IsPlanned, MaySay, read_entry}
use Rattle.mz_complete_laws.proofs.HeldFor.{IsHeldFor, held_on, is_held, is_hold, is_taking}
use Rattle.mz_complete_laws.proofs.MadeByDdl.{IsMadeBy, made_by_ddl}
use Rattle.mz_complete_laws.proofs.Past.{greatest_within, moved_answered, read_answered}
use Rattle.mz_complete_laws.proofs.Taken.{started, whole_takes_none}

-- ---- what a transaction sees is held

-- a collection of the catalog that was made by the time is held for the session
abbrev IsSeen : ℕ → ℕ → Log → Collection → Type 0
IsSeen session time log c = is_in_catalog c ≡ true → c.as_of ≤ time → IsHeldFor session time log c.number

-- so it is once an entry has come
seen_on : (session time : ℕ) (log : Log) (entry : Entry) → Legal (entry ∷ log) → transaction log session ≡ Some time
    → Each (IsSeen session time log) (collections log) → Each (IsSeen session time (entry ∷ log)) (collections log)
seen_on session time log entry l within p =
    each_of (IsSeen session time log) (IsSeen session time (entry ∷ log))
    (λ c q here early. held_on session time c.number log entry l within (q here early)) (collections log) p

-- and once the collection has moved
seen_moved : (session time : ℕ) (log : Log) (c d : Collection) → Moved c d → IsSeen session time log c → IsSeen session time log d
seen_moved session time log c d m q here early =
    subst (IsHeldFor session time log) (sym m.same_number)
    (q (at_earlier c.implied d.implied m.raises here) (omega (arith, early, m.same_as_of)))

-- what collections have that move or are made as of a round's time, all have after its changes
changes_each : (Q : Collection → Type 0) (w : ℕ) → ((item : ℕ) (c : Collection) → Q c → Q (without_item item c))
    → ((d : Collection) → d.as_of ≡ w → Q d) → (cs : List Collection) (all : List Change) → Each Q cs → Each Q (with_changes w cs all)
changes_each Q w drop new cs [] q = q
changes_each Q w drop new cs (changes.Made made ∷ all) q =
    changes_each Q w drop new (with_item w cs made made.kind) all (by made.kind)
  where
    by : (kind : ItemKind) → Each Q (with_item w cs made kind)
    by (kinds.Table columns) = each_one Q cs _ q (new _ refl)
    by (kinds.Index on plan) = each_one Q cs _ q (new _ refl)
    by (kinds.View columns query) = q
changes_each Q w drop new cs (changes.Removed item ∷ all) q =
    changes_each Q w drop new (map (without_item item) cs) all (each_map Q Q (without_item item) (drop item) cs q)
changes_each Q w drop new cs (changes.Moved table rows ∷ all) q = changes_each Q w drop new cs all q

-- a BEGIN takes a hold on each collection of the catalog
takings_there : (session time : ℕ) (cs : List Collection)
    → Each (λ c. is_in_catalog c ≡ true → list_any (is_taking session time c.number) (takings_of session time cs) ≡ true) cs
takings_there session time [] = tt
takings_there session time (c ∷ cs) =
    let taken : Collection → Taking = λ d. record { session = session; collection = d.number; time = time } in
    let has : List Collection → Collection → Type 0 =
    λ those d. is_in_catalog d ≡ true → list_any (is_taking session time d.number) (map taken those) ≡ true in
    let later = takings_there session time cs in
    cond_both (is_in_catalog c) (c ∷ filter is_in_catalog cs) (filter is_in_catalog cs) (λ those. has those c × Each (has those) cs)
    (λ e. (
      (λ h. or_left (is_taking session time c.number (taken c)) _
          (and_from (session == session) _ (eq-eqb session session refl)
          (and_from (c.number == c.number) _ (eq-eqb c.number c.number refl) (eq-eqb time time refl)))),
      each_of (has (filter is_in_catalog cs)) (has (c ∷ filter is_in_catalog cs))
          (λ d q h. or_right (is_taking session time d.number (taken c)) _ (q h)) cs later,
    ))
    (λ e. ((λ h. absurd (false≢true (sym e ∙ h))), later))

-- the session begins now, or was in the transaction before
starts_seen : (session time : ℕ) (log : Log) (other call at : ℕ) → Legal (Instant other call Start at ∷ log)
    → ((other == session) ≡ true) × (time ≡ at) ⊎ (transaction log session ≡ Some time)
    → (transaction log session ≡ Some time → Each (IsSeen session time log) (collections log))
    → Each (IsSeen session time (Instant other call Start at ∷ log)) (collections log)
starts_seen session time log other call at l (inl now) before =
    let longer : Log = Instant other call Start at ∷ log in
    subst (λ s. Each (IsSeen s time longer) (collections log)) (eqb-true other session now.0)
    (subst (λ t. Each (IsSeen other t longer) (collections log)) (sym now.1)
    (each_of (λ c. is_in_catalog c ≡ true → list_any (is_taking other at c.number) (takings_of other at (collections log)) ≡ true)
    (IsSeen other at longer) (λ c q here early. or_right _ _ (q here)) (collections log) (takings_there other at (collections log))))
starts_seen session time log other call at l (inr was) before = seen_on session time log (Instant other call Start at) l was (before was)

-- a round
round_seen : (session time : ℕ) (log : Log) (w : ℕ) (replies : List Replied) → Legal (Apply w replies ∷ log) → transaction log session ≡ Some time
    → Each (IsSeen session time log) (collections log) → Each (IsSeen session time (Apply w replies ∷ log)) (collections (Apply w replies ∷ log))
round_seen session time log w replies l within p =
    let longer : Log = Apply w replies ∷ log in
    let later = round_later log w replies l in
    let readable = ((timed log l.0).inside session time within).readable in
    let seen = IsSeen session time longer in
    each_map seen seen (advanced w) (λ c q. seen_moved session time longer c (advanced w c) (advanced_moved w c) q)
    (with_changes w (collections log) (round_changes log replies))
    (changes_each seen w (λ item c q. seen_moved session time longer c (without_item item c) (dropped_moved item c) q)
    (λ d new here early. absurd (omega (arith, early, new, later, readable))) (collections log) (round_changes log replies)
    (seen_on session time log (Apply w replies) l within p))

-- a read adds what isn't in the catalog
read_seen : (session time : ℕ) (longer : Log) (cs : List Collection) (new : Collection) → is_in_catalog new ≡ false
    → Each (IsSeen session time longer) cs → (which : Bool) → Each (IsSeen session time longer) (cond which (cs ++ new ∷ []) cs)
read_seen session time longer cs new other h true =
    each_one (IsSeen session time longer) cs new h (λ here early. absurd (false≢true (sym other ∙ here)))
read_seen session time longer cs new other h false = h

-- so all that a transaction sees is held for it
all_seen : (session time : ℕ) (log : Log) → Legal log → transaction log session ≡ Some time → Each (IsSeen session time log) (collections log)
all_seen session time [] l within = absurd (cc)
all_seen session time (Instant other call Start at ∷ log) l within =
    starts_seen session time log other call at l (begun (other == session) at time (transaction log session) within)
    (λ was. all_seen session time log l.0 was)
all_seen session time (Instant other call Commit at ∷ log) l within =
    let was = not_ended (other == session) (transaction log session) time within in
    seen_on session time log (Instant other call Commit at) l was (all_seen session time log l.0 was)
all_seen session time (Close other ∷ log) l within =
    let was = not_ended (other == session) (transaction log session) time within in
    seen_on session time log (Close other) l was (all_seen session time log l.0 was)
all_seen session time (Apply w replies ∷ log) l within =
    round_seen session time log w replies l within (all_seen session time log l.0 within)
all_seen session time (Read other call peek at statement collection ∷ log) l within =
    let entry = Read other call peek at statement collection in
    read_seen session time (entry ∷ log) (collections log) _ refl (seen_on session time log entry l within (all_seen session time log l.0 within)) _
all_seen session time (Absorbed replica incarnation turn taken ready fs ∷ log) l within =
    let entry = Absorbed replica incarnation turn taken ready fs in
    let seen = IsSeen session time (entry ∷ log) in
    each_map seen seen (reported fs) (λ c q. seen_moved session time (entry ∷ log) c (reported fs c) (reported_moved fs c) q) (collections log)
    (seen_on session time log entry l within (all_seen session time log l.0 within))
all_seen session time (Instant other call (Retain name keep) at ∷ log) l within =
    let entry = Instant other call (Retain name keep) at in
    let seen = IsSeen session time (entry ∷ log) in
    each_map seen seen (retained name keep) (λ c q. seen_moved session time (entry ∷ log) c (retained name keep c) (retained_moved name keep c) q)
    (collections log) (seen_on session time log entry l within (all_seen session time log l.0 within))
all_seen session time (entry ∷ log) l within = seen_on session time log entry l within (all_seen session time log l.0 within)

-- ---- what a transaction reads

-- a hold bounds the since
held_since : (session time number : ℕ) (log : Log) (hs : List Hold) → Each (λ hold. Le (since log hold.collection) (At hold.time)) hs
    → list_any (is_held session time number) hs ≡ true → Le (since log number) (At time)
held_since session time number log [] p e = absurd (false≢true e)
held_since session time number log (h ∷ hs) p e =
    elim (or_cases (is_held session time number h) (list_any (is_held session time number) hs) e) [
      | inl own ↦
          let parts = and_parts (h.collection == number) (h.time == time) (and_parts _ ((h.collection == number) && (h.time == time)) own).1 in
          subst (λ k. Le (since log k) (At time)) (eqb-true h.collection number parts.0)
          (subst (λ t. Le (since log h.collection) (At t)) (eqb-true h.time time parts.1) p.0)
      | inr later ↦ held_since session time number log hs p.1 later
    ]

-- no since of the catalog is past the time of a transaction, if the catalog hasn't moved since
sinces_within : (session time : ℕ) (log : Log) → Legal log → owed log ≡ [] → transaction log session ≡ Some time → ddl log ≤ time
    → Each (λ c. is_in_catalog c ≡ true → Le (since log c.number) (At time)) (collections log)
sinces_within session time log l none within moved =
    each_both (IsSeen session time log) (IsMadeBy (ddl log)) (λ c. is_in_catalog c ≡ true → Le (since log c.number) (At time))
    (λ c seen made here. held_since session time c.number log (holds log) (holds_stand log)
    (is_hold session time c.number log (whole_takes_none log (started log l) none) (seen here (omega (arith, made here, moved)))))
    (collections log) (all_seen session time log l within) (made_by_ddl log l)

-- the time that is picked in a transaction
picked : (inside : Option ℕ) (named : ℕ) (time : ℕ) → inside ≡ Some time → unwrap_or inside named ≡ time
picked inside named time is = ap (λ o. unwrap_or o named) is

-- so a query that resolves is read
pub transactions_read : (log : Log) (session : ℕ) (text : List ℕ) (statement : Statement) (plan : Plan) (time : ℕ) → Legal log → owed log ≡ []
    → MaySay log session → transaction log session ≡ Some time → IsPlanned log session statement plan → ddl log ≤ time
    → ◌≡◌ {A = Step Entry} (answer log session text (asks.Statement statement)) (Ok (read_entry log session statement plan time))
transactions_read log session text statement plan time l none may within is moved =
    read_answered log session text statement plan time may is (picked (transaction log session) (unwrap_or (as_of statement) (read_time log)) time within)
    ((timed log l).inside session time within).readable moved
    (greatest_within time (settled log) (inputs_of plan (collections log))
    (each_input (λ number. Le (since log number) (At time)) (leaves_of plan) (collections log) (sinces_within session time log l none within moved)))

-- and refused where the catalog has moved, since it moved
pub transactions_moved : (log : Log) (session : ℕ) (text : List ℕ) (statement : Statement) (plan : Plan) (time : ℕ) → Legal log
    → MaySay log session → transaction log session ≡ Some time → IsPlanned log session statement plan → time < ddl log
    → ◌≡◌ {A = Step Entry} (answer log session text (asks.Statement statement))
    (Ok (Refused session (calls_made log session + 1) (print_of statement) (refusal.CatalogMoved (ddl log) time)))
transactions_moved log session text statement plan time l may within is moved =
    moved_answered log session text statement plan time may is (picked (transaction log session) (unwrap_or (as_of statement) (read_time log)) time within)
    ((timed log l).inside session time within).readable moved
