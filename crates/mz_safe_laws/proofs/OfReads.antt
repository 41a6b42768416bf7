-- What a read does to collections and capabilities.
use Rattle.std.proofs.Common.{◌≡◌, ℕ, ◌+◌, ◌≤◌, ◌==◌, List, [], ◌∷◌, ◌++◌, length, map, refl, sym, subst, arith, length-append}
use Rattle.std.specs.List.{AllByRecursion as Each}
use Rattle.std.proofs.lemmas.Bool.{cond_both, eqb-false}
use Rattle.mz_time.specs.Frontier.{Le}
use Rattle.mz_time.specs.declared.frontier.Frontier.{Frontier}
use Rattle.mz_time.specs.declared.frontier.Frontier.TheVariants.{At, Done}
use Rattle.mz_time.proofs.FrontierLemmas.{Le-refl}
use Rattle.mz_plan.specs.declared.command.PendingPeek.{PendingPeek}
use Rattle.mz_plan.specs.declared.plan.Plan.{Plan}
use Rattle.mz_rules.specs.Capabilities.{Capability, of_hold, of_peek}
use Rattle.mz_rules.specs.Since.{since_or}
use Rattle.mz_rules.specs.declared.capability.Collection.{Collection}
use Rattle.mz_rules.specs.declared.capability.CollectionKind.TheVariants as kind
use Rattle.mz_rules.proofs.Each.{each_of, each_one}
use Rattle.mz_rules.proofs.Growing.{grows_same, grows_more}
use Rattle.mz_rules.proofs.Held.{missing_at}
use Rattle.mz_rules.proofs.Numbers.{new_place, numbered_more}
use Rattle.mz_statement.specs.declared.statement.Statement.{Statement}
use Rattle.mz_log.specs.declared.entry.Entry.TheVariants.{Read}
use Rattle.mz_log.specs.Log.{Log}
use Rattle.mz_books.specs.Rounds.{read_time}
use Rattle.mz_books.specs.Clusters.{cluster_of}
use Rattle.mz_books.specs.States.{query_plan, scope_of}
use Rattle.mz_books.specs.Collections.{collections, inputs_of, next_collection, peek_name, plan_or_none}
use Rattle.mz_books.specs.Holds.{holds, pending}
use Rattle.mz_books.specs.Since.{kept, settled, since}
use Rattle.mz_safe_laws.proofs.Onward.{IsPlaced, IsTimely, Onward, still_above}
use Rattle.mz_safe_laws.proofs.Building.{made_timely}
use Rattle.mz_safe_laws.proofs.Entries.{CoreOf, GoesTo, whole, of_holds, of_peeks}

-- a read of a collection that there is, or of the next one, at a time from the sinces of all that it reads up to the read time
pub record MayRead (log : Log) (plan : Plan) (time collection : ℕ) : Type 0 where
  pub readable : time ≤ read_time log
  pub from_one : 1 ≤ collection
  pub known_or_next : collection ≤ length (collections log) + 1
  pub at_since : Le (since log collection) (At time)
  pub at_sinces : Each (λ input. Le (since log input) (At time)) (inputs_of plan (collections log))

-- the peek of a read
abbrev the_peek : ℕ → ℕ → ℕ → ℕ → ℕ → PendingPeek
the_peek peek session call collection time =
    record { peek = peek; session = session; call = call; collection = collection; time = time }

-- the capabilities then are placed
placed_then : (log : Log) (session call peek time collection count : ℕ) → CoreOf log → length (collections log) ≤ count → 1 ≤ collection
    → collection ≤ count → time ≤ read_time log
    → Each (IsPlaced count (read_time log)) (map of_hold (holds log) ++ map of_peek (pending log ++ (the_peek peek session call collection time ∷ [])))
placed_then log session call peek time collection count core more one known readable =
    let P : Capability → Type 0 = IsPlaced count (read_time log) in
    let placed = each_of (IsPlaced (length (collections log)) (read_time log)) P
    (λ s p. record { from_one = p.from_one; made = omega (arith, p.made); in_time = p.in_time }) (kept log) core.placed in
    whole P (holds log) (pending log ++ (the_peek peek session call collection time ∷ [])) (of_holds P (holds log) (pending log) placed)
    (each_one (λ p. P (of_peek p)) (pending log) (the_peek peek session call collection time) (of_peeks P (holds log) (pending log) placed)
    (record { from_one = one; made = known; in_time = readable }))

-- and stand at or after the sinces before
above_then : (log : Log) (session call peek time collection : ℕ) → CoreOf log → Le (since log collection) (At time)
    → Each (λ s. Le (since_or (At time) s.collection (settled log)) (At s.time))
    (map of_hold (holds log) ++ map of_peek (pending log ++ (the_peek peek session call collection time ∷ [])))
above_then log session call peek time collection core at =
    let P : Capability → Type 0 = λ s. Le (since_or (At time) s.collection (settled log)) (At s.time) in
    let still : Each P (kept log) = still_above time (read_time log) (collections log) (kept log) core in
    whole P (holds log) (pending log ++ (the_peek peek session call collection time ∷ [])) (of_holds P (holds log) (pending log) still)
    (each_one (λ p. P (of_peek p)) (pending log) (the_peek peek session call collection time) (of_peeks P (holds log) (pending log) still)
    (missing_at time collection (settled log) at))

-- what a read does, by the collections then
abbrev ReadTo : Log → List Capability → List Collection → Type 0
ReadTo log after ds = Onward (read_time log) (collections log) (kept log) (read_time log) ds after

-- a read, by the plan that it has
pub read_goes : (log : Log) (session call peek time : ℕ) (statement : Statement) (collection : ℕ) → CoreOf log
    → MayRead log (plan_or_none (query_plan (scope_of log session) statement)) time collection
    → GoesTo log (Read session call peek time statement collection ∷ log)
read_goes log session call peek time statement collection core may =
    let cs = collections log in
    let plan = plan_or_none (query_plan (scope_of log session) statement) in
    let g : ℕ → Frontier = λ number. since_or (At time) number (settled log) in
    let next = next_collection cs (peek_name peek) kind.Transient 0 (cluster_of log session) plan time Done in
    let known = may.known_or_next in
    let readable = may.readable in
    let at : g (length cs + 1) ≡ At time = new_place (At time) (kept log) 1 cs core.numbered (length cs + 1) (omega arith) in
    cond_both (collection == length cs + 1) (cs ++ (next ∷ [])) cs (ReadTo log (kept (Read session call peek time statement collection ∷ log)))
    (λ e.
    let longer : length (cs ++ (next ∷ [])) ≡ length cs + 1 = omega (arith, length-append cs (next ∷ [])) in
    record {
      a = time;
      read_rises = omega arith;
      numbered = numbered_more 1 cs next core.numbered (omega arith);
      placed = placed_then log session call peek time collection (length (cs ++ (next ∷ []))) core (omega arith) may.from_one (omega arith) readable;
      timely = each_one (IsTimely (read_time log)) cs next core.timely
          (let own = made_timely cs (peek_name peek) kind.Transient 0 (cluster_of log session) plan time Done tt core.numbered in
          record { created = readable; kept = tt; come = omega arith; fair = own.fair; older = own.older });
      above = above_then log session call peek time collection core may.at_since;
      grows = grows_more g time next (record {
        own_as_of = refl;
        kept = tt;
        inputs_before = each_of (λ input. Le (since log input) (At time)) (λ input. Le (g input) (At time))
            (λ input p. missing_at time input (settled log) p) (inputs_of plan cs) may.at_sinces;
        own_bound = subst (Le (At time)) (sym at) (Le-refl (At time));
      }) cs cs (grows_same g time cs);
    })
    (λ e. record {
      a = time;
      read_rises = omega arith;
      numbered = core.numbered;
      placed = placed_then log session call peek time collection (length cs) core (omega arith) may.from_one
          (omega (arith, eqb-false collection (length cs + 1) e)) readable;
      timely = core.timely;
      above = above_then log session call peek time collection core may.at_since;
      grows = grows_same g time cs;
    })
