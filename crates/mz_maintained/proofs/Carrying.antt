-- What changes at one time is carried through a dataflow of few tables, none of which is large.
use Rattle.std.proofs.Common.{◌≡◌, ℕ, ◌+◌, ◌<◌, ◌≤◌, nat_le, Bool, true, false, cond, if◌then◌else◌, ◌+ℤ◌, List, [], ◌∷◌, ◌++◌, length, refl, sym, ap, subst, ◌∙◌, le_trans, arith}
use Rattle.std.proofs.lemmas.Bool.Decides.{nat_tests}
use Rattle.std.proofs.lemmas.List.{append-nil, length-append}
use Rattle.mz_arrange.specs.Arranged.{IsSameFrom}
use Rattle.mz_bag.specs.Mass.{mass, IsLight}
use Rattle.mz_bag.specs.Weighted.{Weighted, count}
use Rattle.mz_bag.proofs.BagLaws.{count-append, entries-empty}
use Rattle.mz_plan.specs.Leaves.{leaves_of}
use Rattle.mz_plan.specs.Masses.{AreWithin}
use Rattle.mz_plan.specs.Meaning.{Leaves}
use Rattle.mz_plan.specs.Small.{most_rows, most_tables, tables_read}
use Rattle.mz_plan.specs.declared.plan.Plan.{Plan, Table, Index, Filter', Project', Join', Union', Group', Distinct', more_of-Plan, end_of-Plan}
use Rattle.mz_plan_laws.specs.Alike.{Alike, AreAlike}
use Rattle.mz_plan_laws.proofs.RowTypes.{all_leaves}
use Rattle.mz_updates.specs.declared.update.Update.{Update}
use Rattle.mz_updates.specs.Consolidated.{IsConsolidated}
use Rattle.mz_updates.specs.Contents.{contents, stamped, weights, IsBefore, IsFrom}
use Rattle.mz_updates.proofs.ContentsLaws.{contents-append, contents-before, contents-from, weights-append}
use Rattle.mz_ops.proofs.TimeLaws.{IsBefore-stamped, IsFrom-stamped, weights-stamped}
use Rattle.mz_dataflow.specs.Built.{meaning_of_ints, AreFew, Puts}
use Rattle.mz_dataflow.specs.Flow.{contents_of, longer, weights_of, LeafUpdates}
use Rattle.mz_dataflow.specs.Nodes.{top}
use Rattle.mz_dataflow.specs.Queues.{updates_of}
use Rattle.mz_dataflow.specs.Stands.{offers_of, CanRunTo, IsNew, Stands}
use Rattle.mz_dataflow.specs.declared.dataflow.Dataflow.{Dataflow}
use Rattle.mz_dataflow.proofs.AlikeLaws.{nodes_read}
use Rattle.mz_maintained.specs.Maintained.{AreTold, IsBegun, IsChange, IsSound}
use Rattle.mz_maintained.specs.Tables.{rows_of, Tables}

-- ---- one time

-- from the time on, updates before it and rows at it contain both
at_on : (t time upper : ℕ) (us : List Update) (ws : Weighted) → IsBefore upper us → upper ≤ time → time ≤ t
    → contents t (us ++ stamped time ws) ≡ weights us ++ ws
at_on t time upper us ws h k l =
    contents-append t us (stamped time ws)
    ∙ (λ i. contents-before t upper us h (omega (arith, k, l)) i
    ++ (contents-before t (time + 1) (stamped time ws) (IsBefore-stamped time (time + 1) ws (omega arith)) (omega (arith, l)) ∙ weights-stamped time ws) i)

-- and before the time, the updates alone
at_before : (t time upper : ℕ) (us : List Update) (ws : Weighted) → IsBefore upper us → upper ≤ t → t < time
    → contents t (us ++ stamped time ws) ≡ weights us
at_before t time upper us ws h k l =
    contents-append t us (stamped time ws)
    ∙ ap (λ vs. contents t us ++ vs) (contents-from t time (stamped time ws) (IsFrom-stamped time time ws (omega arith)) l)
    ∙ append-nil (contents t us) ∙ contents-before t upper us h (omega (arith, k))

-- rows before a time: the old ones up to the time of the change, and then the new ones
abbrev around : ℕ → Leaves → Leaves → ℕ → Leaves
around time old new t item = if nat_le t time then old item else new item

-- they are the old ones up to it
around-old : (time : ℕ) (old new : Leaves) (t item : ℕ) → t ≤ time → around time old new t item ≡ old item
around-old time old new t item h =
    let is : nat_le t time ≡ true = grind (arith, nat_tests, h) in ap (λ c. cond c (old item) (new item)) is

-- so at each time they count as what the leaves contain
around-alike : (time upper : ℕ) (old new told : Leaves) (us : LeafUpdates) → ((item : ℕ) → IsBefore upper (us item)) → upper ≤ time
    → AreAlike old (weights_of us) → ((item : ℕ) → Alike (new item) (old item ++ told item))
    → (t item : ℕ) → upper ≤ t → Alike (around time old new (t + 1) item) (contents t (us item ++ stamped time (told item)))
around-alike time upper old new told us early late h k t item from = by (nat_le (t + 1) time) refl
  where
    by : (c : Bool) → nat_le (t + 1) time ≡ c → Alike (cond c (old item) (new item)) (contents t (us item ++ stamped time (told item)))
    by true before q =
        h item q ∙ ap (count q) (sym (at_before t time upper (us item) (told item) (early item) from (grind (arith, nat_tests, before))))
    by false after q =
        k item q ∙ count-append q (old item) (told item) ∙ ap (λ z. z +ℤ count q (told item)) (h item q)
        ∙ sym (count-append q (weights (us item)) (told item))
        ∙ ap (count q) (sym (at_on t time upper (us item) (told item) (early item) late (grind (arith, nat_tests, after))))

-- and none weighs more than a table may
around-within : (time : ℕ) (old new : Leaves) → AreWithin most_rows old → AreWithin most_rows new → (t item : ℕ) → mass (around time old new t item) ≤ most_rows
around-within time old new h k t item = by (nat_le t time)
  where
    by : (c : Bool) → mass (cond c (old item) (new item)) ≤ most_rows
    by true = h.within item
    by false = k.within item

-- ---- the bound

-- a plan whose leaves read a table each reads as many as it names
leaves_read : (plan : Plan) → tables_read (λ item. 1) plan ≡ length (leaves_of plan)
leaves_read (Table item) = refl
leaves_read (Index item) = refl
leaves_read (Filter' s (more_of-Plan plan end_of-Plan) cond) = leaves_read plan
leaves_read (Project' s (more_of-Plan plan end_of-Plan) places) = leaves_read plan
leaves_read (Join' s (more_of-Plan left end_of-Plan) r (more_of-Plan right end_of-Plan) pairs) =
    (λ i. leaves_read left i + leaves_read right i) ∙ sym (length-append (leaves_of left) (leaves_of right))
leaves_read (Union' s (more_of-Plan left end_of-Plan) r (more_of-Plan right end_of-Plan)) =
    (λ i. leaves_read left i + leaves_read right i) ∙ sym (length-append (leaves_of left) (leaves_of right))
leaves_read (Group' s (more_of-Plan plan end_of-Plan) places aggregates) = leaves_read plan
leaves_read (Distinct' s (more_of-Plan plan end_of-Plan)) = leaves_read plan

-- what is said of runs over few tables
abbrev pub FewTables : Type 0
FewTables = (plan : Plan) (flow : Dataflow) (us : LeafUpdates) (next : ℕ) (reads : ℕ → ℕ) (rows : ℕ → Leaves)
    → Stands plan flow us → flow.output.upper ≤ next
    → ((item : ℕ) → IsFrom flow.output.upper (offers_of flow item))
    → ((item : ℕ) → IsBefore next (offers_of flow item))
    → AreAlike (rows flow.output.upper) (weights_of us)
    → ((t item : ℕ) → flow.output.upper ≤ t → Alike (rows (t + 1) item) (contents t (us item ++ offers_of flow item)))
    → ((t item : ℕ) → flow.output.upper ≤ t → IsLight (rows t item))
    → tables_read reads plan ≤ most_tables
    → ((t : ℕ) → flow.output.upper ≤ t → AreFew reads (rows t) plan)
    → CanRunTo flow next

-- what a dataflow was offered since its last run, where that was at one time alone
pub offers_are : (time : ℕ) (told : Leaves) (old new : Dataflow) (tables more : Tables) → old.offered.items ≡ [] → AreTold time told old tables new more
    → (item : ℕ) → offers_of new item ≡ stamped time (told item)
offers_are time told old new tables more none h item =
    h.offers item ∙ ap (λ us. us ++ stamped time (told item)) (ap (λ qs. updates_of qs item) none)

-- a run behind the time of the change is within the bound
pub can_carry : FewTables → (time next : ℕ) (told : Leaves) (old new : Dataflow) (tables more : Tables) → IsSound (record { flow = old; tables = tables })
    → old.output.upper ≤ time → next ≡ time + 1 → AreTold time told old tables new more → CanRunTo new next
can_carry law time next told old new tables more sound late is h =
    let upper : new.output.upper ≡ old.output.upper = ap (λ a. a.upper) h.output in
    let from : new.output.upper ≤ time = subst (λ n. n ≤ time) (sym upper) late in
    let offers = offers_are time told old new tables more sound.none h in
    let stands = h.stands sound.plan sound.us sound.stands in
    let rows = around time (rows_of tables) (rows_of more) in
    let few = around-within time (rows_of tables) (rows_of more) sound.within (h.tables.within sound.within) in
    law sound.plan new sound.us next (λ item. 1) rows stands (omega (arith, from, is))
    (λ item. subst (IsFrom new.output.upper) (sym (offers item)) (IsFrom-stamped time new.output.upper (told item) from))
    (λ item. subst (IsBefore next) (sym (offers item)) (IsBefore-stamped time next (told item) (omega (arith, is))))
    (λ item q. ap (count q) (around-old time (rows_of tables) (rows_of more) new.output.upper item from) ∙ sound.rows item q)
    (λ t item k. subst (λ us. Alike (rows (t + 1) item) (contents t (sound.us item ++ us))) (sym (offers item))
    (around-alike time new.output.upper (rows_of tables) (rows_of more) told sound.us stands.stands.leaves.early from sound.rows h.tables.alike t item k))
    (λ t item k. record { within = le_trans (few t item) (omega arith) })
    (subst (λ n. n ≤ most_tables) (sym (leaves_read sound.plan)) sound.few)
    (λ t k. all_leaves _ _ (λ item. few t item) (λ item. (omega arith, le_trans (few t item) (omega arith))) sound.plan)

-- ---- the beginning

-- a dataflow that was just built, over tables without a row, is sound
pub begun_sound : (plan : Plan) (as_of : ℕ) (flow : Dataflow) (tables : Tables) → Stands plan flow (λ item. []) → IsNew as_of flow
    → tables ≡ [] → length (leaves_of plan) ≤ most_tables → IsSound (record { flow = flow; tables = tables })
begun_sound plan as_of flow tables stands new none few = record {
  plan = plan;
  us = λ item. [];
  stands = stands;
  few = few;
  since = omega (arith, new.since, new.upper);
  none = new.offers;
  rows = λ item q. ap (count q) (without item);
  within = record { within = λ item. subst (λ ws. mass ws ≤ most_rows) (sym (without item)) (omega arith) };
}
  where
    without : (item : ℕ) → rows_of tables item ≡ []
    without item = ap (λ ts. rows_of ts item) none ∙ entries-empty

-- and its plan is maintained
pub begun : (plan : Plan) (as_of : ℕ) (flow : Dataflow) (tables : Tables) → Stands plan flow (λ item. []) → IsNew as_of flow
    → tables ≡ [] → IsBegun plan as_of (record { flow = flow; tables = tables })
begun plan as_of flow tables stands new none = record { puts = stands.stands.puts; upper = new.upper; tables = none }

-- ---- what is carried

-- a dataflow that came to the time, and that lets the past before it go
pub carried_sound : (time next : ℕ) (told : Leaves) (old mid run new : Dataflow) (tables more : Tables) → IsSound (record { flow = old; tables = tables })
    → next ≡ time + 1 → AreTold time told old tables mid more
    → ((plan : Plan) (us : LeafUpdates) → Stands plan mid us → Stands plan run (longer us (offers_of mid)))
    → run.output.upper ≡ next → run.offered.items ≡ [] → IsSameFrom time run.output new.output → new.offered ≡ run.offered
    → ((plan : Plan) (us : LeafUpdates) → Stands plan run us → Stands plan new us)
    → IsSound (record { flow = new; tables = more })
carried_sound time next told old mid run new tables more sound is h ran upper none allowed same stays =
    let offers = offers_are time told old mid tables more sound.none h in record {
      plan = sound.plan;
      us = longer sound.us (offers_of mid);
      stands = stays sound.plan (longer sound.us (offers_of mid)) (ran sound.plan sound.us (h.stands sound.plan sound.us sound.stands));
      few = sound.few;
      since = omega (arith, allowed.since, allowed.upper, upper, is);
      none = ap (λ v. v.items) same ∙ none;
      rows = λ item q.
          h.tables.alike item q ∙ count-append q (rows_of tables item) (told item) ∙ ap (λ z. z +ℤ count q (told item)) (sound.rows item q)
          ∙ sym (count-append q (weights (sound.us item)) (told item))
          ∙ ap (count q) (ap (λ ws. weights (sound.us item) ++ ws) (sym (weights-stamped time (told item))) ∙ sym (weights-append (sound.us item) (stamped time (told item)))
          ∙ ap (λ us. weights (sound.us item ++ us)) (sym (offers item)));
      within = h.tables.within sound.within;
    }

-- plans of the same nodes have the same rows
puts_same : (flow : Dataflow) (first second : Plan) → Puts first flow.nodes.items → Puts second flow.nodes.items
    → (leaves : Leaves) → meaning_of_ints leaves first ≡ meaning_of_ints leaves second
puts_same flow first second h k leaves = ap top (sym (h.puts leaves []) ∙ k.puts leaves [])

-- what nodes put of a plan, others that put another plan of the same rows put too
puts_on : (old new : Dataflow) (first second : Plan) → Puts first old.nodes.items → Puts first new.nodes.items → Puts second old.nodes.items
    → Puts second new.nodes.items
puts_on old new first second h k own = record {
  puts = λ leaves stack. k.puts leaves stack ∙ ap (λ ws. ws ∷ stack) (puts_same old first second h own leaves);
}

-- what is made of a plan is read from the counts of its leaves
plan_alike : (flow : Dataflow) (plan : Plan) → Puts plan flow.nodes.items → (leaves others : Leaves) → AreAlike leaves others
    → Alike (meaning_of_ints leaves plan) (meaning_of_ints others plan)
plan_alike flow plan h leaves others alike = (nodes_read plan flow.nodes.items h).gives leaves others alike

-- the plan's rows change by what is put out
rows_changed : (time : ℕ) (plan : Plan) (old : Dataflow) (tables more : Leaves) (us given : LeafUpdates) (changes : List Update) → Puts plan old.nodes.items
    → Alike (meaning_of_ints (contents_of time (longer us given)) plan) (meaning_of_ints (contents_of time us) plan ++ contents time changes)
    → AreAlike more (contents_of time (longer us given)) → AreAlike tables (contents_of time us) → IsBefore (time + 1) changes
    → Alike (meaning_of_ints more plan) (meaning_of_ints tables plan ++ weights changes)
rows_changed time plan old tables more us given changes puts gives new was before q =
    plan_alike old plan puts more (contents_of time (longer us given)) new q
    ∙ gives q
    ∙ count-append q (meaning_of_ints (contents_of time us) plan) (contents time changes)
    ∙ (λ i. sym (plan_alike old plan puts tables (contents_of time us) was q) i +ℤ count q (contents-before time (time + 1) changes before (omega arith) i))
    ∙ sym (count-append q (meaning_of_ints tables plan) (weights changes))

-- and so it is of each plan that the nodes put
pub carried_change : (time next : ℕ) (told : Leaves) (old mid run new : Dataflow) (tables more : Tables) → IsSound (record { flow = old; tables = tables })
    → old.output.upper ≤ time → next ≡ time + 1 → AreTold time told old tables mid more
    → ((plan : Plan) (us : LeafUpdates) → Stands plan mid us → Stands plan run (longer us (offers_of mid)))
    → ((plan : Plan) (us : LeafUpdates) → Stands plan mid us
    → (t : ℕ) → Alike (meaning_of_ints (contents_of t (longer us (offers_of mid))) plan) (meaning_of_ints (contents_of t us) plan ++ contents t run.changes))
    → IsConsolidated run.changes → IsBefore next run.changes → new.changes ≡ run.changes → new.nodes ≡ run.nodes → new.output.upper ≡ next
    → IsChange time told (record { flow = old; tables = tables }) (record { flow = new; tables = more })
carried_change time next told old mid run new tables more sound late is h ran gives once before same nodes upper =
    let offers = offers_are time told old mid tables more sound.none h in
    let stands = h.stands sound.plan sound.us sound.stands in
    let puts : Puts sound.plan new.nodes.items = subst (λ v. Puts sound.plan v.items) (sym nodes) (ran sound.plan sound.us stands).stands.puts in
    let end : IsBefore (time + 1) run.changes = subst (λ n. IsBefore n run.changes) is before in
    let early = sound.stands.stands.leaves.early in
    let changed = rows_changed time sound.plan old (rows_of tables) (rows_of more) sound.us (offers_of mid) run.changes sound.stands.stands.puts (gives sound.plan sound.us stands time)
    (λ item q. h.tables.alike item q ∙ count-append q (rows_of tables item) (told item) ∙ ap (λ z. z +ℤ count q (told item)) (sound.rows item q)
    ∙ sym (count-append q (weights (sound.us item)) (told item))
    ∙ ap (count q) (sym (at_on time time old.output.upper (sound.us item) (told item) (early item) late (omega arith))
    ∙ ap (λ us. contents time (sound.us item ++ us)) (sym (offers item))))
    (λ item q. sound.rows item q ∙ ap (count q) (sym (contents-before time old.output.upper (sound.us item) (early item) (omega (arith, late)))))
    end in record {
      tables = h.tables.alike;
      puts = λ plan own. puts_on old new sound.plan plan sound.stands.stands.puts puts own;
      rows = λ plan own q.
          ap (count q) (sym (puts_same old sound.plan plan sound.stands.stands.puts own (rows_of more)))
          ∙ changed q
          ∙ (λ i. count q (puts_same old sound.plan plan sound.stands.stands.puts own (rows_of tables) i ++ weights (sym same i)));
      once = subst IsConsolidated (sym same) once;
      before = subst (IsBefore (time + 1)) (sym same) end;
      upper = upper ∙ is;
    }
