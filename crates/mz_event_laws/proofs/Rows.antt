-- A packet moves no rows that a peek waits for: it tells only how far collections have come.
use Rattle.std.proofs.Common.{◌≡◌, ℕ, ◌==◌, Bool, true, false, cond, max, List, [], ◌∷◌, map, Some, refl, ap}
use Rattle.std.specs.Option.{option_map_or}
use Rattle.std.specs.FinMap.{empty, entries}
use Rattle.std.proofs.lemmas.Bool.{cond_both}
use Rattle.mz_bag.specs.Bag.{Counts}
use Rattle.mz_plan.specs.declared.command.PendingPeek.{PendingPeek}
use Rattle.mz_plan.specs.declared.plan.Plan.{Plan}
use Rattle.mz_rules.specs.Joining.{is_table}
use Rattle.mz_rules.specs.Moves.{come_to}
use Rattle.mz_rules.specs.declared.capability.Collection.{Collection}
use Rattle.mz_log.specs.declared.entry.Entry.TheVariants.{Absorbed}
use Rattle.mz_log.specs.Log.{Log}
use Rattle.mz_books.specs.Collections.{collections, named_for, numbered, reported}
use Rattle.mz_books.specs.Owed.{peek_rows}
use Rattle.mz_books.specs.States.{plan_at}

-- what a function gives of the plan of a collection, where it is found
abbrev contents : (Plan → Counts) → ℕ → List Collection → Counts
contents f number cs = option_map_or (λ c. f c.plan) (numbered number cs) empty

-- a collection in front keeps its number and its plan
front_same : (f : Plan → Counts) (number : ℕ) (frontiers : List (ℕ × ℕ)) (c : Collection) (cs ds : List Collection)
    → contents f number ds ≡ contents f number cs → contents f number (reported frontiers c ∷ ds) ≡ contents f number (c ∷ cs)
front_same f number frontiers c cs ds same =
    let come = come_to (max c.upper (named_for c.number frontiers)) c in
    cond_both (is_table c.kind) c come (λ d. contents f number (d ∷ ds) ≡ contents f number (c ∷ cs))
    (λ _. found (c.number == number) c refl) (λ _. found (c.number == number) come refl)
  where
    found : (b : Bool) (d : Collection) → d.plan ≡ c.plan → option_map_or (λ x. f x.plan) (cond b (Some d) (numbered number ds)) empty
        ≡ option_map_or (λ x. f x.plan) (cond b (Some c) (numbered number cs)) empty
    found true d own = ap f own
    found false d own = same

-- so do all collections
contents_same : (f : Plan → Counts) (number : ℕ) (frontiers : List (ℕ × ℕ)) (cs : List Collection)
    → contents f number (map (reported frontiers) cs) ≡ contents f number cs
contents_same f number frontiers [] = refl
contents_same f number frontiers (c ∷ cs) =
    front_same f number frontiers c cs (map (reported frontiers) cs) (contents_same f number frontiers cs)

-- and so a peek waits for the rows for which it waited
pub rows_same : (log : Log) (replica : List ℕ) (incarnation turn taken ready : ℕ) (frontiers : List (ℕ × ℕ)) (waiting : PendingPeek)
    → peek_rows (Absorbed replica incarnation turn taken ready frontiers ∷ log) waiting ≡ peek_rows log waiting
rows_same log replica incarnation turn taken ready frontiers waiting =
    ap entries (contents_same (λ plan. plan_at log plan waiting.time) waiting.collection frontiers (collections log))
