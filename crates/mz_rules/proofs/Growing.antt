-- How collections grow: each is moved, and new ones come last.
use Rattle.std.proofs.Common.{ℕ, List, [], ◌∷◌, ◌++◌, map, refl, sym, ◌∙◌, subst}
use Rattle.std.specs.List.{AllByRecursion as Each}
use Rattle.mz_time.specs.declared.frontier.Frontier.{Frontier}
use Rattle.mz_time.specs.declared.frontier.Frontier.TheVariants.{At}
use Rattle.mz_time.specs.Frontier.{Le}
use Rattle.mz_time.proofs.FrontierLemmas.{Le-refl, Le-trans, Le-Done}
use Rattle.mz_rules.specs.declared.capability.Collection.{Collection}
use Rattle.mz_statement.specs.declared.statement.Keep.{Keep}
use Rattle.mz_rules.specs.Moves.{come_to, kept_by, let_go}
use Rattle.mz_rules.specs.Numbering.{Moved, IsNew, Grows}
use Rattle.mz_rules.proofs.Policies.{never_back}

-- each collection is its own
pub moved_self : (c : Collection) → Moved c c
moved_self c = record { same_number = refl; same_inputs = refl; same_as_of = refl; raises = Le-refl c.implied }

-- what is moved twice is moved
pub moved_on : (c d e : Collection) → Moved c d → Moved d e → Moved c e
moved_on c d e p q = record {
  same_number = q.same_number ∙ p.same_number;
  same_inputs = q.same_inputs ∙ p.same_inputs;
  same_as_of = q.same_as_of ∙ p.same_as_of;
  raises = Le-trans c.implied d.implied e.implied p.raises q.raises;
}

-- a new collection that is moved is a new one
pub new_moved : (g : ℕ → Frontier) (a : ℕ) (c d : Collection) → IsNew g a c → Moved c d → IsNew g a d
new_moved g a c d p q = record {
  own_as_of = q.same_as_of ∙ p.own_as_of;
  kept = Le-trans (At a) c.implied d.implied p.kept q.raises;
  inputs_before = subst (Each (λ input. Le (g input) (At a))) (sym q.same_inputs) p.inputs_before;
  own_bound = subst (λ n. Le (At a) (g n)) (sym q.same_number) p.own_bound;
}

-- nothing has to change
pub grows_same : (g : ℕ → Frontier) (a : ℕ) (cs : List Collection) → Grows g a cs cs
grows_same g a [] = tt
grows_same g a (c ∷ cs) = (moved_self c, grows_same g a cs)

-- what is moved each by each has grown
pub grows_map : (g : ℕ → Frontier) (a : ℕ) (f : Collection → Collection) → ((c : Collection) → Moved c (f c)) → (cs ds : List Collection)
    → Grows g a cs ds → Grows g a cs (map f ds)
grows_map g a f m [] [] p = tt
grows_map g a f m [] (d ∷ ds) p = (new_moved g a d (f d) p.0 (m d), grows_map g a f m [] ds p.1)
grows_map g a f m (c ∷ cs) [] p = p
grows_map g a f m (c ∷ cs) (d ∷ ds) p = (moved_on c d (f d) p.0 (m d), grows_map g a f m cs ds p.1)

-- and so has what has a new collection behind it
pub grows_more : (g : ℕ → Frontier) (a : ℕ) (e : Collection) → IsNew g a e → (cs ds : List Collection) → Grows g a cs ds
    → Grows g a cs (ds ++ (e ∷ []))
grows_more g a e new [] [] p = (new, tt)
grows_more g a e new [] (d ∷ ds) p = (p.0, grows_more g a e new [] ds p.1)
grows_more g a e new (c ∷ cs) [] p = absurd p
grows_more g a e new (c ∷ cs) (d ∷ ds) p = (p.0, grows_more g a e new cs ds p.1)

-- what comes on is the same, and kept no longer
pub comes_on : (upper : ℕ) (c : Collection) → Moved c (come_to upper c)
comes_on upper c = record { same_number = refl; same_inputs = refl; same_as_of = refl; raises = never_back c.keep upper c.implied }

-- so is what gets another policy
pub kept_on : (keep : Keep) (c : Collection) → Moved c (kept_by keep c)
kept_on keep c = record { same_number = refl; same_inputs = refl; same_as_of = refl; raises = never_back keep c.upper c.implied }

-- and what is let go
pub gone_on : (c : Collection) → Moved c (let_go c)
gone_on c = record { same_number = refl; same_inputs = refl; same_as_of = refl; raises = Le-Done c.implied }

-- what moves each collection moves them all
pub all_move : (g : ℕ → Frontier) (a : ℕ) (f : Collection → Collection) → ((c : Collection) → Moved c (f c)) → (cs : List Collection)
    → Grows g a cs (map f cs)
all_move g a f moves cs = grows_map g a f moves cs cs (grows_same g a cs)
