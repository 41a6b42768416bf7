-- A dataflow and its tables are told what changes at a time, one table after another.
use Rattle.std.proofs.Common.{◌≡◌, ◌==◌, ℕ, ◌+◌, ◌<◌, Bool, true, false, cond, List, [], ◌∷◌, ◌++◌, take, get_or, length, refl, sym, ap, ◌∙◌, append_assoc}
use Rattle.std.proofs.lemmas.List.{append-nil}
use Rattle.mz_bag.specs.Weighted.{Weighted}
use Rattle.mz_plan.specs.declared.plan.Plan.{Plan}
use Rattle.mz_updates.specs.declared.update.Update.{Update}
use Rattle.mz_updates.specs.Contents.{stamped}
use Rattle.mz_dataflow.specs.Flow.{LeafUpdates}
use Rattle.mz_dataflow.specs.Stands.{offers_of, with_offer, Stands}
use Rattle.mz_dataflow.specs.declared.dataflow.Dataflow.{Dataflow}
use Rattle.mz_maintained.specs.Maintained.{AreTold}
use Rattle.mz_maintained.specs.Tables.{told_of, AreGrown, Tables}
use Rattle.mz_maintained.proofs.TableLaws.{changed_then, told_next, told_none}

-- rows at a time, one list behind the other
stamped-append : (time : ℕ) (vs ws : Weighted) → stamped time (vs ++ ws) ≡ stamped time vs ++ stamped time ws
stamped-append time [] ws = refl
stamped-append time (v ∷ vs) ws = ap (λ us. record { row = v.0; time = time; diff = v.1 } ∷ us) (stamped-append time vs ws)

-- nothing was told
pub told_begun : (time : ℕ) (flow : Dataflow) (tables : Tables) → AreTold time (told_of []) flow tables flow tables
told_begun time flow tables = record {
  tables = told_none tables;
  offers = λ item. sym (append-nil (offers_of flow item));
  stands = λ plan us h. h;
  output = refl;
  nodes = refl;
  broken = refl;
}

-- one table
pub one_told : (time table : ℕ) (rows : Weighted) (us : List Update) (old new : Dataflow) (tables more : Tables) → AreGrown table rows tables more
    → us ≡ stamped time rows → ((item : ℕ) → offers_of new item ≡ with_offer table us (offers_of old) item)
    → ((plan : Plan) (vs : LeafUpdates) → Stands plan old vs → Stands plan new vs) → new.output ≡ old.output → new.nodes ≡ old.nodes
    → new.broken ≡ old.broken → AreTold time (told_of ((table, rows) ∷ [])) old tables new more
one_told time table rows us old new tables more grown is offers stays output nodes broken = record {
  tables = grown;
  offers = λ item. offers item ∙ by item (table == item);
  stands = stays;
  output = output;
  nodes = nodes;
  broken = broken;
}
  where
    by : (item : ℕ) (b : Bool) → cond b (offers_of old item ++ us) (offers_of old item) ≡ offers_of old item ++ stamped time (cond b (rows ++ []) [])
    by item true = ap (λ vs. offers_of old item ++ vs) (is ∙ ap (stamped time) (sym (append-nil rows)))
    by item false = sym (append-nil (offers_of old item))

-- and another behind those before it
pub told_then : (time : ℕ) (cs : List (ℕ × Weighted)) (i : ℕ) (c : ℕ × Weighted) (old mid new : Dataflow) (tables between more : Tables)
    → i < length cs → c ≡ get_or cs i c → AreTold time (told_of (take i cs)) old tables mid between → AreTold time (told_of (c ∷ [])) mid between new more
    → AreTold time (told_of (take (i + 1) cs)) old tables new more
told_then time cs i c old mid new tables between more within at h k =
    let next : (item : ℕ) → told_of (take (i + 1) cs) item ≡ told_of (take i cs) item ++ told_of (c ∷ []) item = λ item. told_next cs i c item within at in record {
      tables = changed_then (told_of (take i cs)) (told_of (c ∷ [])) (told_of (take (i + 1) cs)) tables between more next h.tables k.tables;
      offers = λ item.
          k.offers item ∙ ap (λ us. us ++ stamped time (told_of (c ∷ []) item)) (h.offers item)
          ∙ append_assoc (offers_of old item) (stamped time (told_of (take i cs) item)) (stamped time (told_of (c ∷ []) item))
          ∙ ap (λ us. offers_of old item ++ us) (sym (stamped-append time (told_of (take i cs) item) (told_of (c ∷ []) item)) ∙ ap (stamped time) (sym (next item)));
      stands = λ plan us s. k.stands plan us (h.stands plan us s);
      output = k.output ∙ h.output;
      nodes = k.nodes ∙ h.nodes;
      broken = k.broken ∙ h.broken;
    }
