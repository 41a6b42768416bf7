-- What an operator answered stays what is made of all that it was told, step by step.
use Rattle.std.proofs.Common.{◌≡◌, ℕ, ◌≤◌, ◌^◌, ◌+ℤ◌, List, [], ◌++◌, sym, ap, subst, ◌∙◌, le_trans, arith}
use Rattle.std.proofs.lemmas.List.{append-nil, append_assoc}
use Rattle.mz_bag.specs.Mass.{mass}
use Rattle.mz_bag.specs.Weighted.{count}
use Rattle.mz_bag.proofs.BagLaws.{count-append}
use Rattle.mz_bag.proofs.MassLaws.{light_fits}
use Rattle.mz_updates.specs.declared.update.Update.{Update}
use Rattle.mz_updates.specs.Contents.{contents, weights, FitsAt, IsFrom}
use Rattle.mz_updates.proofs.ContentsLaws.{contents-append}
use Rattle.mz_updates.proofs.LightLists.{light_contents}
use Rattle.mz_ops.specs.Change.{IsLoad, Load, Meaning, Standing}
use Rattle.mz_ops.specs.Step.{IsBearableStep, IsStep, StandsBefore}
use Rattle.mz_ops.proofs.LightSteps.{light_step}
use Rattle.mz_reduce.specs.Laws.{group_load, group_loads, kept_load, kept_loads}
use Rattle.mz_reduce_tests.specs.Told.{IsTold}

-- a fresh operator was told nothing
pub told_nothing : (meaning : Meaning) (stands : List Update → List Update → Type 0) (us vs out : List Update) → us ≡ [] → vs ≡ [] → out ≡ [] → stands [] []
    → IsTold meaning stands us vs out
told_nothing meaning stands us vs out left right made fresh =
    subst (λ (p : List Update × List Update × List Update). IsTold meaning stands p.0 p.1 p.2) (sym (λ i. (left i, right i, made i)))
    (record { stand = fresh; gives = λ t q. ap (count q) (sym (append-nil (meaning [] []))) })

-- and with a step it was told more
pub told_more : (meaning next : Meaning) (before after : List Update → List Update → Type 0) (us vs out left right more : List Update)
    → next ≡ meaning → IsStep meaning before after left right more → IsTold meaning before us vs out → IsTold next after (us ++ left) (vs ++ right) (out ++ more)
told_more meaning next before after us vs out left right more same step told = subst (λ m. IsTold m after (us ++ left) (vs ++ right) (out ++ more)) (sym same) (record {
  stand = step.stands us vs told.stand;
  gives = λ t q.
      step.gives us vs told.stand t q
      ∙ count-append q (meaning (contents t us) (contents t vs)) (contents t more)
      ∙ ap (λ z. z +ℤ count q (contents t more)) (told.gives t q)
      ∙ sym (count-append q (meaning [] [] ++ contents t out) (contents t more))
      ∙ ap (count q) (append_assoc (meaning [] []) (contents t out) (contents t more) ∙ ap (λ ws. meaning [] [] ++ ws) (sym (contents-append t out more)));
})

-- a step is within the bound where all masses are small
small_step : (stands : Standing) (load : Load) (upper next : ℕ) (us vs left right : List Update) → IsLoad load
    → load (2 ^ 41) (2 ^ 41) (2 ^ 40) (2 ^ 40) ≤ 2 ^ 100 → StandsBefore upper stands us vs → IsFrom upper left → IsFrom upper right
    → mass (weights us) ≤ 2 ^ 40 → mass (weights vs) ≤ 2 ^ 40 → mass (weights left) ≤ 2 ^ 40 → mass (weights right) ≤ 2 ^ 40
    → IsBearableStep stands load upper next left right
small_step stands load upper next us vs left right loads most stand from from_too a b m n =
    light_step stands load upper next (weights us) (weights vs) left right loads stand.stand from from_too
    (le_trans (loads.grows _ _ _ _ _ _ _ _ (omega (arith, a, m)) (omega (arith, b, n)) m n) most)

-- as for groups
pub small_groups : (stands : Standing) (upper next : ℕ) (us vs left right : List Update) → StandsBefore upper stands us vs → IsFrom upper left → IsFrom upper right
    → mass (weights us) ≤ 2 ^ 40 → mass (weights vs) ≤ 2 ^ 40 → mass (weights left) ≤ 2 ^ 40 → mass (weights right) ≤ 2 ^ 40
    → IsBearableStep stands group_load upper next left right
small_groups stands upper next us vs left right = small_step stands group_load upper next us vs left right group_loads (omega arith)

-- and for distinct rows
pub small_rows : (stands : Standing) (upper next : ℕ) (us vs left right : List Update) → StandsBefore upper stands us vs → IsFrom upper left → IsFrom upper right
    → mass (weights us) ≤ 2 ^ 40 → mass (weights vs) ≤ 2 ^ 40 → mass (weights left) ≤ 2 ^ 40 → mass (weights right) ≤ 2 ^ 40
    → IsBearableStep stands kept_load upper next left right
small_rows stands upper next us vs left right = small_step stands kept_load upper next us vs left right kept_loads (omega arith)

-- and what they contain fits
pub small_fits : (t : ℕ) (us : List Update) → mass (weights us) ≤ 2 ^ 40 → FitsAt t us
small_fits t us small = record {
  fits = λ row. light_fits (contents t us) row ((light_contents 0 us (record { within = le_trans small (omega arith) })).light t (omega arith));
}
