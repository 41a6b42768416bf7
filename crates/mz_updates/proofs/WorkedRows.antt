-- The definitions, computed at a small list: a row is put in at 1 and at 3, and goes at 5.
use Rattle.std.proofs.Common.{◌≡◌, ℕ, ℤ, pos, negsuc, List, [], ◌∷◌, refl}
use Rattle.mz_value.specs.declared.datum.Datum.{Datum}
use Rattle.mz_value.specs.declared.datum.Datum.TheVariants.{Int}
use Rattle.mz_bag.specs.Weighted.{count}
use Rattle.mz_updates.specs.declared.update.Update.{Update}
use Rattle.mz_updates.specs.Contents.{contents, changes, between, compacted}

a : List Datum
a = Int (pos 7) ∷ []

on : ℕ → ℤ → Update
on t diff = record { row = Int (pos 7) ∷ []; time = t; diff = diff }

three : List Update
three = on 1 (pos 1) ∷ on 3 (pos 1) ∷ on 5 (negsuc 1) ∷ []

-- it is there twice at 4
twice_at_4 : count a (contents 4 three) ≡ pos 2
unfolding a on three
twice_at_4 = refl

-- and no more at 5
gone_at_5 : count a (contents 5 three) ≡ pos 0
unfolding a on three
gone_at_5 = refl

-- what changes at 3, and what is from 3 on and below 5
once_at_3 : changes 3 three ≡ (a, pos 1) ∷ []
unfolding a on three
once_at_3 = refl

from_3_to_5 : between 3 5 three ≡ on 3 (pos 1) ∷ []
unfolding a on three
from_3_to_5 = refl

-- compacted to 4 the first two are at 4, and added up there is one
compacted_to_4 : compacted 4 three ≡ on 4 (pos 1) ∷ on 4 (pos 1) ∷ on 5 (negsuc 1) ∷ []
unfolding a on three
compacted_to_4 = refl
