-- The opening, and names that are new.
use Rattle.std.proofs.Common.{◌≡◌, false, cond, List, [], ◌∷◌, ◌++◌, ℕ, bytes_eq, refl, sym, ap, subst, arith}
use Rattle.std.specs.List.{list_any}
use Rattle.indexmap.specs.IndexSet.{insert_key}
use Rattle.mz_kept.specs.Kept.{Kept, nothing}
use Rattle.mz_kept.specs.Standing.{StandsFor}

-- it is what the empty log has
pub nothing_stands : StandsFor nothing []
nothing_stands = record {
  legal = tt;
  whole = refl;
  plain = tt;
  sessions = record { names = refl; each = λ place. refl; calls = refl };
  rounds = record { read = refl; last = refl; begun = refl; open_round = refl; queued = refl };
  state = refl;
  reads = record { reads = refl; peeks = refl };
  within = record {
    paired = refl;
    commands = tt;
    reads = tt;
    rounds = (omega arith);
    peeks = (omega arith);
    each = λ place. (omega arith);
    calls = (omega arith);
    plans = record { descends = refl; below = tt };
  };
}

-- so a core that keeps nothing stands for it
pub fresh_stands : (k : Kept) → k ≡ nothing → StandsFor k []
fresh_stands k is = subst (λ own. StandsFor own []) (sym is) nothing_stands

-- a new name goes behind the others
pub insert_new : (name : List ℕ) (names : List (List ℕ)) → list_any (bytes_eq name) names ≡ false
    → insert_key bytes_eq names name ≡ names ++ name ∷ []
insert_new name names new = ap (λ there. cond there names (names ++ name ∷ [])) new
