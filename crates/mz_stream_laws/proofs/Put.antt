-- A collection that moves on stays what it is: its number, item, cluster and kind are those that it had.
use Rattle.std.proofs.Common.{◌≡◌, ℕ, ◌+◌, ◌==◌, true, max, List, refl, sym, ◌∙◌}
use Rattle.std.proofs.lemmas.Bool.{cond_both, false≢true}
use Rattle.mz_time.specs.declared.frontier.Frontier.{Frontier}
use Rattle.mz_time.specs.declared.frontier.Frontier.TheVariants.{At, Done}
use Rattle.mz_statement.specs.declared.statement.Keep.{Keep}
use Rattle.mz_rules.specs.Frontiers.{is_at}
use Rattle.mz_rules.specs.Joining.{is_table}
use Rattle.mz_rules.specs.Moves.{come_to, kept_by, let_go}
use Rattle.mz_rules.specs.Policy.{raised}
use Rattle.mz_rules.specs.declared.capability.Collection.{Collection}
use Rattle.mz_books.specs.Collections.{advanced, is_called, is_in_catalog, named_for, reported, retained, without_item}

-- a collection is what it was; if it is in the catalog, it was so
pub record IsPut (before after : Collection) : Type 0 where
  pub number : after.number ≡ before.number
  pub item : after.item ≡ before.item
  pub cluster : after.cluster ≡ before.cluster
  pub kind : after.kind ≡ before.kind
  pub present : is_in_catalog after ≡ true → is_in_catalog before ≡ true

-- a policy that has its say makes nothing present
raised_at : (keep : Keep) (upper : ℕ) (f : Frontier) → is_at (raised keep upper f) ≡ is_at f
raised_at keep upper Done = refl
raised_at keep upper (At old) = refl

-- one that stays
put_self : (c : Collection) → IsPut c c
put_self c = record { number = refl; item = refl; cluster = refl; kind = refl; present = λ h. h }

-- one that comes on
put_on : (upper : ℕ) (c : Collection) → IsPut c (come_to upper c)
put_on upper c = record {
  number = refl;
  item = refl;
  cluster = refl;
  kind = refl;
  present = λ h. sym (raised_at c.keep upper c.implied) ∙ h;
}

-- one that has another policy
put_keep : (keep : Keep) (c : Collection) → IsPut c (kept_by keep c)
put_keep keep c = record {
  number = refl;
  item = refl;
  cluster = refl;
  kind = refl;
  present = λ h. sym (raised_at keep c.upper c.implied) ∙ h;
}

-- one that is let go
put_go : (c : Collection) → IsPut c (let_go c)
put_go c = record { number = refl; item = refl; cluster = refl; kind = refl; present = λ h. absurd (false≢true h) }

-- so it is with each after a round
pub put_advanced : (time : ℕ) (c : Collection) → IsPut c (advanced time c)
put_advanced time c =
    cond_both (is_table c.kind) (come_to (time + 1) c) c (IsPut c) (λ _. put_on (time + 1) c) (λ _. put_self c)

-- after a packet
pub put_reported : (frontiers : List (ℕ × ℕ)) (c : Collection) → IsPut c (reported frontiers c)
put_reported frontiers c =
    cond_both (is_table c.kind) c (come_to (max c.upper (named_for c.number frontiers)) c) (IsPut c) (λ _. put_self c)
    (λ _. put_on (max c.upper (named_for c.number frontiers)) c)

-- after a RETAIN
pub put_retained : (name : List ℕ) (keep : Keep) (c : Collection) → IsPut c (retained name keep c)
put_retained name keep c =
    cond_both (is_called name c) (kept_by keep c) c (IsPut c) (λ _. put_keep keep c) (λ _. put_self c)

-- and after a DROP
pub put_without : (item : ℕ) (c : Collection) → IsPut c (without_item item c)
put_without item c = cond_both (c.item == item) (let_go c) c (IsPut c) (λ _. put_go c) (λ _. put_self c)
