-- Which of the collections that there are the replicas of a cluster make stays, whatever an entry does to collections.
use Rattle.std.proofs.Common.{◌≡◌, ℕ, ◌+◌, ◌≤◌, ◌==◌, ◌&&◌, ◌||◌, Bool, true, false, not, List, [], ◌∷◌, ◌++◌, length, map, refl, ap, ◌∙◌, arith, length-append}
use Rattle.std.proofs.lemmas.Bool.{cond_both, ne_eqb}
use Rattle.std.proofs.lemmas.List.{length-map}
use Rattle.std.proofs.lemmas.List.Folds.{list_any-append}
use Rattle.mz_plan.specs.declared.item.Item.{Item}
use Rattle.mz_plan.specs.declared.item.ItemKind.{ItemKind}
use Rattle.mz_plan.specs.declared.item.ItemKind.TheVariants as item
use Rattle.mz_plan.specs.declared.plan.Plan.{Plan}
use Rattle.mz_rules.specs.Joining.{is_made_in, is_table}
use Rattle.mz_rules.specs.declared.capability.Collection.{Collection}
use Rattle.mz_log.specs.Sequential.{Change, Made, Moved, Removed}
use Rattle.mz_books.specs.Collections.{advanced, with_change, with_changes, with_item, with_read, without_item}
use Rattle.mz_books.specs.Streams.{is_kept_in}
use Rattle.mz_stream_laws.proofs.Put.{IsPut, put_advanced, put_without}

-- of later collections none is fewer, and the replicas of each cluster make the one of this number if they made it before
pub record Keeps (number : ℕ) (before after : List Collection) : Type 0 where
  pub long : length before ≤ length after
  pub same : (cluster : ℕ) → is_kept_in cluster after number ≡ is_kept_in cluster before number

-- collections that stay keep it
pub keeps_self : (number : ℕ) (cs : List Collection) → Keeps number cs cs
keeps_self number cs = record { long = omega arith; same = λ cluster. refl }

-- two steps
pub keeps_twice : (number : ℕ) (cs ds es : List Collection) → Keeps number cs ds → Keeps number ds es → Keeps number cs es
keeps_twice number cs ds es p q =
    let first = p.long in
    let second = q.long in
    record { long = omega arith; same = λ cluster. q.same cluster ∙ p.same cluster }

-- the test of one collection
same_test : (number cluster : ℕ) (c d : Collection) → IsPut c d
    → ((d.number == number) && is_made_in cluster d) ≡ ((c.number == number) && is_made_in cluster c)
same_test number cluster c d p = λ i. (p.number i == number) && ((p.cluster i == cluster) && not (is_table (p.kind i)))

-- collections that move
kept_moved : (f : Collection → Collection) → ((c : Collection) → IsPut c (f c)) → (number cluster : ℕ) (cs : List Collection)
    → is_kept_in cluster (map f cs) number ≡ is_kept_in cluster cs number
kept_moved f put number cluster [] = refl
kept_moved f put number cluster (c ∷ cs) =
    λ i. same_test number cluster c (f c) (put c) i || kept_moved f put number cluster cs i

-- so they keep it
pub keeps_moved : (f : Collection → Collection) → ((c : Collection) → IsPut c (f c)) → (number : ℕ) (cs : List Collection)
    → Keeps number cs (map f cs)
keeps_moved f put number cs =
    let long = length-map cs f in record { long = omega (arith, long); same = λ cluster. kept_moved f put number cluster cs }

-- a test or nothing more
or_nothing : (b : Bool) → (b || false) ≡ b
or_nothing true = refl
or_nothing false = refl

-- a collection that has another number isn't it
other_test : (number cluster : ℕ) (c : Collection) → (c.number == number) ≡ false → ((c.number == number) && is_made_in cluster c) ≡ false
other_test number cluster c e = ap (λ b. b && is_made_in cluster c) e

-- one more, with the next number
pub keeps_more : (number : ℕ) (cs : List Collection) (c : Collection) → c.number ≡ length cs + 1 → number ≤ length cs
    → Keeps number cs (cs ++ c ∷ [])
keeps_more number cs c next h =
    let long = length-append cs (c ∷ []) in
    let apart : (c.number == number) ≡ false = ne_eqb c.number number (λ e. omega (arith, e, next, h)) in
    record {
      long = omega (arith, long);
      same = λ cluster. list_any-append (λ d. (d.number == number) && is_made_in cluster d) cs (c ∷ [])
          ∙ ap (λ b. is_kept_in cluster cs number || (b || false)) (other_test number cluster c apart)
          ∙ or_nothing (is_kept_in cluster cs number);
    }

-- ---- what entries do

-- an item that is made
keeps_item : (number time : ℕ) (cs : List Collection) (made : Item) (kind : ItemKind) → number ≤ length cs
    → Keeps number cs (with_item time cs made kind)
keeps_item number time cs made (item.Table columns) h = keeps_more number cs _ refl h
keeps_item number time cs made (item.Index on plan) h = keeps_more number cs _ refl h
keeps_item number time cs made (item.View columns query) h = keeps_self number cs

-- a change
keeps_change : (number time : ℕ) (cs : List Collection) (change : Change) → number ≤ length cs → Keeps number cs (with_change time cs change)
keeps_change number time cs (Made made) h = keeps_item number time cs made made.kind h
keeps_change number time cs (Removed id) h = keeps_moved (without_item id) (put_without id) number cs
keeps_change number time cs (Moved table rows) h = keeps_self number cs

-- the changes of a round
keeps_changes : (number time : ℕ) (cs : List Collection) (changes : List Change) → number ≤ length cs
    → Keeps number cs (with_changes time cs changes)
keeps_changes number time cs [] h = keeps_self number cs
keeps_changes number time cs (change ∷ changes) h =
    let first = keeps_change number time cs change h in
    let long = first.long in
    keeps_twice number cs (with_change time cs change) (with_changes time (with_change time cs change) changes) first
    (keeps_changes number time (with_change time cs change) changes (omega arith))

-- a round
pub keeps_round : (number time : ℕ) (cs : List Collection) (changes : List Change) → number ≤ length cs
    → Keeps number cs (map (advanced time) (with_changes time cs changes))
keeps_round number time cs changes h =
    keeps_twice number cs (with_changes time cs changes) (map (advanced time) (with_changes time cs changes))
    (keeps_changes number time cs changes h) (keeps_moved (advanced time) (put_advanced time) number (with_changes time cs changes))

-- a read
pub keeps_read : (number collection peek cluster : ℕ) (plan : Plan) (time : ℕ) (cs : List Collection) → number ≤ length cs
    → Keeps number cs (with_read collection peek cluster plan time cs)
keeps_read number collection peek cluster plan time cs h =
    cond_both (collection == length cs + 1) _ cs (Keeps number cs) (λ _. keeps_more number cs _ refl h) (λ _. keeps_self number cs)
