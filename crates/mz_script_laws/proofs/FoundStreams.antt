-- What is found in a list is found still, once each member is changed or there are more.
use Rattle.std.specs.Prelude.{bytes_eq}
use Rattle.std.proofs.Common.{◌≡◌, ℕ, ◌≤◌, ◌&&◌, Bool, cond, List, [], ◌∷◌, ◌++◌, length, map, find, Some, refl, sym, ap, ◌∙◌, inl, inr, arith, length-append}
use Rattle.std.proofs.lemmas.Bool.{cases_Bool, cond-false, cond-true, cond_both}
use Rattle.mz_plan.specs.declared.command.Command.{Command}
use Rattle.mz_rules.specs.Joining.{allowances}
use Rattle.mz_rules.specs.declared.capability.Settled.{Settled}
use Rattle.mz_log.specs.declared.stream.Stream.{Stream}
use Rattle.mz_books.specs.Streams.{fed, is_live_of, is_stream, told_more}
use Rattle.mz_safe_laws.proofs.Incarnations.{same_name}

-- ---- lists

-- what is found is found once each member is changed, if that leaves the test
pub find_map : {A : Type 0} (test : A → Bool) (f : A → A) → ((x : A) → test (f x) ≡ test x) → (xs : List A) (x : A)
    → find test xs ≡ Some x → find test (map f xs) ≡ Some (f x)
find_map test f same [] x e = absurd (cc)
find_map test f same (y ∷ ys) x e = elim (cases_Bool (test y)) [
  | inl here ↦
      let own : Some y ≡ Some x = sym (cond-true _ _ _ here) ∙ e in
      let is : y ≡ x = cc in cond-true _ _ _ (same y ∙ here) ∙ ap (λ z. Some (f z)) is
  | inr other ↦ cond-false _ _ _ (same y ∙ other) ∙ find_map test f same ys x (sym (cond-false _ _ _ other) ∙ e)
]

-- and once there are more behind
pub find_left : {A : Type 0} (test : A → Bool) (xs ys : List A) (x : A) → find test xs ≡ Some x → find test (xs ++ ys) ≡ Some x
find_left test [] ys x e = absurd (cc)
find_left test (y ∷ xs) ys x e = elim (cases_Bool (test y)) [
  | inl here ↦ cond-true _ _ _ here ∙ (sym (cond-true _ _ _ here) ∙ e)
  | inr other ↦ cond-false _ _ _ other ∙ find_left test xs ys x (sym (cond-false _ _ _ other) ∙ e)
]

-- ---- streams

-- a function leaves of each stream all but its lines, to which it may add more
pub record Grows (f : Stream → Stream) : Type 0 where
  pub replica : (s : Stream) → (f s).replica ≡ s.replica
  pub incarnation : (s : Stream) → (f s).incarnation ≡ s.incarnation
  pub cluster : (s : Stream) → (f s).cluster ≡ s.cluster
  pub live : (s : Stream) → (f s).live ≡ s.live
  pub report : (s : Stream) → (f s).report ≡ s.report
  pub longer : (s : Stream) → length s.commands ≤ length (f s).commands

-- done to some streams
grows_if : (test : Stream → Bool) (f : Stream → Stream) → Grows f → Grows (λ s. cond (test s) (f s) s)
grows_if test f g = record {
  replica = λ s. cond_both (test s) (f s) s (λ x. x.replica ≡ s.replica) (λ e. g.replica s) (λ e. refl);
  incarnation = λ s. cond_both (test s) (f s) s (λ x. x.incarnation ≡ s.incarnation) (λ e. g.incarnation s) (λ e. refl);
  cluster = λ s. cond_both (test s) (f s) s (λ x. x.cluster ≡ s.cluster) (λ e. g.cluster s) (λ e. refl);
  live = λ s. cond_both (test s) (f s) s (λ x. x.live ≡ s.live) (λ e. g.live s) (λ e. refl);
  report = λ s. cond_both (test s) (f s) s (λ x. x.report ≡ s.report) (λ e. g.report s) (λ e. refl);
  longer = λ s. cond_both (test s) (f s) s (λ x. length s.commands ≤ length x.commands) (λ e. g.longer s) (λ e. omega arith);
}

-- further lines of each
grows_by : (more : Stream → List Command) → Grows (λ s. record s { commands = s.commands ++ more s })
grows_by more = record {
  replica = λ s. refl;
  incarnation = λ s. refl;
  cluster = λ s. refl;
  live = λ s. refl;
  report = λ s. refl;
  longer = λ s. omega (arith, length-append s.commands (more s));
}

-- what live streams are told
pub grows_told : (lines : ℕ → List Command) → Grows (told_more lines)
grows_told lines = grows_if (λ s. s.live) (λ s. record s { commands = s.commands ++ lines s.cluster }) (grows_by (λ s. lines s.cluster))

-- what a stream is fed
pub grows_fed : (replica : List ℕ) (incarnation : ℕ) (ss : List Settled) → Grows (fed replica incarnation ss)
grows_fed replica incarnation ss =
    grows_if (is_stream replica incarnation) (λ s. record s { commands = s.commands ++ allowances ss s.commands })
    (grows_by (λ s. allowances ss s.commands))

-- the test of a replica and incarnation stays
pub same_stream : (f : Stream → Stream) → Grows f → (replica : List ℕ) (incarnation : ℕ) (s : Stream)
    → is_stream replica incarnation (f s) ≡ is_stream replica incarnation s
same_stream f g = same_name f (record { replica = g.replica; incarnation = g.incarnation })

-- and that of a live one
pub same_live : (f : Stream → Stream) → Grows f → (replica : List ℕ) (s : Stream) → is_live_of replica (f s) ≡ is_live_of replica s
same_live f g replica s =
    ap (λ live. live && bytes_eq (f s).replica replica) (g.live s) ∙ ap (λ name. s.live && bytes_eq name replica) (g.replica s)
