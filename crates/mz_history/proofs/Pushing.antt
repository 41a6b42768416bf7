-- One stream of many is told a line, and that is taken back.
use Rattle.std.proofs.Common.{◌≡◌, ℕ, zero, suc, ◌<◌, ◌≤◌, List, [], ◌∷◌, length, get_or, set, sym, ap, subst, ◌∙◌, arith}
use Rattle.std.proofs.lemmas.List.{length-append}
use Rattle.mz_plan.specs.declared.command.Command.{Command}
use Rattle.mz_marked.specs.Twice.{Twice}
use Rattle.mz_history.specs.StreamBook.{LiveStream}
use Rattle.mz_history.specs.Kept.{told_line, without_last, IsWithin}
use Rattle.mz_history.proofs.Lists.{but_last_push, set_back}

-- what stands where it is put
pub put_there : {A : Type 0} (k : ℕ) (xs : List A) (x y : A) → k < length xs → y ≡ get_or (set xs k x) k y → y ≡ x
put_there k [] x y h e = absurd (omega (arith, h))
put_there zero (z ∷ xs) x y h e = e
put_there (suc k) (z ∷ xs) x y h e = put_there k xs x y (omega (arith, h)) e

-- the same is put there
pub put_same : {A : Type 0} (k : ℕ) (xs : List A) (x y : A) → k < length xs → x ≡ get_or xs k x → y ≡ x → set xs k y ≡ xs
put_same k [] x y h e i = absurd (omega (arith, h))
put_same zero (z ∷ xs) x y h e i = ap (λ w. w ∷ xs) (i ∙ e)
put_same (suc k) (z ∷ xs) x y h e i = ap (λ ys. z ∷ ys) (put_same k xs x y (omega (arith, h)) e i)

-- the last line may go, since no more are marked than there were before
pub may_go : (line : Command) (t u : Twice LiveStream) → IsWithin t → u ≡ told_line line t → length u.marked.commands < length u.present.commands
may_go line t u w e =
    let before : length t.marked.commands ≤ length t.present.commands = w in
    subst (λ (v : Twice LiveStream). length v.marked.commands < length v.present.commands) (sym e) (omega (arith, before, length-append t.present.commands (line ∷ [])))

-- a line told and taken back
told_back : (line : Command) (t : Twice LiveStream) → without_last (told_line line t) ≡ t
told_back line t =
    ap (λ (cs : List Command). record { present = record t.present { commands = cs }; marked = t.marked }) (sym (but_last_push t.present.commands line))

-- what was told at a place, and the others then took back, is taken back
pub taken_out : (k : ℕ) (line : Command) (ts us : List (Twice LiveStream)) (t u v w : Twice LiveStream) → k < length ts → t ≡ get_or ts k t
    → u ≡ told_line line t → us ≡ set ts k u → v ≡ get_or us k v → w ≡ without_last v → set us k w ≡ ts
taken_out k line ts us t u v w h e i s j q =
    let there : v ≡ u = put_there k ts u v h (subst (λ xs. v ≡ get_or xs k v) s j) in
    let back : w ≡ t = q ∙ ap without_last (there ∙ i) ∙ told_back line t in
    (λ n. set (s n) k (back n)) ∙ set_back k ts t u h e
