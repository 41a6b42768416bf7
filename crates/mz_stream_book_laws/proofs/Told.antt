-- Streams that are told several lines, one after another.
use Rattle.std.specs.Prelude.{bytes_eq}
use Rattle.std.proofs.Common.{◌≡◌, ◌≢◌, ℕ, Bool, true, false, cond, List, [], ◌∷◌, ◌++◌, map, refl, sym, ap, ◌∙◌}
use Rattle.std.proofs.lemmas.List.{append-nil, append_assoc}
use Rattle.std.specs.List.{AllByRecursion as Each}
use Rattle.std.proofs.lemmas.Bool.{cond-false, cond-true, false_from_ne_true}
use Rattle.std.proofs.lemmas.Slice.Eq.{bytes_eq-Decides}
use Rattle.mz_rules.proofs.Each.{each_map}
use Rattle.mz_plan.specs.declared.command.Command.{Command}
use Rattle.mz_history.specs.Kept.{AreApart}
use Rattle.mz_history.specs.StreamBook.{Joined, LiveStream, StreamBook, changed_of, told_all, told_one, with_line}
use Rattle.mz_stream_book_laws.specs.StreamBookOf.{told_all_each, told_in_turn, told_one_each}

-- the stream with these further lines
abbrev pub with_lines : List Command → LiveStream → LiveStream
with_lines lines s = record s { commands = s.commands ++ lines }

-- the streams of the book, each changed
abbrev pub with_each : (LiveStream → LiveStream) → StreamBook → StreamBook
with_each f b = record b { live = map f b.live }

-- ---- no line, and one more

-- no further line changes nothing
no_more : (s : LiveStream) → s ≡ with_lines [] s
no_more s = sym (ap (λ lines. record s { commands = lines }) (append-nil s.commands))

-- a line and further lines are further lines
one_more : (line : Command) (lines : List Command) (s : LiveStream) → with_lines lines (with_line line s) ≡ with_lines (line ∷ lines) s
one_more line lines s = λ i. record s { commands = append_assoc s.commands (line ∷ []) lines i }

-- a change that changes none leaves all
map_same : (f : LiveStream → LiveStream) → ((s : LiveStream) → s ≡ f s) → (ss : List LiveStream) → ss ≡ map f ss
map_same f same [] = refl
map_same f same (s ∷ ss) = λ i. same s i ∷ map_same f same ss i

-- two changes of each are one
map_twice : (f g h : LiveStream → LiveStream) → ((s : LiveStream) → g (f s) ≡ h s) → (ss : List LiveStream) → map g (map f ss) ≡ map h ss
map_twice f g h same [] = refl
map_twice f g h same (s ∷ ss) = λ i. same s i ∷ map_twice f g h same ss i

-- ---- all

-- all are told several lines by one change
pub all_each : (lines : List Command) (b : StreamBook) → told_all_each lines b ≡ with_each (with_lines lines) b
all_each [] b = ap (λ ss. record b { live = ss }) (map_same (with_lines []) no_more b.live)
all_each (line ∷ lines) b =
    all_each lines (told_all line b)
    ∙ ap (λ ss. record b { live = ss }) (map_twice (with_line line) (with_lines lines) (with_lines (line ∷ lines))
    (one_more line lines) b.live)

-- ---- one

-- the change of one
abbrev pub own_lines : List ℕ → List Command → LiveStream → LiveStream
own_lines replica lines s = changed_of replica (with_lines lines) s

-- no further line changes nothing of one either
own_none : (replica : List ℕ) (s : LiveStream) → s ≡ own_lines replica [] s
own_none replica s = by (bytes_eq s.replica replica)
  where
    by : (b : Bool) → s ≡ cond b (with_lines [] s) s
    by true = no_more s
    by false = refl

-- a line and further lines of one are further lines of it
own_more : (replica : List ℕ) (line : Command) (lines : List Command) (s : LiveStream)
    → own_lines replica lines (changed_of replica (with_line line) s) ≡ own_lines replica (line ∷ lines) s
own_more replica line lines s = by (bytes_eq s.replica replica) refl
  where
    by : (b : Bool) → bytes_eq s.replica replica ≡ b
        → own_lines replica lines (cond b (with_line line s) s) ≡ cond b (with_lines (line ∷ lines) s) s
    by true e = ap (λ b. cond b (with_lines lines (with_line line s)) (with_line line s)) e ∙ one_more line lines s
    by false e = ap (λ b. cond b (with_lines lines s) s) e

-- one is told several lines by one change
pub one_each : (replica : List ℕ) (lines : List Command) (b : StreamBook)
    → told_one_each replica lines b ≡ with_each (own_lines replica lines) b
one_each replica [] b = ap (λ ss. record b { live = ss }) (map_same (own_lines replica []) (own_none replica) b.live)
one_each replica (line ∷ lines) b =
    one_each replica lines (told_one replica line b)
    ∙ ap (λ ss. record b { live = ss })
    (map_twice (changed_of replica (with_line line)) (own_lines replica lines) (own_lines replica (line ∷ lines))
    (own_more replica line lines) b.live)

-- ---- one after another

-- the stream with the lines of its replica
abbrev pub by_name : (List ℕ → List Command) → LiveStream → LiveStream
by_name lines s = with_lines (lines s.replica) s

-- a book with these streams
abbrev pub having : List Joined → List LiveStream → StreamBook
having js ss = record { live = ss; joined = js }

-- a stream of another replica is as it was
own_other : (replica : List ℕ) (lines : List Command) (s : LiveStream) → (s.replica ≢ replica) → own_lines replica lines s ≡ s
own_other replica lines s other =
    cond-false (bytes_eq s.replica replica) (with_lines lines s) s
    (false_from_ne_true (bytes_eq s.replica replica) (λ e. other ((bytes_eq-Decides s.replica replica).0 e)))

-- streams of other replicas are as they were
own_others : (replica : List ℕ) (lines : List Command) (ss : List LiveStream) → Each (λ s. s.replica ≢ replica) ss
    → map (own_lines replica lines) ss ≡ ss
own_others replica lines [] p = refl
own_others replica lines (s ∷ ss) p = λ i. own_other replica lines s p.0 i ∷ own_others replica lines ss p.1 i

-- its own has its lines
own_self : (lines : List Command) (s : LiveStream) → own_lines s.replica lines s ≡ with_lines lines s
own_self lines s = cond-true (bytes_eq s.replica s.replica) (with_lines lines s) s ((bytes_eq-Decides s.replica s.replica).1 refl)

-- the book with a stream more in front
abbrev pub with_first : LiveStream → StreamBook → StreamBook
with_first s b = record b { live = s ∷ b.live }

-- telling others leaves the first
first_left : (lines : List ℕ → List Command) (names : List (List ℕ)) (first : LiveStream) (b : StreamBook)
    → Each (λ name. first.replica ≢ name) names
    → told_in_turn lines names (with_first first b) ≡ with_first first (told_in_turn lines names b)
first_left lines [] first b p = refl
first_left lines (name ∷ names) first b p =
    ap (told_in_turn lines names)
    (one_each name (lines name) (with_first first b)
    ∙ ap (λ s. with_first s (with_each (own_lines name (lines name)) b)) (own_other name (lines name) first p.0)
    ∙ ap (with_first first) (sym (one_each name (lines name) b)))
    ∙ first_left lines names first (told_one_each name (lines name) b) p.1

-- telling each in turn tells each the lines of its replica
pub in_turn : (lines : List ℕ → List Command) (js : List Joined) (ss : List LiveStream) → AreApart ss
    → told_in_turn lines (map (λ s. s.replica) ss) (having js ss) ≡ having js (map (by_name lines) ss)
in_turn lines js [] p = refl
in_turn lines js (s ∷ ss) p =
    let names : List (List ℕ) = map (λ x. x.replica) ss in
    ap (told_in_turn lines names)
    (one_each s.replica (lines s.replica) (having js (s ∷ ss))
    ∙ (λ i. having js (own_self (lines s.replica) s i ∷ own_others s.replica (lines s.replica) ss p.0 i)))
    ∙ first_left lines names (by_name lines s) (having js ss)
    (each_map (λ x. x.replica ≢ s.replica) (λ name. s.replica ≢ name) (λ x. x.replica) (λ x other e. other (sym e)) ss p.0)
    ∙ ap (with_first (by_name lines s)) (in_turn lines js ss p.1)
