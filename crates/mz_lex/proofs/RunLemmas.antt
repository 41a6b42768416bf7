-- Runs of bytes that pass a test: where they end, and how long they are.
use Rattle.std.proofs.Common.{◌≡◌, ℕ, Bool, true, false, List, [], ◌∷◌, ◌++◌, length, refl, ap, ◌∙◌, arith, ◌&&◌, sym, drop}
use Rattle.std.proofs.Math.Seq.{drop-append_seam}
use Rattle.std.specs.List.{list_all, prefix_len}
use Rattle.mz_lex.specs.Bytes.{starts}

-- the bytes are a run that passes the test, and what goes on otherwise
pub record Split (p : ℕ → Bool) (bs : List ℕ) : Type 0 where
  pub front : List ℕ
  pub after : List ℕ
  pub parts : bs ≡ front ++ after
  pub passes : list_all p front ≡ true
  pub stops : starts p after ≡ false

-- one byte more at the front
split_next : (p : ℕ → Bool) (b : ℕ) (bs : List ℕ) (t : Bool) → p b ≡ t → Split p bs → Split p (b ∷ bs)
split_next p b bs true is more = record {
  front = b ∷ more.front;
  after = more.after;
  parts = ap (λ l. b ∷ l) more.parts;
  passes = rw is more.passes;
  stops = more.stops;
}
split_next p b bs false is more = record { front = []; after = b ∷ bs; parts = refl; passes = refl; stops = is }

-- all bytes are so
pub split_run : (p : ℕ → Bool) (bs : List ℕ) → Split p bs
split_run p [] = record { front = []; after = []; parts = refl; passes = refl; stops = refl }
split_run p (b ∷ bs) = split_next p b bs (p b) refl (split_run p bs)

-- no run where the first byte fails
prefix_len-stops : (p : ℕ → Bool) (after : List ℕ) → starts p after ≡ false → prefix_len p after ≡ 0
prefix_len-stops p [] stops = refl
prefix_len-stops p (b ∷ bs) stops = rw stops refl

-- a run is as long as its bytes are many
run_next : (p : ℕ → Bool) (b : ℕ) (front after : List ℕ) (t : Bool) → p b ≡ t → (t && list_all p front) ≡ true → (list_all p front ≡ true → prefix_len p (front ++ after) ≡ length front) → prefix_len p (b ∷ front ++ after) ≡ length (b ∷ front)
run_next p b front after true is passes ih = rw is (let here = ih passes in omega arith)
run_next p b front after false is passes ih = cc

-- the run at the front is all of the front
pub prefix_len-run : (p : ℕ → Bool) (front after : List ℕ) → list_all p front ≡ true → starts p after ≡ false → prefix_len p (front ++ after) ≡ length front
prefix_len-run p [] after passes stops = prefix_len-stops p after stops
prefix_len-run p (b ∷ front) after passes stops = run_next p b front after (p b) refl passes (λ rest. prefix_len-run p front after rest stops)

-- behind the run stands what is left when it is taken away
drop-run : (p : ℕ → Bool) (bs : List ℕ) → drop (prefix_len p bs) bs ≡ (split_run p bs).after
drop-run p bs =
    let run = split_run p bs in
    let long = ap (prefix_len p) run.parts ∙ prefix_len-run p run.front run.after run.passes run.stops in
    (λ i. drop (long i) (run.parts i)) ∙ drop-append_seam run.front run.after

-- a run is a part of the bytes, and passes
pub run_parts : (p : ℕ → Bool) (bs rest : List ℕ) → rest ≡ drop (prefix_len p bs) bs → (front : List ℕ) × (list_all p front ≡ true) × (bs ≡ front ++ rest)
run_parts p bs rest is =
    let run = split_run p bs in
    (run.front, run.passes, run.parts ∙ ap (λ l. run.front ++ l) (sym (is ∙ drop-run p bs)))

-- behind a run it doesn't go on
pub run_stops : (p : ℕ → Bool) (bs rest : List ℕ) → rest ≡ drop (prefix_len p bs) bs → starts p rest ≡ false
run_stops p bs rest is = ap (starts p) (is ∙ drop-run p bs) ∙ (split_run p bs).stops
