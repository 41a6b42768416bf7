-- What one more read comes to: a piece within the limit or past it, of which all is answered or a front, and how an answer stops.
use Rattle.std.proofs.Common.{◌≡◌, ℕ, zero, suc, ◌+◌, ◌-◌, ◌<◌, ◌≤◌, List, [], ◌∷◌, ◌++◌, length, take, refl, ap, sym, subst, ◌∙◌, append-nil, length-append, arith, inl, inr, ◌⊎◌}
use Rattle.std.specs.declared.option.Option.{Option}
use Rattle.std.specs.Io.KnownBytes.{Appends, Consumes, IsAtEnd}
use Rattle.std.proofs.KnownBytes.{Appends-nil, Appends-trans, Consumes-nil, Consumes-trans}
use Rattle.std.proofs.lemmas.List.{length-take-le, take_all}
use Rattle.std.proofs.Math.Seq.{take-append-add}
use Rattle.mz_io.specs.Written.{AppendsFront}
use Rattle.mz_io.proofs.CauseLemmas.{Rose-earlier}
use Rattle.mz_script.specs.ScriptLine.{Machine}
use Rattle.mz_shell.specs.declared.script.Stop.{Stop}
use Rattle.mz_shell.specs.declared.script.Stop.TheVariants.{Source, Sink, Memory, TooLong}
use Rattle.mz_shell.specs.Lines.{lines_of, whole_lines}
use Rattle.mz_shell.specs.Transcript.{after_read_lines, transcript}
use Rattle.mz_shell.specs.Reading.{DidWrite, IsGoing, StopsAnswer, completes, left_waiting}
use Rattle.mz_shell.specs.Runs.{longest_input, IsPartWritten, IsTooLong, StopsScript}
use Rattle.mz_shell.proofs.StreamLemmas.{going_on, so_far, text_ended, text_grown}

-- a front of what is added is a front of all
front_after : (old mid new : Option (List ℕ)) (before text all : List ℕ) → Appends old mid before → before ++ text ≡ all → AppendsFront mid new text → AppendsFront old new all
front_after old mid new before text all first same front =
    let within = front.1 in
    let counted = simp length-append at (ap length same) in
    (length before + front.0, omega arith, subst (Appends old new) (sym (take-append-add before text front.0) ∙ ap (take (length before + front.0)) same) (Appends-trans old mid new before (take front.0 text) first front.2))

-- the input came to its end, but of what the last line is answered only a front was written
pub going_end_part : (left left' left'' written written' written'' : Option (List ℕ)) (Stands : Machine → Type 0) (lines : ℕ) (waiting : List ℕ) (count : ℕ)
    → (going : IsGoing left left' written written' Stands lines waiting count) → Consumes left' left'' [] → IsAtEnd left''
    → AppendsFront written' written'' (after_read_lines (lines_of waiting) (so_far going.read)).text → IsPartWritten left left'' written written''
going_end_part left left' left'' written written' written'' Stands lines waiting count going nothing at_end wrote =
    let counted = going.counted in
    let within = going.within in
    record {
      read = going.read;
      consumed = subst (Consumes left left'') (append-nil going.read) (Consumes-trans left left' left'' going.read [] going.consumed nothing);
      script = going.read;
      counted = inr (record { all = refl; within = omega arith; at_end = at_end });
      wrote = front_after written written' written'' (transcript (whole_lines going.read)) _ (transcript going.read) going.wrote (text_ended waiting going.read going.behind) wrote;
    }

-- the limit cuts a piece that goes past it
cut_at_limit : (read piece : List ℕ) (room : ℕ) → length read + room ≡ longest_input → room ≤ length piece
    → take longest_input (read ++ piece) ≡ read ++ take room piece
cut_at_limit read piece room full within = ap (λ (n : ℕ). take n (read ++ piece)) (sym full) ∙ take-append-add read piece room

-- one more piece, of which so many bytes are within the limit, but only a front of their answers was written
going_part : (left left' left'' written written' written'' : Option (List ℕ)) (Stands : Machine → Type 0) (lines : ℕ) (waiting piece : List ℕ) (count room : ℕ)
    → (going : IsGoing left left' written written' Stands lines waiting count) → Consumes left' left'' piece
    → (count + length piece ≤ longest_input) × (room ≡ length piece) ⊎ (count + room ≡ longest_input) × (room ≤ length piece)
    → AppendsFront written' written'' (completes (so_far going.read) waiting (take room piece)).text
    → IsPartWritten left left'' written written''
going_part left left' left'' written written' written'' Stands lines waiting piece count room going consumed fits wrote =
    let counted = going.counted in
    let read = going.read ++ take room piece in
    let cut : take longest_input (going.read ++ piece) ≡ read = elim fits [
      | inl h ↦ take_all longest_input (going.read ++ piece) (simp length-append (omega arith)) ∙ ap (λ (xs : List ℕ). going.read ++ xs) (sym (take_all room piece (omega arith)))
      | inr h ↦ cut_at_limit going.read piece room (omega arith) h.1
    ] in
    record {
      read = going.read ++ piece;
      consumed = Consumes-trans left left' left'' going.read piece going.consumed consumed;
      script = whole_lines read;
      counted = inl (ap whole_lines (sym cut));
      wrote = front_after written written' written'' (transcript (whole_lines going.read)) _ (transcript (whole_lines read)) going.wrote
          (text_grown waiting going.read (take room piece) going.behind) wrote;
    }

-- a piece that goes past the limit: what is within it was answered
going_long : (left left' left'' written written' written'' : Option (List ℕ)) (Stands Now : Machine → Type 0) (lines : ℕ) (waiting piece : List ℕ) (count room : ℕ)
    → (going : IsGoing left left' written written' Stands lines waiting count) → Consumes left' left'' piece
    → count + room ≡ longest_input → room < length piece
    → DidWrite Now written' written'' (completes (so_far going.read) waiting (take room piece))
    → IsTooLong left left'' written written''
going_long left left' left'' written written' written'' Stands Now lines waiting piece count room going consumed full past did =
    let counted = going.counted in
    let cut = cut_at_limit going.read piece room (omega arith) (omega arith) in
    record {
      read = going.read ++ piece;
      consumed = Consumes-trans left left' left'' going.read piece going.consumed consumed;
      too_long = simp length-append (omega arith);
      wrote = subst (λ (xs : List ℕ). Appends written written'' (transcript (whole_lines xs))) (sym cut)
          (subst (Appends written written'') (text_grown waiting going.read (take room piece) going.behind)
          (Appends-trans written written' written'' (transcript (whole_lines going.read)) _ going.wrote did.wrote));
    }

-- ---- causes

-- how a part of a call stops is how the call stops
pub stops_earlier : (left left' written written' : Option (List ℕ)) (first source source' first_sink sink sink' : ℕ) (stop : Stop)
    → first ≤ source → first_sink ≤ sink → StopsScript left left' written written' source source' sink sink' stop
    → StopsScript left left' written written' first source' first_sink sink' stop
stops_earlier left left' written written' first source source' first_sink sink sink' Source earlier before h = (h.0, Rose-earlier first source source' earlier h.1)
stops_earlier left left' written written' first source source' first_sink sink sink' Sink earlier before h = (h.0, Rose-earlier first_sink sink sink' before h.1)
stops_earlier left left' written written' first source source' first_sink sink sink' Memory earlier before h = h
stops_earlier left left' written written' first source source' first_sink sink sink' TooLong earlier before h = h

-- how an answer stops, with what was written then, is how the script stops
pub stops_part : (left left' written written' : Option (List ℕ)) (source source' sink sink' : ℕ) (stop : Stop)
    → StopsAnswer sink sink' stop → IsPartWritten left left' written written' → StopsScript left left' written written' source source' sink sink' stop
stops_part left left' written written' source source' sink sink' Source h part = absurd h
stops_part left left' written written' source source' sink sink' Sink h part = (part, h)
stops_part left left' written written' source source' sink sink' Memory h part = part
stops_part left left' written written' source source' sink sink' TooLong h part = absurd h

-- a front of a front
pub front_of_front : (n m : ℕ) (xs : List ℕ) → n ≤ m → take n (take m xs) ≡ take n xs
front_of_front zero m xs h = refl
front_of_front (suc n) zero xs h = absurd (omega (arith, h))
front_of_front (suc n) (suc m) [] h = refl
front_of_front (suc n) (suc m) (x ∷ xs) h = ap (λ (ys : List ℕ). x ∷ ys) (front_of_front n m xs (omega arith))

-- ---- what one read gave

length_got : (got : ℕ) (into : List ℕ) → got ≤ length into → length (take got into) ≡ got
length_got got into within = length-take-le got into within

-- what was got is within the limit
pub next_on : (left left' left'' written written' written'' : Option (List ℕ)) (Stands Now : Machine → Type 0) (lines lines' : ℕ) (waiting behind into : List ℕ) (count got : ℕ)
    → (going : IsGoing left left' written written' Stands lines waiting count) → Consumes left' left'' (take got into) → got ≤ length into → got ≤ longest_input - count
    → DidWrite Now written' written'' (completes (so_far going.read) waiting (take got into)) → behind ≡ left_waiting waiting (take got into) (whole_lines (take got into))
    → lines' + length behind ≤ lines + (length waiting + length (take got into))
    → IsGoing left left'' written written'' Now lines' behind (count + got)
next_on left left' left'' written written' written'' Stands Now lines lines' waiting behind into count got going consumed within fits did waits few =
    let counted = length_got got into within in
    let limit = going.within in
    subst (λ (n : ℕ). IsGoing left left'' written written'' Now lines' behind (count + n)) counted
    (going_on left left' left'' written written' written'' Stands Now lines lines' waiting behind (take got into) count going consumed (omega arith) did waits few)

pub next_part : (left left' left'' written written' written'' : Option (List ℕ)) (Stands : Machine → Type 0) (lines : ℕ) (waiting into : List ℕ) (count got : ℕ)
    → (going : IsGoing left left' written written' Stands lines waiting count) → Consumes left' left'' (take got into) → got ≤ length into → got ≤ longest_input - count
    → AppendsFront written' written'' (completes (so_far going.read) waiting (take got into)).text
    → IsPartWritten left left'' written written''
next_part left left' left'' written written' written'' Stands lines waiting into count got going consumed within fits wrote =
    let counted = length_got got into within in
    let limit = going.within in
    going_part left left' left'' written written' written'' Stands lines waiting (take got into) count got going consumed (inl (omega arith, sym counted))
    (subst (λ (xs : List ℕ). AppendsFront written' written'' (completes (so_far going.read) waiting xs).text) (sym (front_of_front got got into (omega arith))) wrote)

-- what was got goes past the limit
pub next_long : (left left' left'' written written' written'' : Option (List ℕ)) (Stands Now : Machine → Type 0) (lines : ℕ) (waiting into : List ℕ) (count got : ℕ)
    → (going : IsGoing left left' written written' Stands lines waiting count) → Consumes left' left'' (take got into) → got ≤ length into → longest_input - count < got
    → DidWrite Now written' written'' (completes (so_far going.read) waiting (take (longest_input - count) into))
    → IsTooLong left left'' written written''
next_long left left' left'' written written' written'' Stands Now lines waiting into count got going consumed within past did =
    let counted = length_got got into within in
    let limit = going.within in
    going_long left left' left'' written written' written'' Stands Now lines waiting (take got into) count (longest_input - count) going consumed (omega arith) (omega arith)
    (subst (λ (xs : List ℕ). DidWrite Now written' written'' (completes (so_far going.read) waiting xs)) (sym (front_of_front (longest_input - count) got into (omega arith))) did)

pub next_long_part : (left left' left'' written written' written'' : Option (List ℕ)) (Stands : Machine → Type 0) (lines : ℕ) (waiting into : List ℕ) (count got : ℕ)
    → (going : IsGoing left left' written written' Stands lines waiting count) → Consumes left' left'' (take got into) → got ≤ length into → longest_input - count < got
    → AppendsFront written' written'' (completes (so_far going.read) waiting (take (longest_input - count) into)).text
    → IsPartWritten left left'' written written''
next_long_part left left' left'' written written' written'' Stands lines waiting into count got going consumed within past wrote =
    let counted = length_got got into within in
    let limit = going.within in
    going_part left left' left'' written written' written'' Stands lines waiting (take got into) count (longest_input - count) going consumed (inr (omega arith, omega arith))
    (subst (λ (xs : List ℕ). AppendsFront written' written'' (completes (so_far going.read) waiting xs).text) (sym (front_of_front (longest_input - count) got into (omega arith))) wrote)

-- nothing was read, and nothing written
pub part_none : (left written : Option (List ℕ)) → IsPartWritten left left written written
part_none left written = record {
  read = [];
  consumed = Consumes-nil left;
  script = [];
  counted = inl refl;
  wrote = (0, omega arith, Appends-nil written);
}
