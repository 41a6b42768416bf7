-- The answers by status, and what the flush at the end leaves of them.
use Rattle.std.proofs.Common.{◌≡◌, ℕ, ◌≤◌, ◌<◌, ◌⊎◌, Bool, IsTrue, List, [], ◌∷◌, length, take, get_or, refl, ap, subst, sym, ◌∙◌, arith, inl, inr, Result, Ok, Err}
use Rattle.std.specs.declared.option.Option.{Option}
use Rattle.std.specs.Prelude.{OnOk, IfErr, codes}
use Rattle.std.specs.Str.{bytes_eq}
use Rattle.std.proofs.lemmas.Slice.Eq.{bytes_eq-Decides}
use Rattle.std.specs.Io.KnownBytes.{Appends, Keeps}
use Rattle.std.proofs.KnownBytes.{Appends-kept}
use Rattle.std.proofs.Math.Seq.{take-length}
use Rattle.mz_io.specs.Causes.{Rose}
use Rattle.mz_io.specs.Written.{AppendsFront}
use Rattle.mz_io.proofs.CauseLemmas.{Rose-earlier, Rose-later}
use Rattle.mz_shell.specs.declared.script.Stop.{Stop}
use Rattle.mz_shell.specs.declared.script.Stop.TheVariants.{Source, Sink, Memory, TooLong}
use Rattle.mz_shell.specs.Lines.{whole_lines}
use Rattle.mz_shell.specs.Transcript.{transcript}
use Rattle.mz_shell.specs.Runs.{longest_input, usage, script_words, IsFinished, IsCutOff, IsPartWritten, IsTooLong, StopsScript, ClosesAs, IsScriptAnswer, IsRefusal}

all_front : (old new : Option (List ℕ)) (text : List ℕ) → Appends old new text → AppendsFront old new text
all_front old new text h = (length text, omega arith, subst (Appends old new) (sym (take-length text)) h)

front_kept : (old mid new : Option (List ℕ)) (text : List ℕ) → AppendsFront old mid text → Keeps mid new → AppendsFront old new text
front_kept old mid new text h kept = (h.0, h.1, Appends-kept old mid new (take h.0 text) h.2 kept)

finished_part : (left left' written written' : Option (List ℕ)) → IsFinished left left' written written' → IsPartWritten left left' written written'
finished_part left left' written written' h = record {
  read = h.read;
  consumed = h.consumed;
  script = h.read;
  counted = inr (record { all = refl; within = h.within; at_end = h.at_end });
  wrote = all_front written written' (transcript h.read) h.wrote;
}

long_part : (left left' written written' : Option (List ℕ)) → IsTooLong left left' written written' → IsPartWritten left left' written written'
long_part left left' written written' h = record {
  read = h.read;
  consumed = h.consumed;
  script = whole_lines (take longest_input h.read);
  counted = inl refl;
  wrote = all_front written written' (transcript (whole_lines (take longest_input h.read))) h.wrote;
}

part_kept : (left left' written mid new : Option (List ℕ)) → IsPartWritten left left' written mid → Keeps mid new → IsPartWritten left left' written new
part_kept left left' written mid new h kept = record {
  read = h.read;
  consumed = h.consumed;
  script = h.script;
  counted = h.counted;
  wrote = front_kept written mid new (transcript h.script) h.wrote kept;
}

finished_kept : (left left' written mid new : Option (List ℕ)) → IsFinished left left' written mid → Keeps mid new → IsFinished left left' written new
finished_kept left left' written mid new h kept = record {
  read = h.read;
  consumed = h.consumed;
  at_end = h.at_end;
  within = h.within;
  legal = h.legal;
  replays = h.replays;
  wrote = Appends-kept written mid new (transcript h.read) h.wrote kept;
}

cut_kept : (left left' written mid new : Option (List ℕ)) → IsCutOff left left' written mid → Keeps mid new → IsCutOff left left' written new
cut_kept left left' written mid new h kept = record {
  read = h.read;
  consumed = h.consumed;
  within = h.within;
  wrote = Appends-kept written mid new (transcript (whole_lines h.read)) h.wrote kept;
}

long_kept : (left left' written mid new : Option (List ℕ)) → IsTooLong left left' written mid → Keeps mid new → IsTooLong left left' written new
long_kept left left' written mid new h kept = record {
  read = h.read;
  consumed = h.consumed;
  too_long = h.too_long;
  wrote = Appends-kept written mid new (transcript (whole_lines (take longest_input h.read))) h.wrote kept;
}

module _ (left left' written written' : Option (List ℕ)) (source source' sink sink' : ℕ) where
  -- the answer of each status
  answer_0 : (status : ℕ) → status ≡ 0 → IsFinished left left' written written' → IsScriptAnswer left left' written written' source source' sink sink' status
  answer_0 status is h = record {
    known = inl is;
    finished = λ e. h;
    source_failed = λ e. absurd (omega arith);
    sink_failed = λ e. absurd (omega arith);
    no_memory = λ e. absurd (omega arith);
    too_long = λ e. absurd (omega arith);
  }

  answer_3 : (status : ℕ) → status ≡ 3 → IsCutOff left left' written written' × Rose source source' → IsScriptAnswer left left' written written' source source' sink sink' status
  answer_3 status is h = record {
    known = inr (inl is);
    finished = λ e. absurd (omega arith);
    source_failed = λ e. h;
    sink_failed = λ e. absurd (omega arith);
    no_memory = λ e. absurd (omega arith);
    too_long = λ e. absurd (omega arith);
  }

  answer_4 : (status : ℕ) → status ≡ 4 → IsPartWritten left left' written written' × Rose sink sink' → IsScriptAnswer left left' written written' source source' sink sink' status
  answer_4 status is h = record {
    known = inr (inr (inl is));
    finished = λ e. absurd (omega arith);
    source_failed = λ e. absurd (omega arith);
    sink_failed = λ e. h;
    no_memory = λ e. absurd (omega arith);
    too_long = λ e. absurd (omega arith);
  }

  answer_5 : (status : ℕ) → status ≡ 5 → IsPartWritten left left' written written' → IsScriptAnswer left left' written written' source source' sink sink' status
  answer_5 status is h = record {
    known = inr (inr (inr (inl is)));
    finished = λ e. absurd (omega arith);
    source_failed = λ e. absurd (omega arith);
    sink_failed = λ e. absurd (omega arith);
    no_memory = λ e. h;
    too_long = λ e. absurd (omega arith);
  }

  answer_6 : (status : ℕ) → status ≡ 6 → IsTooLong left left' written written' → IsScriptAnswer left left' written written' source source' sink sink' status
  answer_6 status is h = record {
    known = inr (inr (inr (inr is)));
    finished = λ e. absurd (omega arith);
    source_failed = λ e. absurd (omega arith);
    sink_failed = λ e. absurd (omega arith);
    no_memory = λ e. absurd (omega arith);
    too_long = λ e. h;
  }

-- what a script ended with, and how it was closed, is its answer
pub script_answer : (left left' written mid written' : Option (List ℕ)) (source source' sink between sink' status : ℕ) (outcome : Result (Unit {0}) Stop)
    → OnOk outcome (IsFinished left left' written mid) → IfErr outcome (StopsScript left left' written mid source source' sink between)
    → ClosesAs between sink' outcome status → Keeps mid written' → sink ≤ between → between ≤ sink'
    → IsScriptAnswer left left' written written' source source' sink sink' status
script_answer left left' written mid written' source source' sink between sink' status (Ok done) finished stopped (inl is) kept first then' =
    answer_0 left left' written written' source source' sink sink' status is (finished_kept left left' written mid written' finished kept)
script_answer left left' written mid written' source source' sink between sink' status (Ok done) finished stopped (inr h) kept first then' =
    answer_4 left left' written written' source source' sink sink' status h.0
    (part_kept left left' written mid written' (finished_part left left' written mid finished) kept, Rose-earlier sink between sink' first h.1)
script_answer left left' written mid written' source source' sink between sink' status (Err TooLong) finished stopped (inl is) kept first then' =
    answer_6 left left' written written' source source' sink sink' status is (long_kept left left' written mid written' stopped kept)
script_answer left left' written mid written' source source' sink between sink' status (Err TooLong) finished stopped (inr h) kept first then' =
    answer_4 left left' written written' source source' sink sink' status h.0
    (part_kept left left' written mid written' (long_part left left' written mid stopped) kept, Rose-earlier sink between sink' first h.1)
script_answer left left' written mid written' source source' sink between sink' status (Err Source) finished stopped is kept first then' =
    answer_3 left left' written written' source source' sink sink' status is (cut_kept left left' written mid written' stopped.0 kept, stopped.1)
script_answer left left' written mid written' source source' sink between sink' status (Err Sink) finished stopped is kept first then' =
    answer_4 left left' written written' source source' sink sink' status is
    (part_kept left left' written mid written' stopped.0 kept, Rose-later sink between sink' stopped.1 then')
script_answer left left' written mid written' source source' sink between sink' status (Err Memory) finished stopped is kept first then' =
    answer_5 left left' written written' source source' sink sink' status is (part_kept left left' written mid written' stopped kept)

-- the usage line was written whole, and what the flush at its end leaves of that
pub refusal_closed : (written mid new : Option (List ℕ)) (text : List ℕ) (sink between sink' status : ℕ)
    → text ≡ usage → Appends written mid text → (status ≡ 2) ⊎ ((status ≡ 4) × Rose between sink') → Keeps mid new → sink ≤ between
    → IsRefusal written new sink sink' status
refusal_closed written mid new text sink between sink' status is wrote (inl closed) kept first = record {
  known = inl closed;
  refused = λ e. Appends-kept written mid new usage (subst (Appends written mid) is wrote) kept;
  sink_failed = λ e. absurd (omega arith);
}
refusal_closed written mid new text sink between sink' status is wrote (inr closed) kept first = record {
  known = inr closed.0;
  refused = λ e. absurd (omega arith);
  sink_failed = λ e. (front_kept written mid new usage (all_front written mid usage (subst (Appends written mid) is wrote)) kept, Rose-earlier sink between sink' first closed.1);
}

-- a front of the usage line was written when the sink failed
pub refusal_cut : (written new : Option (List ℕ)) (text : List ℕ) (sink sink' : ℕ)
    → text ≡ usage → AppendsFront written new text → Rose sink sink' → IsRefusal written new sink sink' 4
refusal_cut written new text sink sink' is wrote rose = record {
  known = inr refl;
  refused = λ e. absurd (omega arith);
  sink_failed = λ e. (subst (AppendsFront written new) is wrote, rose);
}

-- the words are one word, and it is compared with `script`
pub one_word : (now items : List (List ℕ)) (item word : List ℕ) (same : Bool)
    → now ≡ items → 1 ≤ length items → length items < 2 → item ≡ get_or items 0 item → word ≡ item → same ≡ bytes_eq word (codes "script")
    → (IsTrue same → now ≡ script_words) × (now ≡ script_words → IsTrue same)
one_word now [] item word same is some few first read tested = absurd (omega arith)
one_word now (only ∷ []) item word same is some few first read tested = (
  λ yes. is ∙ ap (λ w. w ∷ []) (sym first ∙ sym read ∙ (bytes_eq-Decides word (codes "script")).0 (sym tested ∙ yes)),
  λ all. tested ∙ (bytes_eq-Decides word (codes "script")).1 (read ∙ first ∙ ap (λ ws. get_or ws 0 item) (sym is ∙ all)),
)
one_word now (only ∷ another ∷ more) item word same is some few first read tested = absurd (omega arith)
