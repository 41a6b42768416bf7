-- What lines do one after another, and what a piece completes and leaves waiting.
use Rattle.std.proofs.Common.{◌≡◌, ℕ, List, [], ◌∷◌, ◌++◌, length, drop, refl, ap, sym, subst, ◌∙◌, append_assoc, append-nil, arith}
use Rattle.std.specs.declared.option.Option.{Option}
use Rattle.std.proofs.KnownBytes.{Appends-nil}
use Rattle.mz_io.specs.Written.{AppendsFront}
use Rattle.mz_script.specs.declared.script_line.ScriptLine.{ScriptLine}
use Rattle.mz_script.specs.Built.{after_built_line, after_built_lines}
use Rattle.mz_script.specs.Lines.{line_says}
use Rattle.mz_script.specs.ScriptLine.{Machine}
use Rattle.mz_shell.specs.Carrier.{DidLines, IsCarrying}
use Rattle.mz_shell.specs.Transcript.{after_read_lines}
use Rattle.mz_shell.specs.Reading.{completed, left_waiting, kept}

-- ---- lines one after another

-- lines and then more lines lead where both do
pub machine_append : (lines more : List ScriptLine) (machine : Machine)
    → (after_built_lines (lines ++ more) machine).machine ≡ (after_built_lines more (after_built_lines lines machine).machine).machine
machine_append [] more machine = refl
machine_append (line ∷ lines) more machine = machine_append lines more (after_built_line machine line).machine

-- and are answered what both are
pub text_append : (lines more : List ScriptLine) (machine : Machine)
    → (after_built_lines (lines ++ more) machine).text ≡ (after_built_lines lines machine).text ++ (after_built_lines more (after_built_lines lines machine).machine).text
text_append [] more machine = refl
text_append (line ∷ lines) more machine =
    let next = (after_built_line machine line).machine in
    ap (λ (xs : List ℕ). (after_built_line machine line).text ++ xs) (text_append lines more next)
    ∙ sym (append_assoc (after_built_line machine line).text (after_built_lines lines next).text (after_built_lines more (after_built_lines lines next).machine).text)

-- ---- pieces

-- a piece without LF completes nothing
pub completed_none : (waiting whole : List ℕ) → length whole ≡ 0 → completed waiting whole ≡ []
completed_none waiting [] h = refl
completed_none waiting (byte ∷ whole) h = absurd (omega (arith, h))

pub left_none : (waiting piece whole : List ℕ) → length whole ≡ 0 → left_waiting waiting piece whole ≡ kept (waiting ++ piece)
left_none waiting piece [] h = refl
left_none waiting piece (byte ∷ whole) h = absurd (omega (arith, h))

-- another one completes what waited with its own whole lines
pub completed_some : (waiting whole : List ℕ) → (length whole ≡ 0 → ⊥) → completed waiting whole ≡ waiting ++ whole
completed_some waiting [] h = absurd (h refl)
completed_some waiting (byte ∷ whole) h = refl

pub left_some : (waiting piece whole : List ℕ) → (length whole ≡ 0 → ⊥) → left_waiting waiting piece whole ≡ kept (drop (length whole) piece)
left_some waiting piece [] h = absurd (h refl)
left_some waiting piece (byte ∷ whole) h = refl

-- where nothing was written, an empty front was
pub front_none : (written : Option (List ℕ)) (text : List ℕ) → AppendsFront written written text
front_none written text = (0, omega arith, Appends-nil written)

-- ---- lines, each as it is read

-- a line leaves who carries it out standing for some machine
pub carrying_next : (Stands Now : Machine → Type 0) (before after : List ℕ) (line : ScriptLine) → IsCarrying Stands
    → ((machine : Machine) → Stands machine → DidLines Now before after (after_built_line machine line)) → IsCarrying Now
carrying_next Stands Now before after line some does =
    record { machine = (after_built_line some.machine line).machine; stands = (does some.machine some.stands).stands }

-- what lines did so far: with the lines that are left, what all of them do
pub record HasDone (Stands : Machine → Type 0) (text text' : List ℕ) (machine : Machine) (all rest : List (List ℕ)) : Type 0 where
  pub now : Machine
  pub stands : Stands now
  pub leads : (after_read_lines rest now).machine ≡ (after_read_lines all machine).machine
  pub says : text' ++ (after_read_lines rest now).text ≡ text ++ (after_read_lines all machine).text

-- nothing was done yet
pub done_none : (Stands : Machine → Type 0) (text : List ℕ) (machine : Machine) (all : List (List ℕ)) → Stands machine → HasDone Stands text text machine all all
done_none Stands text machine all stands = record { now = machine; stands = stands; leads = refl; says = refl }

-- one line more
pub done_next : (Stands Now : Machine → Type 0) (text text' text'' : List ℕ) (machine : Machine) (all rest : List (List ℕ)) (line : List ℕ) (behind : List (List ℕ)) (says : ScriptLine)
    → HasDone Stands text text' machine all rest → rest ≡ line ∷ behind → says ≡ line_says line
    → ((before : Machine) → Stands before → DidLines Now text' text'' (after_built_line before says))
    → HasDone Now text text'' machine all behind
done_next Stands Now text text' text'' machine all rest line behind says done cut read does =
    let did = subst (λ (s : ScriptLine). DidLines Now text' text'' (after_built_line done.now s)) read (does done.now done.stands) in
    let next = (after_built_line done.now (line_says line)).machine in
    record {
      now = next;
      stands = did.stands;
      leads = subst (λ (ls : List (List ℕ)). (after_read_lines ls done.now).machine ≡ (after_read_lines all machine).machine) cut done.leads;
      says = ap (λ (xs : List ℕ). xs ++ (after_read_lines behind next).text) did.text
          ∙ append_assoc text' (after_built_line done.now (line_says line)).text (after_read_lines behind next).text
          ∙ subst (λ (ls : List (List ℕ)). text' ++ (after_read_lines ls done.now).text ≡ text ++ (after_read_lines all machine).text) cut done.says;
    }

-- no line is left
pub done_all : (Stands : Machine → Type 0) (text text' : List ℕ) (machine : Machine) (all rest : List (List ℕ)) → HasDone Stands text text' machine all rest → rest ≡ []
    → DidLines Stands text text' (after_read_lines all machine)
done_all Stands text text' machine all rest done none =
    let leads = subst (λ (ls : List (List ℕ)). (after_read_lines ls done.now).machine ≡ (after_read_lines all machine).machine) none done.leads in
    let says = subst (λ (ls : List (List ℕ)). text' ++ (after_read_lines ls done.now).text ≡ text ++ (after_read_lines all machine).text) none done.says in
    record { stands = subst Stands leads done.stands; text = sym (append-nil text') ∙ says }
