-- A packet that is true for its front may be absorbed at each longer log, and has the rows that the peeks there wait for.
use Rattle.std.specs.Prelude.{⊤}
use Rattle.std.proofs.Common.{◌≡◌, ℕ, ◌+◌, ◌<◌, ◌≤◌, ◌==◌, ◌&&◌, Bool, true, false, cond, not, List, [], ◌∷◌, ◌++◌, find, length, map, nat_lt, Option, None, Some, inl, inr, refl, sym, ap, ap₂, ◌∙◌, subst, arith}
use Rattle.std.specs.List.{AllByRecursion as Each}
use Rattle.std.specs.Option.{option_map_or}
use Rattle.std.specs.FinMap.{empty, entries}
use Rattle.std.proofs.lemmas.Bool.{cases_Bool, cond-false, cond-true, cond_both, eqb-false}
use Rattle.mz_plan.specs.declared.command.Answer.{Answer}
use Rattle.mz_plan.specs.declared.command.Command.{Command}
use Rattle.mz_plan.specs.declared.command.Command.TheVariants.{Create, Allow, Peek, Retire}
use Rattle.mz_plan.specs.declared.command.PendingPeek.{PendingPeek}
use Rattle.mz_plan.specs.declared.plan.Plan.{Plan}
use Rattle.mz_rules.specs.Capabilities.{of_peek}
use Rattle.mz_rules.specs.Numbering.{Numbered}
use Rattle.mz_rules.specs.Streams.{is_retired}
use Rattle.mz_rules.specs.declared.capability.Collection.{Collection}
use Rattle.mz_rules.proofs.Each.{each_filter, each_one}
use Rattle.mz_log.specs.declared.entry.Entry.TheVariants.{Read, Finish, Cancel, Fed}
use Rattle.mz_log.specs.declared.stream.Stream.{Stream}
use Rattle.mz_log.specs.Log.{Log}
use Rattle.mz_books.specs.Rounds.{read_time}
use Rattle.mz_books.specs.States.{plan_at}
use Rattle.mz_books.specs.Collections.{collections, contents_at}
use Rattle.mz_books.specs.Feeds.{answers_in, feeds, packet_answers, packet_frontiers}
use Rattle.mz_books.specs.Holds.{is_of_call, is_peek, peeks_made, pending}
use Rattle.mz_books.specs.Owed.{answers_of, owed, peek_rows}
use Rattle.mz_books.specs.Packets.{IsTruePacket, answer_at, right_answers_in}
use Rattle.mz_books.specs.Streams.{is_stream, lines_in, stream_of, streams}
use Rattle.mz_books.specs.Legal.{Legal, MayAbsorb}
use Rattle.mz_call_laws.specs.Members.{Has}
use Rattle.mz_call_laws.proofs.Accepted.{made_is}
use Rattle.mz_call_laws.proofs.Lists.{each_from, each_has, found}
use Rattle.mz_replay_laws.proofs.Collected.{found_stays}
use Rattle.mz_replay_laws.proofs.Found.{of_plan_in, plan_in}
use Rattle.mz_replay_laws.proofs.Steady.{plan_stays}
use Rattle.mz_safe_laws.proofs.Bundles.{Bundle}
use Rattle.mz_safe_laws.proofs.Onward.{IsPlaced}
use Rattle.mz_safe_laws.proofs.Reached.{Agrees, IsNumbered}
use Rattle.mz_safe_laws.proofs.Sound.{sound}
use Rattle.mz_stream_laws.proofs.Asked.{peeks_placed}
use Rattle.mz_stream_laws.proofs.Later.{earlier, may_absorb, same_answers}
use Rattle.mz_stream_laws.proofs.PeekNames.{NameAll, Names, all_named}
use Rattle.mz_safe_laws.proofs.Honest.{faithful}

-- ---- rows that stay

-- a collection that is there has a plan
found_there : (k number : ℕ) (cs : List Collection) → Numbered k cs → k ≤ number → number < k + length cs
    → (plan : Plan) × (plan_in number cs ≡ Some plan)
found_there k number [] n low high = absurd (omega (arith, low, high))
found_there k number (c ∷ cs) n low high = elim (cases_Bool (c.number == number)) [
  | inl own ↦ (c.plan, cond-true _ _ _ own)
  | inr other ↦
      let apart = eqb-false c.number number other in
      let more : k + 1 ≤ number = omega (arith, low, n.0, apart) in
      let rest = found_there (k + 1) number cs n.1 more (omega (arith, high)) in
      (rest.0, cond-false _ _ _ other ∙ rest.1)
]

-- the rows that a peek waits for are those of the plan that is found
rows_found : (log : Log) (waiting : PendingPeek) (plan : Plan) → plan_in waiting.collection (collections log) ≡ Some plan
    → peek_rows log waiting ≡ entries (plan_at log plan waiting.time)
rows_found log waiting plan is =
    ap entries (of_plan_in (λ own. plan_at log own waiting.time) waiting.collection (collections log)
    ∙ ap (λ own. option_map_or (λ own. plan_at log own waiting.time) own empty) is)

-- so they stay
rows_stay : (log later : Log) → Legal (later ++ log) → (waiting : PendingPeek) → IsPlaced (length (collections log)) (read_time log) (of_peek waiting)
    → peek_rows (later ++ log) waiting ≡ peek_rows log waiting
rows_stay log later l waiting placed =
    let made = placed.made in
    let it = found_there 1 waiting.collection (collections log) (sound log (earlier log later l)).core.numbered placed.from_one (omega (arith, made)) in
    rows_found (later ++ log) waiting it.0 (found_stays log later waiting.collection it.0 it.1)
    ∙ ap entries (plan_stays log later it.0 waiting.time l placed.in_time) ∙ sym (rows_found log waiting it.0 it.1)

-- ---- peeks that were pending before

-- no fewer peeks are made
made_rises : (log later : Log) → peeks_made log ≤ peeks_made (later ++ log)
made_rises log [] = omega arith
made_rises log (Read session call peek time statement collection ∷ later) = omega (arith, made_rises log later)
made_rises log (entry ∷ later) = made_rises log later

-- a peek that was made before and is pending was so then
pending_before : (log later : Log) → Legal (later ++ log) → Each (λ w. w.peek ≤ peeks_made log → Has w (pending log)) (pending (later ++ log))
pending_before log [] l = each_from (λ w. w.peek ≤ peeks_made log → Has w (pending log)) (pending log) (λ w h low. h)
pending_before log (Read session call peek time statement collection ∷ later) l =
    let next : peek ≡ peeks_made (later ++ log) + 1 =
    (made_is (later ++ log) session (Read session call peek time statement collection) l.1.may).is.next_peek in
    each_one (λ w. w.peek ≤ peeks_made log → Has w (pending log)) (pending (later ++ log)) _ (pending_before log later l.0)
    (λ low. absurd (omega (arith, low, next, made_rises log later)))
pending_before log (Finish peek rows ∷ later) l =
    each_filter (λ w. w.peek ≤ peeks_made log → Has w (pending log)) (λ waiting. not (is_peek peek waiting)) (pending (later ++ log))
    (pending_before log later l.0)
pending_before log (Cancel session call ∷ later) l =
    each_filter (λ w. w.peek ≤ peeks_made log → Has w (pending log)) (λ waiting. not (is_of_call session call waiting)) (pending (later ++ log))
    (pending_before log later l.0)
pending_before log (entry ∷ later) l = pending_before log later l.0

-- ---- lines

-- the rows that a line asks for are those that its peek waits for later
abbrev LineHas : Log → Log → Command → Type 0
LineHas front longer (Peek peek collection t) =
    Each (λ w. w.peek ≡ peek → entries (contents_at front collection t) ≡ peek_rows longer w) (pending longer)
LineHas front longer line = ⊤

-- so it is with each line of a stream
line_has : (front later : Log) → Legal (later ++ front) → (s : Stream) → Has s (streams front) → (line : Command) → Has line s.commands
    → LineHas front (later ++ front) line
line_has front later l s own (Create collection plan t) there = tt
line_has front later l s own (Allow collection f) there = tt
line_has front later l s own (Retire peek) there = tt
line_has front later l s own (Peek peek collection t) there =
    let longer : Log = later ++ front in
    let legal = earlier front later l in
    let bundle = each_has (Bundle (peeks_made front) (pending front) (feeds front) (owed front)) s (streams front) (faithful front legal).bundles own in
    let low : peek ≤ peeks_made front = each_has (IsNumbered (peeks_made front)) (Peek peek collection t) s.commands bundle.fits.numbered there in
    let named = each_has (λ x. NameAll (pending front) x.commands) s (streams front) (all_named front legal) own in
    each_from (λ w. w.peek ≡ peek → entries (contents_at front collection t) ≡ peek_rows longer w) (pending longer)
    (λ w waits same.
    let was : Has w (pending front) = each_has (λ x. x.peek ≤ peeks_made front → Has x (pending front)) w (pending longer)
    (pending_before front later l) waits (omega (arith, low, same)) in
    let time : t ≡ w.time = each_has (Agrees w) (Peek peek collection t) s.commands
    (each_has (λ x. Each (Agrees x) s.commands) w (pending front) bundle.fits.agrees was) there (sym same) in
    let name : collection ≡ w.collection = each_has (Names w) (Peek peek collection t) s.commands
    (each_has (λ x. Each (Names x) s.commands) w (pending front) named was) there (sym same) in
    let placed = each_has (λ x. IsPlaced (length (collections front)) (read_time front) (of_peek x)) w (pending front) (peeks_placed front legal) was in
    ap₂ (λ number at. entries (contents_at front number at)) name time ∙ sym (rows_stay front later l w placed))

-- of any incarnation
lines_have : (front later : Log) → Legal (later ++ front) → (test : Stream → Bool) → (o : Option Stream) → find test (streams front) ≡ o
    → Each (LineHas front (later ++ front)) (lines_in o)
lines_have front later l test None is = tt
lines_have front later l test (Some s) is =
    each_from (LineHas front (later ++ front)) s.commands (line_has front later l s (found test (streams front) s is).1)

-- ---- answers

-- the rows of an answer are those that its peek waits for, where it is pending
abbrev HasRows : Log → Answer → Type 0
HasRows log answer = Each (λ w. w.peek ≡ answer.peek → answer.rows ≡ peek_rows log w) (pending log)

-- so it is with each answer to lines
rows_in : (front longer : Log) (all : List Command) (ready : ℕ) (lines : List Command) → Each (LineHas front longer) lines
    → Each (HasRows longer) (right_answers_in front all ready lines)
rows_in front longer all ready [] p = tt
rows_in front longer all ready (Create collection plan t ∷ lines) p = rows_in front longer all ready lines p.1
rows_in front longer all ready (Allow collection f ∷ lines) p = rows_in front longer all ready lines p.1
rows_in front longer all ready (Retire peek ∷ lines) p = rows_in front longer all ready lines p.1
rows_in front longer all ready (Peek peek collection t ∷ lines) p =
    let rest = rows_in front longer all ready lines p.1 in
    cond_both (nat_lt t ready && not (is_retired peek all)) (answer_at front peek collection t ∷ right_answers_in front all ready lines)
    (right_answers_in front all ready lines) (Each (HasRows longer)) (λ _. (p.0, rest)) (λ _. rest)

-- and the peeks that are answered are those that a packet answers
peeks_in : (front : Log) (all : List Command) (ready : ℕ) (lines : List Command)
    → map (λ answer. answer.peek) (right_answers_in front all ready lines) ≡ answers_in all ready lines
peeks_in front all ready [] = refl
peeks_in front all ready (Create collection plan t ∷ lines) = peeks_in front all ready lines
peeks_in front all ready (Allow collection f ∷ lines) = peeks_in front all ready lines
peeks_in front all ready (Retire peek ∷ lines) = peeks_in front all ready lines
peeks_in front all ready (Peek peek collection t ∷ lines) = by (nat_lt t ready && not (is_retired peek all)) (peeks_in front all ready lines)
  where
    by : (test : Bool) → map (λ answer. answer.peek) (right_answers_in front all ready lines) ≡ answers_in all ready lines
        → map (λ answer. answer.peek) (cond test (answer_at front peek collection t ∷ right_answers_in front all ready lines)
        (right_answers_in front all ready lines))
        ≡ cond test (peek ∷ answers_in all ready lines) (answers_in all ready lines)
    by true rest = ap (λ ps. peek ∷ ps) rest
    by false rest = rest

-- ---- true packets

-- a true packet has the rows that peeks wait for at each longer log
pub true_rows : (front later : Log) (replica : List ℕ) (incarnation taken ready : ℕ) (frontiers : List (ℕ × ℕ)) (answers : List Answer)
    → Legal (later ++ front) → IsTruePacket front replica incarnation taken ready frontiers answers
    → Each (λ answer. Each (λ w. w.peek ≡ answer.peek → answer.rows ≡ peek_rows (later ++ front) w) (pending (later ++ front))) answers
true_rows front later replica incarnation taken ready frontiers answers l p =
    let own = stream_of front replica incarnation in
    subst (Each (HasRows (later ++ front))) (sym p.own_answers)
    (rows_in front (later ++ front) own ready own
    (lines_have front later l (is_stream replica incarnation) (find (is_stream replica incarnation) (streams front)) refl))

-- may be absorbed there
pub true_absorbed : (front later : Log) (replica : List ℕ) (incarnation taken ready : ℕ) (frontiers : List (ℕ × ℕ)) (answers : List Answer)
    → Legal (later ++ front) → IsTruePacket front replica incarnation taken ready frontiers answers
    → MayAbsorb (later ++ front) replica incarnation taken ready frontiers
true_absorbed front later replica incarnation taken ready frontiers answers l p =
    let fed : Log = Fed replica incarnation taken p.to ∷ p.before in
    subst (λ f. Legal (later ++ f) → frontiers ≡ packet_frontiers (stream_of f replica incarnation) ready
    → MayAbsorb (later ++ f) replica incarnation taken ready frontiers) (sym p.ends)
    (λ legal. subst (λ n. frontiers ≡ packet_frontiers (stream_of fed replica incarnation) n
    → MayAbsorb (later ++ fed) replica incarnation taken n frontiers) (sym p.own_ready)
    (λ own. subst (MayAbsorb (later ++ fed) replica incarnation taken (p.to + 1)) (sym own)
    (may_absorb p.before later replica incarnation taken p.to legal))) l p.own_frontiers

-- and answers the peeks for which it is absorbed
pub true_peeks : (front later : Log) (replica : List ℕ) (incarnation taken ready : ℕ) (frontiers : List (ℕ × ℕ)) (answers : List Answer)
    → Legal (later ++ front) → IsTruePacket front replica incarnation taken ready frontiers answers
    → map (λ answer. answer.peek) answers ≡ answers_of (later ++ front) replica incarnation taken ready
true_peeks front later replica incarnation taken ready frontiers answers l p =
    let own = stream_of front replica incarnation in
    let fed : Log = Fed replica incarnation taken p.to ∷ p.before in
    ap (map (λ answer. answer.peek)) p.own_answers ∙ peeks_in front own ready own
    ∙ sym (subst (λ f. Legal (later ++ f) → answers_of (later ++ f) replica incarnation taken ready ≡ packet_answers (stream_of f replica incarnation) ready)
    (sym p.ends)
    (λ legal. subst (λ n. answers_of (later ++ fed) replica incarnation taken n ≡ packet_answers (stream_of fed replica incarnation) n) (sym p.own_ready)
    (same_answers p.before later replica incarnation taken p.to legal)) l)
