-- A line that asks for a pending peek names the peek's own collection.
use Rattle.std.specs.Prelude.{⊤, bytes_eq}
use Rattle.std.proofs.Common.{◌≡◌, ℕ, ◌+◌, ◌<◌, ◌&&◌, Bool, true, false, cond, not, List, [], ◌∷◌, ◌++◌, drop, filter, length, map, reverse, refl, ap, arith}
use Rattle.std.specs.List.{AllByRecursion as Each}
use Rattle.std.proofs.lemmas.Bool.{cond_both}
use Rattle.mz_plan.specs.declared.command.Command.{Command}
use Rattle.mz_plan.specs.declared.command.Command.TheVariants.{Create, Allow, Peek, Retire}
use Rattle.mz_plan.specs.declared.command.PendingPeek.{PendingPeek}
use Rattle.mz_time.specs.declared.frontier.Frontier.{Frontier}
use Rattle.mz_time.specs.declared.frontier.Frontier.TheVariants.{At, Done}
use Rattle.mz_rules.specs.Frontiers.{is_le}
use Rattle.mz_rules.specs.Joining.{allowances, allowances_of, ask, creation, is_made_in, is_read_in, joined, joined_before, joining, numbers}
use Rattle.mz_rules.specs.Since.{since_of}
use Rattle.mz_rules.specs.Streams.{created, told}
use Rattle.mz_rules.specs.declared.capability.Collection.{Collection}
use Rattle.mz_rules.specs.declared.capability.Settled.{Settled}
use Rattle.mz_rules.proofs.Each.{each_all, each_append, each_both, each_filter, each_map, each_of, each_one}
use Rattle.mz_log.specs.declared.entry.Entry.TheVariants.{Apply, Read, Finish, Cancel, Fed, Absorbed, Join, Crash}
use Rattle.mz_log.specs.declared.stream.Stream.{Stream}
use Rattle.mz_log.specs.Log.{Log}
use Rattle.mz_books.specs.Collections.{collections}
use Rattle.mz_books.specs.Feeds.{feeds}
use Rattle.mz_books.specs.Holds.{is_of_call, is_peek, peeks_made, pending}
use Rattle.mz_books.specs.Since.{settled}
use Rattle.mz_books.specs.Streams.{asking_lines, crashed, ending_lines, fed, is_kept_in, is_stream, item_numbers, new_lines, newer_report, reporting, streams, told_more}
use Rattle.mz_books.specs.Legal.{Legal}
use Rattle.mz_books.specs.Owed.{owed}
use Rattle.mz_call_laws.specs.Waiting.{IsMadeWithin}
use Rattle.mz_call_laws.proofs.Accepted.{made_is}
use Rattle.mz_call_laws.proofs.PendingCalls.{pending_rises, pending_within}
use Rattle.mz_safe_laws.proofs.Bundles.{Bundle}
use Rattle.mz_safe_laws.proofs.PeekLines.{are_apart}
use Rattle.mz_safe_laws.proofs.Reached.{IsNumbered}
use Rattle.mz_safe_laws.proofs.Honest.{faithful}

-- a line that asks for the peek names its collection
abbrev pub Names : PendingPeek → Command → Type 0
Names waiting (Peek peek collection t) = peek ≡ waiting.peek → collection ≡ waiting.collection
Names waiting line = ⊤

-- lines name the collection of each of these peeks
abbrev pub NameAll : List PendingPeek → List Command → Type 0
NameAll peeks lines = Each (λ waiting. Each (Names waiting) lines) peeks

-- ---- lines

-- two lists of lines
names_both : (peeks : List PendingPeek) (xs ys : List Command) → NameAll peeks xs → NameAll peeks ys → NameAll peeks (xs ++ ys)
names_both peeks xs ys p q =
    each_both (λ w. Each (Names w) xs) (λ w. Each (Names w) ys) (λ w. Each (Names w) (xs ++ ys)) (λ w a b. each_append (Names w) xs ys a b) peeks p q

-- lines that name the collection of any peek, since they ask for none
names_any : (peeks : List PendingPeek) (lines : List Command) → ((waiting : PendingPeek) → Each (Names waiting) lines) → NameAll peeks lines
names_any peeks lines f = each_all (λ w. Each (Names w) lines) f peeks

-- those of new collections
new_any : (before after : List Collection) (cluster : ℕ) (waiting : PendingPeek) → Each (Names waiting) (new_lines before after cluster)
new_any before after cluster waiting =
    each_map (λ c. ⊤) (Names waiting) (λ c. creation (item_numbers after) c c.as_of) (λ c p. tt)
    (filter (λ c. is_made_in cluster c) (drop (length before) after))
    (each_all (λ c. ⊤) (λ c. tt) (filter (λ c. is_made_in cluster c) (drop (length before) after)))

-- those that end peeks
ending_any : (cs : List Collection) (ended : List PendingPeek) (cluster : ℕ) (waiting : PendingPeek) → Each (Names waiting) (ending_lines cs ended cluster)
ending_any cs ended cluster waiting =
    each_map (λ p. ⊤) (Names waiting) (λ peek. Retire peek.peek) (λ p t. tt) (filter (λ peek. is_kept_in cluster cs peek.collection) ended)
    (each_all (λ p. ⊤) (λ p. tt) (filter (λ peek. is_kept_in cluster cs peek.collection) ended))

-- those of a feed
allowed_any : (ss : List Settled) (lines : List Command) (ns : List ℕ) (waiting : PendingPeek) → Each (Names waiting) (allowances_of ss lines ns)
allowed_any ss lines [] waiting = tt
allowed_any ss lines (number ∷ ns) waiting =
    let rest = allowed_any ss lines ns waiting in
    cond_both (is_le (since_of number ss) (told number lines)) (allowances_of ss lines ns)
    (Allow number (since_of number ss) ∷ allowances_of ss lines ns) (Each (Names waiting)) (λ e. rest) (λ e. (tt, rest))

-- and the first of a stream
joined_any : (names : List (ℕ × ℕ)) (cluster : ℕ) (ss : List Settled) (waiting : PendingPeek) → Each (Names waiting) (joined names cluster ss)
joined_any names cluster [] waiting = tt
joined_any names cluster (s ∷ ss) waiting = step (is_made_in cluster s.collection) s.since (joined_any names cluster ss waiting)
  where
    step : (b : Bool) (f : Frontier) → Each (Names waiting) (joined names cluster ss)
        → Each (Names waiting) (cond b (joined_before names s.collection f (joined names cluster ss)) (joined names cluster ss))
    step false f rest = rest
    step true Done rest = rest
    step true (At t) rest = (tt, rest)

-- lines of earlier peeks ask for no later one
earlier_names : (made : ℕ) (waiting : PendingPeek) → made < waiting.peek → (line : Command) → IsNumbered made line → Names waiting line
earlier_names made waiting h (Create collection plan t) p = tt
earlier_names made waiting h (Allow collection f) p = tt
earlier_names made waiting h (Retire peek) p = tt
earlier_names made waiting h (Peek peek collection t) p = λ e. absurd (omega (arith, h, p, e))

-- the line that asks for the next peek
asking_names : (made : ℕ) (cs : List Collection) (waiting : PendingPeek) (peeks : List PendingPeek) (cluster : ℕ) → waiting.peek ≡ made + 1
    → Each (IsMadeWithin made) peeks → NameAll (peeks ++ waiting ∷ []) (asking_lines cs (ask waiting) waiting.collection cluster)
asking_names made cs waiting peeks cluster next within =
    let all = peeks ++ waiting ∷ [] in
    cond_both (is_kept_in cluster cs waiting.collection) (ask waiting ∷ []) [] (NameAll all)
    (λ e. each_one (λ w. Each (Names w) (ask waiting ∷ [])) peeks waiting
    (each_of (IsMadeWithin made) (λ w. Each (Names w) (ask waiting ∷ [])) (λ w h. ((λ same. absurd (omega (arith, h.1, same, next))), tt)) peeks within)
    ((λ same. refl), tt))
    (λ e. each_all (λ w. ⊤) (λ w. tt) all)

-- lines for pending peeks
joining_names : (cluster : ℕ) (ss : List Settled) (peeks : List PendingPeek)
    → Each (λ w. Each (λ other. other.peek ≡ w.peek → other ≡ w) peeks) peeks → NameAll peeks (joining cluster ss peeks)
joining_names cluster ss peeks apart =
    let read : PendingPeek → Bool = λ peek. is_read_in cluster ss peek.collection in
    names_both peeks (joined (numbers ss) cluster ss) (map ask (filter read peeks))
    (names_any peeks (joined (numbers ss) cluster ss) (joined_any (numbers ss) cluster ss))
    (each_of (λ w. Each (λ other. other.peek ≡ w.peek → other ≡ w) peeks) (λ w. Each (Names w) (map ask (filter read peeks)))
    (λ w q. each_map (λ other. other.peek ≡ w.peek → other ≡ w) (Names w) ask (λ other same e. ap (λ x. x.collection) (same e)) (filter read peeks)
    (each_filter (λ other. other.peek ≡ w.peek → other ≡ w) read peeks q)) peeks apart)

-- ---- streams

-- once it was told more
told_names : (peeks : List PendingPeek) (lines : ℕ → List Command) → ((cluster : ℕ) → NameAll peeks (lines cluster)) → (ss : List Stream)
    → Each (λ s. NameAll peeks s.commands) ss → Each (λ s. NameAll peeks s.commands) (map (told_more lines) ss)
told_names peeks lines more ss p =
    each_map (λ s. NameAll peeks s.commands) (λ s. NameAll peeks s.commands) (told_more lines)
    (λ s q. cond_both s.live (record s { commands = s.commands ++ lines s.cluster }) s (λ x. NameAll peeks x.commands)
    (λ e. names_both peeks s.commands (lines s.cluster) q (more s.cluster)) (λ e. q)) ss p

-- some peeks are pending no more
fewer_names : (peeks : List PendingPeek) (left : PendingPeek → Bool) (ss : List Stream) → Each (λ s. NameAll peeks s.commands) ss
    → Each (λ s. NameAll (filter left peeks) s.commands) ss
fewer_names peeks left ss p =
    each_of (λ s. NameAll peeks s.commands) (λ s. NameAll (filter left peeks) s.commands)
    (λ s q. each_filter (λ w. Each (Names w) s.commands) left peeks q) ss p

-- one more is, which no line asks for yet
more_names : (log : Log) → Legal log → (waiting : PendingPeek) → waiting.peek ≡ peeks_made log + 1
    → Each (λ s. NameAll (pending log) s.commands) (streams log) → Each (λ s. NameAll (pending log ++ waiting ∷ []) s.commands) (streams log)
more_names log l waiting next p =
    each_both (λ s. NameAll (pending log) s.commands) (Bundle (peeks_made log) (pending log) (feeds log) (owed log))
    (λ s. NameAll (pending log ++ waiting ∷ []) s.commands)
    (λ s q b. each_one (λ w. Each (Names w) s.commands) (pending log) waiting q
    (each_of (IsNumbered (peeks_made log)) (Names waiting) (earlier_names (peeks_made log) waiting (omega (arith, next))) s.commands b.fits.numbered))
    (streams log) p (faithful log l).bundles

-- so each line of a legal log's streams that asks for a pending peek names its collection
pub all_named : (log : Log) → Legal log → Each (λ s. NameAll (pending log) s.commands) (streams log)
all_named [] l = (tt, tt)
all_named (Apply time replies ∷ log) l =
    let lines = new_lines (collections log) (collections (Apply time replies ∷ log)) in
    told_names (pending log) lines
    (λ cluster. names_any (pending log) (lines cluster) (new_any (collections log) (collections (Apply time replies ∷ log)) cluster))
    (streams log) (all_named log l.0)
all_named (Read session call peek time statement collection ∷ log) l =
    let longer : Log = Read session call peek time statement collection ∷ log in
    let waiting : PendingPeek = record { peek = peek; session = session; call = call; collection = collection; time = time } in
    let next : peek ≡ peeks_made log + 1 = (made_is log session (Read session call peek time statement collection) l.1.may).is.next_peek in
    told_names (pending longer)
    (λ cluster. new_lines (collections log) (collections longer) cluster ++ asking_lines (collections longer) (Peek peek collection time) collection cluster)
    (λ cluster. names_both (pending longer) (new_lines (collections log) (collections longer) cluster)
    (asking_lines (collections longer) (Peek peek collection time) collection cluster)
    (names_any (pending longer) (new_lines (collections log) (collections longer) cluster) (new_any (collections log) (collections longer) cluster))
    (asking_names (peeks_made log) (collections longer) waiting (pending log) cluster next (pending_within log l.0)))
    (streams log) (more_names log l.0 waiting next (all_named log l.0))
all_named (Finish peek rows ∷ log) l =
    let left : PendingPeek → Bool = λ waiting. not (is_peek peek waiting) in
    let ended = filter (is_peek peek) (pending log) in
    told_names (filter left (pending log)) (ending_lines (collections log) ended)
    (λ cluster. names_any (filter left (pending log)) (ending_lines (collections log) ended cluster) (ending_any (collections log) ended cluster))
    (streams log) (fewer_names (pending log) left (streams log) (all_named log l.0))
all_named (Cancel session call ∷ log) l =
    let left : PendingPeek → Bool = λ waiting. not (is_of_call session call waiting) in
    let ended = filter (is_of_call session call) (pending log) in
    told_names (filter left (pending log)) (ending_lines (collections log) ended)
    (λ cluster. names_any (filter left (pending log)) (ending_lines (collections log) ended cluster) (ending_any (collections log) ended cluster))
    (streams log) (fewer_names (pending log) left (streams log) (all_named log l.0))
all_named (Fed r i taken to ∷ log) l =
    let named : Stream → Type 0 = λ s. NameAll (pending log) s.commands in
    each_map named named (fed r i (settled log))
    (λ s q. cond_both (is_stream r i s) (record s { commands = s.commands ++ allowances (settled log) s.commands }) s named
    (λ e. names_both (pending log) s.commands (allowances (settled log) s.commands) q
    (names_any (pending log) (allowances (settled log) s.commands) (allowed_any (settled log) s.commands (reverse (created s.commands))))) (λ e. q))
    (streams log) (all_named log l.0)
all_named (Absorbed r i turn taken ready frontiers ∷ log) l =
    let named : Stream → Type 0 = λ s. NameAll (pending log) s.commands in
    each_map named named (reporting r i (record { turn = turn; taken = taken; ready = ready }))
    (λ s q. cond_both (s.live && is_stream r i s) (record s { report = newer_report (record { turn = turn; taken = taken; ready = ready }) s.report }) s named
    (λ e. q) (λ e. q)) (streams log) (all_named log l.0)
all_named (Join r i cluster ∷ log) l =
    each_one (λ s. NameAll (pending log) s.commands) (streams log) _ (all_named log l.0)
    (joining_names cluster (settled log) (pending log) (are_apart (pending log) (pending_rises log l.0)))
all_named (Crash r ∷ log) l =
    let named : Stream → Type 0 = λ s. NameAll (pending log) s.commands in
    each_map named named (crashed r) (λ s q. cond_both (bytes_eq s.replica r) (record s { live = false }) s named (λ e. q) (λ e. q))
    (streams log) (all_named log l.0)
all_named (entry ∷ log) l = all_named log l.0
