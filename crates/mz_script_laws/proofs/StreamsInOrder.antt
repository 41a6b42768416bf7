-- Each stream of a legal log asks for peeks in the order in which they were made.
use Rattle.std.specs.Prelude.{bytes_eq}
use Rattle.std.proofs.Common.{◌≡◌, ℕ, ◌+◌, ◌≤◌, ◌&&◌, List, [], ◌∷◌, ◌++◌, false, filter, map, refl, arith}
use Rattle.std.specs.List.{AllByRecursion as Each}
use Rattle.std.proofs.lemmas.Bool.{cond_both}
use Rattle.mz_plan.specs.declared.command.Command.{Command}
use Rattle.mz_plan.specs.declared.command.Command.TheVariants.{Peek}
use Rattle.mz_rules.specs.Joining.{allowances, joining}
use Rattle.mz_rules.proofs.Each.{each_map, each_one}
use Rattle.mz_statement.specs.declared.statement.Statement.{Statement}
use Rattle.mz_log.specs.declared.entry.Entry.TheVariants.{Apply, Read, Finish, Cancel, Fed, Absorbed, Join, Crash}
use Rattle.mz_log.specs.declared.stream.Report.{Report}
use Rattle.mz_log.specs.declared.stream.Stream.{Stream}
use Rattle.mz_log.specs.Log.{Log}
use Rattle.mz_books.specs.Collections.{collections}
use Rattle.mz_books.specs.Holds.{is_of_call, is_peek, peeks_made, pending}
use Rattle.mz_books.specs.Legal.{Legal}
use Rattle.mz_books.specs.Since.{settled}
use Rattle.mz_books.specs.Streams.{asking_lines, crashed, ending_lines, fed, is_stream, joining_stream, new_lines, newer_report, reporting, streams, told_more}
use Rattle.mz_call_laws.proofs.Accepted.{made_is}
use Rattle.mz_call_laws.proofs.PendingCalls.{pending_rises, pending_within}
use Rattle.mz_script_laws.proofs.AskedLines.{AreInOrder, allowances_ask, asking_order, ending_ask, joining_order, new_ask, order_append, order_later, order_none}

-- a stream asks for peeks in order, of so many that were made
abbrev pub AsksInOrder : ℕ → Stream → Type 0
AsksInOrder made s = AreInOrder 0 made s.commands

-- further lines of live streams
told_order : (made now : ℕ) → made ≤ now → (lines : ℕ → List Command) → ((cluster : ℕ) → AreInOrder made now (lines cluster)) → (ss : List Stream)
    → Each (AsksInOrder made) ss → Each (AsksInOrder now) (map (told_more lines) ss)
told_order made now h lines more ss p =
    each_map (AsksInOrder made) (AsksInOrder now) (told_more lines)
    (λ s q. cond_both s.live (record s { commands = s.commands ++ lines s.cluster }) s (AsksInOrder now)
    (λ e. order_append 0 made now (omega arith) h s.commands (lines s.cluster) q (more s.cluster))
    (λ e. order_later 0 made now h s.commands q)) ss p

-- a read
read_order : (log : Log) (session call peek time : ℕ) (statement : Statement) (collection : ℕ)
    → Legal (Read session call peek time statement collection ∷ log) → Each (AsksInOrder (peeks_made log)) (streams log)
    → Each (AsksInOrder (peeks_made log + 1)) (streams (Read session call peek time statement collection ∷ log))
read_order log session call peek time statement collection l p =
    let entry = Read session call peek time statement collection in
    let longer : Log = entry ∷ log in
    let made = peeks_made log in
    let next : peek ≡ made + 1 = (made_is log session entry l.1.may).is.next_peek in
    let new : ℕ → List Command = λ cluster. new_lines (collections log) (collections longer) cluster in
    let asks : ℕ → List Command = λ cluster. asking_lines (collections longer) (Peek peek collection time) collection cluster in
    told_order made (made + 1) (omega arith) (λ cluster. new cluster ++ asks cluster)
    (λ cluster. order_append made made (made + 1) (omega arith) (omega arith) (new cluster) (asks cluster)
    (order_none made made (new cluster) (new_ask (collections log) (collections longer) cluster))
    (asking_order made (collections longer) peek collection time cluster next)) (streams log) p

-- each stream does so
pub streams_in_order : (log : Log) → Legal log → Each (AsksInOrder (peeks_made log)) (streams log)
streams_in_order [] l = (order_none 0 0 [] refl, tt)
streams_in_order (Apply time replies ∷ log) l =
    let made = peeks_made log in
    let longer : Log = Apply time replies ∷ log in
    told_order made made (omega arith) (new_lines (collections log) (collections longer))
    (λ cluster. order_none made made _ (new_ask (collections log) (collections longer) cluster)) (streams log) (streams_in_order log l.0)
streams_in_order (Read session call peek time statement collection ∷ log) l =
    read_order log session call peek time statement collection l (streams_in_order log l.0)
streams_in_order (Finish peek rows ∷ log) l =
    let made = peeks_made log in
    let gone = filter (is_peek peek) (pending log) in
    told_order made made (omega arith) (ending_lines (collections log) gone)
    (λ cluster. order_none made made _ (ending_ask (collections log) gone cluster)) (streams log) (streams_in_order log l.0)
streams_in_order (Cancel session call ∷ log) l =
    let made = peeks_made log in
    let gone = filter (is_of_call session call) (pending log) in
    told_order made made (omega arith) (ending_lines (collections log) gone)
    (λ cluster. order_none made made _ (ending_ask (collections log) gone cluster)) (streams log) (streams_in_order log l.0)
streams_in_order (Fed replica incarnation taken to ∷ log) l =
    let made = peeks_made log in
    each_map (AsksInOrder made) (AsksInOrder made) (fed replica incarnation (settled log))
    (λ s q. cond_both (is_stream replica incarnation s) (record s { commands = s.commands ++ allowances (settled log) s.commands }) s (AsksInOrder made)
    (λ e. order_append 0 made made (omega arith) (omega arith) s.commands (allowances (settled log) s.commands) q
    (order_none made made _ (allowances_ask (settled log) s.commands))) (λ e. q)) (streams log) (streams_in_order log l.0)
streams_in_order (Absorbed replica incarnation turn taken ready frontiers ∷ log) l =
    let made = peeks_made log in
    let new : Report = record { turn = turn; taken = taken; ready = ready } in
    each_map (AsksInOrder made) (AsksInOrder made) (reporting replica incarnation new)
    (λ s q. cond_both (s.live && is_stream replica incarnation s) (record s { report = newer_report new s.report }) s (AsksInOrder made)
    (λ e. q) (λ e. q)) (streams log) (streams_in_order log l.0)
streams_in_order (Join replica incarnation cluster ∷ log) l =
    let made = peeks_made log in
    each_one (AsksInOrder made) (streams log) (joining_stream replica incarnation cluster (joining cluster (settled log) (pending log)))
    (streams_in_order log l.0)
    (joining_order made cluster (settled log) (pending log) (pending_rises log l.0) (pending_within log l.0))
streams_in_order (Crash replica ∷ log) l =
    let made = peeks_made log in
    each_map (AsksInOrder made) (AsksInOrder made) (crashed replica)
    (λ s q. cond_both (bytes_eq s.replica replica) (record s { live = false }) s (AsksInOrder made) (λ e. q) (λ e. q)) (streams log)
    (streams_in_order log l.0)
streams_in_order (entry ∷ log) l = streams_in_order log l.0
