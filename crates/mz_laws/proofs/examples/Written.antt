-- An insert, a commit and a read, and what sessions are answered meanwhile.
use Rattle.std.proofs.Common.{◌≡◌, pos, [], ◌∷◌, ◌++◌, map, None, Some, Ok, Err, codes, refl, ap, ◌∙◌}
use Rattle.std.specs.Fmt.{digits}
use Rattle.std.specs.Prelude.{unwrap_or, ◌+ℤ◌}
use Rattle.std.specs.FinMap.{empty, entries, entries-insert, get-empty, put}
use Rattle.mz_value.specs.Row.{row_cmp}
use Rattle.mz_value.specs.RowOrder.{row_total}
use Rattle.mz_bag.proofs.BagLaws.{entries-empty}
use Rattle.mz_bag.specs.Bag.{with_count}
use Rattle.mz_bag.specs.Weighted.{bag_of}
use Rattle.mz_grammar.specs.declared.asked.Asked.TheVariants as asks
use Rattle.mz_refusal.specs.declared.refusal.Refusal.TheVariants.{Busy}
use Rattle.mz_log.specs.declared.entry.Entry.TheVariants.{Opened, Queue, Begin, Apply, Read, Finish}
use Rattle.mz_log.specs.declared.reply.Reply.TheVariants as reply
use Rattle.mz_log.specs.declared.reply.SeqReply.TheVariants as told
use Rattle.mz_log.specs.CarriedOut.{seq}
use Rattle.mz_log.specs.Log.{Log}
use Rattle.mz_books.specs.Rounds.{read_time, ddl, queued, open_round}
use Rattle.mz_books.specs.States.{query_plan, replies_to, newest_state, table_at}
use Rattle.mz_books.specs.Calls.{calls}
use Rattle.mz_books.specs.Sessions.{outstanding, seen, calls_made}
use Rattle.mz_books.specs.Answer.{answer}
use Rattle.mz_books.specs.History.{history}
use Rattle.mz_script.specs.Render.{history_text}
use Rattle.mz_script.specs.Texts.{line_end}
use Rattle.mz_laws.specs.examples.Logs.{insert, replied, row, select_kv}

-- s1 inserts a row, which waits
abbrev pub waiting : Log
waiting = Queue 1 1 (insert 1 10) ∷ Opened (codes "s1") ∷ []

-- it waits for its reply
one_waits : outstanding waiting 1 ≡ Some 1
one_waits = refl

-- and may make no other call meanwhile
is_busy : answer waiting 1 (codes "SELECT * FROM kv") (asks.Statement select_kv) ≡ Err (Busy 1)
unfolding answer
is_busy = refl

-- a round begins and takes it
abbrev pub begun : Log
begun = Begin 1 1 ∷ waiting

-- what s2 reads meanwhile it reads at the time before the round
reads_before : answer (Opened (codes "s2") ∷ begun) 2 [] (asks.Statement select_kv) ≡ Ok (Read 2 1 1 0 select_kv 2)
unfolding answer query_plan
reads_before = refl

-- the round replies that one row was inserted
one_inserted : replies_to (λ session. 0) (newest_state begun) (queued begun) ≡ replied 1 1 (insert 1 10) (told.Inserted 1) ∷ []
unfolding seq
one_inserted = rw entries-empty refl

-- it is applied
abbrev pub written : Log
written = Apply 1 (replied 1 1 (insert 1 10) (told.Inserted 1) ∷ []) ∷ begun

-- the read time has moved, and nothing waits; no item was made or removed
written_books : (read_time written ≡ 1) × (ddl written ≡ 0) × (queued written ≡ []) × (open_round written ≡ None)
written_books = (refl, refl, refl, refl)

-- the call has its reply, and the time of the round
has_reply : map (λ call. call.stored.reply) (calls written) ≡ Some (reply.Command (told.Inserted 1)) ∷ []
has_reply = refl

-- which its session has seen
has_seen : (seen written 1 ≡ 1) × (outstanding written 1 ≡ None) × (calls_made written 1 ≡ 1)
has_seen = (refl, refl, refl)

-- it reads the table at the read time
abbrev pub reading : Log
reading = Read 1 2 1 1 select_kv 2 ∷ written

-- the rows of one INSERT of one row
one_row : entries (bag_of ((row 1 10, pos 1) ∷ [])) ≡ (row 1 10, pos 1) ∷ []
one_row =
    ap (λ found. entries (with_count empty (row 1 10) (unwrap_or found (pos 0) +ℤ pos 1))) (get-empty row_cmp (row 1 10))
    ∙ entries-insert row_total empty (row 1 10) (pos 1)
    ∙ ap (put row_cmp (row 1 10) (pos 1)) entries-empty

-- the table has that row at 1, and none at 0
row_there : entries (table_at written 1 1) ≡ (row 1 10, pos 1) ∷ []
unfolding seq
row_there = rw entries-empty (ap (λ es. entries (bag_of (es ++ (row 1 10, pos 1) ∷ []))) entries-empty ∙ one_row)

none_before : entries (table_at written 1 0) ≡ []
none_before = entries-empty

-- it gets it
abbrev pub answered : Log
answered = Finish 1 ((row 1 10, pos 1) ∷ []) ∷ reading

-- and its reply at its own time
last_replies : map (λ call. call.stored.reply) (calls answered)
    ≡ Some (reply.Command (told.Inserted 1)) ∷ Some (reply.Rows 1 ((row 1 10, pos 1) ∷ [])) ∷ []
last_replies = refl

-- the history has both calls at 1, in their order
both_at_one : map (λ call. call.stored.time) (history answered) ≡ 1 ∷ 1 ∷ []
both_at_one = refl

-- as it is printed
pub printed : history_text answered
    ≡ codes "at 1 s1#1 INSERT INTO kv VALUES (1, 10)" ++ (line_end ++ (codes "  inserted 1" ++ (line_end
    ++ (codes "at 1 s1#2 SELECT * FROM kv" ++ (line_end ++ (codes "  1 rows" ++ (line_end
    ++ (codes "  1 x (1, 10)" ++ line_end))))))))
unfolding digits
printed = refl
