-- What a script is told of each event. Each line ends with LF; numbers are decimal.
use Rattle.std.specs.Prelude.{ℕ, List, ◌++◌, codes, decimal, flat_map, length}
use Rattle.mz_bag.specs.Weighted.{Weighted}
use Rattle.mz_time.specs.declared.frontier.Frontier.TheVariants.{At, Done}
use Rattle.mz_plan.specs.declared.command.Command.{Command}
use Rattle.mz_plan.specs.declared.command.Command.TheVariants.{Create, Allow, Peek, Retire}
use Rattle.mz_plan.specs.declared.command.Place.{Place}
use Rattle.mz_refusal.specs.declared.refusal.Refusal.{Refusal}
use Rattle.mz_log.specs.declared.reply.FrontierRow.{FrontierRow}
use Rattle.mz_log.specs.declared.reply.SeqReply.{SeqReply}
use Rattle.mz_script.specs.Texts.{frontier_lines, line_end, refused_words, reply_words, row_lines, rows_words}

-- some words as a line
abbrev pub line_of : List ℕ → List ℕ
line_of words = words ++ line_end

-- a line that nothing can be made of
abbrev pub unreadable_text : ℕ → List ℕ
unreadable_text line = codes "line " ++ (decimal line ++ (codes " is unreadable" ++ line_end))

-- a line that isn't built
abbrev pub unbuilt_text : ℕ → List ℕ
unbuilt_text line = codes "line " ++ (decimal line ++ (codes " is not built" ++ line_end))

-- ---- sessions

-- a call: the name of its session and its number there
abbrev pub head : List ℕ → ℕ → List ℕ
head name call = name ++ (codes "#" ++ decimal call)

-- a session, or a submission of it, is refused and is no call
abbrev pub refused_text : List ℕ → Refusal → List ℕ
refused_text name refusal = name ++ (codes " " ++ (refused_words refusal ++ line_end))

-- a call is refused
abbrev pub call_refused_text : List ℕ → ℕ → Refusal → List ℕ
call_refused_text name call refusal = head name call ++ (codes " " ++ (refused_words refusal ++ line_end))

-- a command waits for a round
abbrev pub queued_text : List ℕ → ℕ → List ℕ
queued_text name call = head name call ++ (codes " queued" ++ line_end)

-- a read waits for its rows
abbrev pub reading_text : List ℕ → ℕ → ℕ → ℕ → List ℕ
reading_text name call time peek =
    head name call ++ (codes " reading at " ++ (decimal time ++ (codes ", peek " ++ (decimal peek ++ line_end))))

-- a statement was carried out at once: what it did, and its time
abbrev pub instant_text : List ℕ → ℕ → List ℕ → ℕ → List ℕ
instant_text name call words time =
    head name call ++ (codes " " ++ (words ++ (codes " at " ++ (decimal time ++ line_end))))

-- how far collections are readable
abbrev pub frontiers_text : List ℕ → ℕ → ℕ → List FrontierRow → List ℕ
frontiers_text name call time rows =
    head name call ++ (codes " frontiers at " ++ (decimal time ++ (codes ": " ++ (decimal (length rows)
    ++ (line_end ++ frontier_lines rows)))))

-- a call was cancelled
abbrev pub cancelled_text : List ℕ → ℕ → ℕ → List ℕ
cancelled_text name call time = head name call ++ (codes " cancelled at " ++ (decimal time ++ line_end))

-- the session has no call that could be cancelled
abbrev pub no_call_text : List ℕ → List ℕ
no_call_text name = name ++ (codes " has no call" ++ line_end)

-- a session was closed
abbrev pub closed_text : List ℕ → List ℕ
closed_text name = name ++ (codes " closed" ++ line_end)

-- no session has the name
abbrev pub no_session_text : List ℕ → List ℕ
no_session_text name = codes "no session " ++ (name ++ line_end)

-- ---- rounds

-- a round was begun, with so many commands
abbrev pub begun_text : ℕ → ℕ → ℕ → List ℕ
begun_text round time commands =
    codes "round " ++ (decimal round ++ (codes " at " ++ (decimal time ++ (codes ": " ++ (decimal commands
    ++ (codes " commands" ++ line_end))))))

-- a round is open already
abbrev pub open_text : ℕ → List ℕ
open_text round = codes "round " ++ (decimal round ++ (codes " is open" ++ line_end))

-- no time is left for a round
abbrev pub spent_text : ℕ → ℕ → List ℕ
spent_text last now = codes "time spent: last " ++ (decimal last ++ (codes ", clock " ++ (decimal now ++ line_end)))

-- a round was applied
abbrev pub done_text : ℕ → List ℕ
done_text round = codes "round " ++ (decimal round ++ (codes " done" ++ line_end))

-- a call has its reply at a time
abbrev pub told_text : List ℕ → ℕ → ℕ → List ℕ → List ℕ
told_text name call time words =
    head name call ++ (codes " at " ++ (decimal time ++ (codes ": " ++ (words ++ line_end))))

-- a command has the reply of a round
abbrev pub replied_text : List ℕ → ℕ → ℕ → SeqReply → List ℕ
replied_text name call time reply = told_text name call time (reply_words reply)

-- a read has its rows
abbrev pub finished_text : List ℕ → ℕ → ℕ → Weighted → List ℕ
finished_text name call time rows = told_text name call time (rows_words rows) ++ row_lines rows

-- ---- replicas

-- an incarnation of a replica
abbrev pub incarnation_text : List ℕ → ℕ → List ℕ
incarnation_text replica incarnation = replica ++ (codes "/" ++ decimal incarnation)

-- a line of a stream
abbrev pub command_line : Command → List ℕ
command_line (Create collection plan as_of) =
    codes "  create " ++ (decimal collection ++ (codes " as of " ++ (decimal as_of ++ line_end)))
command_line (Allow collection (At time)) = codes "  allow " ++ (decimal collection ++ (codes " to " ++ (decimal time ++ line_end)))
command_line (Allow collection Done) = codes "  drop " ++ (decimal collection ++ line_end)
command_line (Peek peek collection time) =
    codes "  peek " ++ (decimal peek ++ (codes " on " ++ (decimal collection ++ (codes " at " ++ (decimal time ++ line_end)))))
command_line (Retire peek) = codes "  retire " ++ (decimal peek ++ line_end)

-- a feed of this number was made
abbrev pub feed_text : ℕ → List ℕ → Place → List Command → ℕ → List ℕ
feed_text feed replica place lines to =
    codes "feed " ++ (decimal feed ++ (codes ": " ++ (incarnation_text replica place.incarnation ++ (codes " turn "
    ++ (decimal place.turn ++ (codes ", " ++ (decimal (length lines) ++ (codes " commands, to " ++ (decimal to
    ++ (line_end ++ flat_map command_line lines))))))))))

-- a packet of this number was made
abbrev pub packet_text : ℕ → List ℕ → ℕ → ℕ → ℕ → ℕ → List ℕ
packet_text packet replica incarnation turn ready answers =
    codes "packet " ++ (decimal packet ++ (codes ": " ++ (incarnation_text replica incarnation ++ (codes " turn "
    ++ (decimal turn ++ (codes ", ready " ++ (decimal ready ++ (codes ", " ++ (decimal answers
    ++ (codes " answers" ++ line_end))))))))))

-- a feed isn't for the place where its replica is
abbrev pub stale_text : ℕ → List ℕ → Place → Place → List ℕ
stale_text feed replica has given =
    codes "feed " ++ (decimal feed ++ (codes " is stale: " ++ (replica ++ (codes " is at " ++ (decimal has.incarnation
    ++ (codes " turn " ++ (decimal has.turn ++ (codes ", given " ++ (decimal given.incarnation ++ (codes " turn "
    ++ (decimal given.turn ++ line_end)))))))))))

-- a packet was absorbed
abbrev pub absorbed_text : ℕ → List ℕ
absorbed_text packet = codes "packet " ++ (decimal packet ++ (codes " absorbed" ++ line_end))

-- an answer came to a peek that is pending no more
abbrev pub not_pending_text : ℕ → List ℕ
not_pending_text peek = codes "  peek " ++ (decimal peek ++ (codes " not pending" ++ line_end))

-- a replica or a cluster, and what is said of it
abbrev pub of_name : List ℕ → List ℕ → List ℕ
of_name name words = name ++ (codes " " ++ (words ++ line_end))

-- what there is none of under this number or name
abbrev pub none_of : List ℕ → List ℕ → List ℕ
none_of what which = codes "no " ++ (what ++ (codes " " ++ (which ++ line_end)))
