-- The printed history.
use Rattle.std.specs.Prelude.{ℕ, List, ◌++◌, codes, decimal, flat_map}
use Rattle.mz_log.specs.Log.{Log}
use Rattle.mz_books.specs.Calls.{Call}
use Rattle.mz_books.specs.Sessions.{session_name}
use Rattle.mz_books.specs.History.{history}
use Rattle.mz_script.specs.Texts.{history_words, line_end, reply_lines}

-- a call: its time, the name of its session, its number there, and its text in its one form
abbrev pub call_line : (ℕ → List ℕ) → Call → List ℕ
call_line name call =
    codes "at " ++ (decimal call.stored.time ++ (codes " " ++ (name call.stored.session ++ (codes "#"
    ++ (decimal call.stored.call ++ (codes " " ++ (call.stored.text ++ line_end)))))))

-- a call with its reply below it
abbrev pub call_text : (ℕ → List ℕ) → Call → List ℕ
call_text name call =
    call_line name call
    ++ (codes "  " ++ (history_words call.statement call.stored.reply ++ (line_end ++ reply_lines call.stored.reply)))

-- calls, one behind the other; a function tells the name of each session
abbrev pub render : (ℕ → List ℕ) → List Call → List ℕ
render name calls = flat_map (call_text name) calls

-- the history of a log as it is printed
abbrev pub history_text : Log → List ℕ
history_text log = render (session_name log) (history log)
