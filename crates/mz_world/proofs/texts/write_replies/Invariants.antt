-- what is written, with the replies that are left, is the text before with all replies
use Rattle.std.proofs.Common.{◌≡◌, ◌++◌, drop, string_bytes}
use Rattle.mz_world.specs.Texts.{replies_text}
use Rattle.mz_world.proofs.texts.write_replies.Given as goal

abbrev pub invariant-loop-replied : goal.invariant-loop-replied
invariant-loop-replied l =
    string_bytes l.text ++ replies_text l.fn.names.keys l.fn.time (drop l.replied-index l.replies)
    ≡ string_bytes l.initial.text ++ replies_text l.fn.names.keys l.fn.time l.initial.replies
