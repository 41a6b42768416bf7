-- The commands that wait, as the calls show them and as the log has them queued.
use Rattle.std.proofs.Common.{◌≡◌, ℕ, false, ◌&&◌, List, [], ◌∷◌, ◌++◌, map, filter, Some, None, is_none, refl, sym, ap, ◌∙◌, append-nil, map-id}
use Rattle.std.specs.List.{AllByRecursion as Each, list_any}
use Rattle.std.proofs.lemmas.Bool.{cond_both}
use Rattle.mz_rules.proofs.Each.{each_all, each_of}
use Rattle.mz_log.specs.declared.entry.Entry.TheVariants.{Queue, Apply, Read, Finish, Refused, Instant, Cancel}
use Rattle.mz_log.specs.declared.reply.Reply.{Reply}
use Rattle.mz_log.specs.declared.reply.Reply.TheVariants as reply
use Rattle.mz_log.specs.Log.{Log}
use Rattle.mz_books.specs.Entries.{Queued}
use Rattle.mz_books.specs.Rounds.{queued, unreplied}
use Rattle.mz_books.specs.Clusters.{cluster_of}
use Rattle.mz_books.specs.Calls.{Call, calls, is_call, replied_in, finished, ended, seen_in, with_refusal, new_call}
use Rattle.mz_call_laws.specs.Waiting.{asked_of_round, command_of, commands_in}
use Rattle.mz_call_laws.proofs.Flat.{flat_append, flat_kept, flat_same, none_any}
use Rattle.mz_call_laws.proofs.CommandSteps.{command_ended, command_finished, command_other, command_replied, is_left, is_other}

-- so do those of other calls
commands_other : (session number : ℕ) (cs : List Call) → Each (λ c. is_call session number c ≡ false) cs
    → commands_in cs ≡ filter (is_other session number) (commands_in cs)
commands_other session number cs e =
    ap commands_in (sym (map-id cs)) ∙ flat_kept command_of (λ c. c) (is_other session number) cs
    (each_of _ _ (λ c other. cond_both (is_none c.peek && is_none c.stored.reply) (asked_of_round c.stored.session c.stored.call c.statement) []
    (λ l. l ≡ filter (is_other session number) l) (λ _. sym (command_other session number c c.statement other)) (λ _. refl)) cs e)

-- and those of calls of which one is refused
commands_refused : (session number cluster time : ℕ) (text : List ℕ) (told : Reply) (cs : List Call)
    → commands_in (with_refusal session number text told cluster time cs) ≡ filter (is_other session number) (commands_in cs)
commands_refused session number cluster time text told cs =
    let refused = new_call session number time text (Some told) None cluster None in
    cond_both (list_any (is_call session number) cs) (map (ended session number (λ own. told)) cs) (cs ++ refused ∷ [])
    (λ l. commands_in l ≡ filter (is_other session number) (commands_in cs))
    (λ _. flat_kept command_of (ended session number (λ own. told)) (is_other session number) cs
    (each_all _ (λ c. command_ended session number (λ own. told) c c.peek c.stored.reply c.statement) cs))
    (λ none. flat_append command_of cs (refused ∷ []) ∙ append-nil (commands_in cs)
    ∙ commands_other session number cs (none_any (is_call session number) cs none))

-- what the log has queued is what its calls show
pub queue_is : (log : Log) → commands_in (calls log) ≡ queued log
queue_is [] = refl
queue_is (Queue session number statement ∷ log) =
    let command : Queued = record { session = session; call = number; statement = statement } in
    flat_append command_of (calls log) _ ∙ ap (λ l. l ++ command ∷ []) (queue_is log)
queue_is (Read session number peek time statement collection ∷ log) =
    flat_append command_of (calls log) _ ∙ append-nil (commands_in (calls log)) ∙ queue_is log
queue_is (Instant session number statement time ∷ log) =
    flat_append command_of (calls log) _ ∙ append-nil (commands_in (calls log)) ∙ queue_is log
queue_is (Refused session number text refusal ∷ log) =
    commands_refused session number (cluster_of log session) (seen_in session (calls log)) text (reply.Refused refusal) (calls log)
    ∙ ap (filter (is_other session number)) (queue_is log)
queue_is (Apply time replies ∷ log) =
    flat_kept command_of (replied_in time replies) (is_left replies) (calls log)
    (each_all _ (λ c. command_replied time replies c c.peek c.stored.reply c.statement) (calls log))
    ∙ ap (unreplied replies) (queue_is log)
queue_is (Finish peek rows ∷ log) =
    flat_same command_of (finished peek rows) (calls log)
    (each_all _ (λ c. command_finished peek rows c c.peek c.stored.reply c.statement) (calls log))
    ∙ queue_is log
queue_is (Cancel session number ∷ log) =
    flat_kept command_of (ended session number reply.Cancelled) (is_other session number) (calls log)
    (each_all _ (λ c. command_ended session number reply.Cancelled c c.peek c.stored.reply c.statement) (calls log))
    ∙ ap (filter (is_other session number)) (queue_is log)
queue_is (entry ∷ log) = queue_is log
