-- Each clause is a part of what an event leaves.
use Rattle.mz_event_laws.proofs.Whole.{event_whole}
use Rattle.mz_event_laws.proofs.events.events_are_legal.Goals as goal

pub returns-clause-legal : goal.returns-clause-legal
returns-clause-legal c = λ log entry l none may. (event_whole log entry l none may).legal

pub returns-clause-whole : goal.returns-clause-whole
returns-clause-whole c = λ log entry l none may. (event_whole log entry l none may).none
