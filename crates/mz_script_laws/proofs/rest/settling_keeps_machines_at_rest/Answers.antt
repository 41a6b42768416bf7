-- A turn keeps a machine at rest, and so does each step of settling.
use Rattle.mz_script_laws.proofs.Settling.{settles_rests, turns_rest}
use Rattle.mz_script_laws.proofs.rest.settling_keeps_machines_at_rest.Goals as goal

pub returns-clause-turns : goal.returns-clause-turns
returns-clause-turns c = turns_rest

pub returns-clause-settles : goal.returns-clause-settles
returns-clause-settles c = settles_rests
