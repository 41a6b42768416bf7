-- A line keeps a machine at rest and its log plain.
use Rattle.mz_script_laws.proofs.BuiltLines.{line_keeps_plain, line_keeps_rest}
use Rattle.mz_script_laws.proofs.scripts.lines_keep_machines_at_rest.Goals as goal

pub returns-clause-rest : goal.returns-clause-rest
returns-clause-rest c = line_keeps_rest

pub returns-clause-plain : goal.returns-clause-plain
returns-clause-plain c = line_keeps_plain
