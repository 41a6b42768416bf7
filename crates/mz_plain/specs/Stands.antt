-- What a plain core keeps, and for which log it stands.
use Rattle.mz_log.specs.Log.{Log}
use Rattle.mz_kept.specs.Kept.{Kept}
use Rattle.mz_kept.specs.Standing.{StandsFor}
use Rattle.mz_plain.specs.declared.plain.Plain.{Plain}

-- what a core keeps
abbrev pub kept : Plain → Kept
kept plain = record {
  names = plain.names.keys;
  sessions = plain.sessions.items;
  calls = plain.calls;
  oracle = plain.oracle;
  rounds = plain.rounds;
  database = plain.seq.present;
  plans = plain.tables.plans;
  reads = plain.reads.items;
  peeks = plain.peeks;
}

-- the core stands for the log
abbrev pub Stands : Plain → Log → Type 0
Stands plain log = StandsFor (kept plain) log
