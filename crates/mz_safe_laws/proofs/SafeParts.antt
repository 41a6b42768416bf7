-- What is safe of each legal log, but for its reports.
use Rattle.std.proofs.Common.{ℕ, ◌+◌, ◌<◌, ◌≤◌}
use Rattle.std.specs.List.{AllByRecursion as Each}
use Rattle.mz_time.specs.Frontier.{Le}
use Rattle.mz_time.specs.declared.frontier.Frontier.TheVariants.{At}
use Rattle.mz_time.proofs.FrontierLemmas.{Le-trans}
use Rattle.mz_rules.specs.Frontiers.{IsWithin}
use Rattle.mz_rules.specs.Streams.{told}
use Rattle.mz_rules.proofs.Each.{each_of}
use Rattle.mz_rules.proofs.Held.{capabilities_hold}
use Rattle.mz_rules.proofs.Readers.{readers_hold}
use Rattle.mz_rules.proofs.Said.{told_within}
use Rattle.mz_books.specs.Legal.{Legal}
use Rattle.mz_log.specs.Log.{Log}
use Rattle.mz_books.specs.Rounds.{read_time}
use Rattle.mz_books.specs.Collections.{collections}
use Rattle.mz_books.specs.Holds.{holds, pending}
use Rattle.mz_books.specs.Since.{kept, settled, since}
use Rattle.mz_books.specs.Streams.{streams}
use Rattle.mz_safe_laws.proofs.Onward.{IsTimely}
use Rattle.mz_safe_laws.proofs.Entries.{of_holds, of_peeks}
use Rattle.mz_safe_laws.proofs.Spoken.{core_within}
use Rattle.mz_safe_laws.proofs.Sound.{IsWell, sound}

-- no since is past a hold
pub holds_stand : (log : Log) → Each (λ hold. Le (since log hold.collection) (At hold.time)) (holds log)
holds_stand log =
    of_holds (λ x. Le (since log x.collection) (At x.time)) (holds log) (pending log) (capabilities_hold (kept log) (collections log))

-- nor past a pending peek
pub peeks_stand : (log : Log) → Each (λ peek. Le (since log peek.collection) (At peek.time)) (pending log)
peeks_stand log =
    of_peeks (λ x. Le (since log x.collection) (At x.time)) (holds log) (pending log) (capabilities_hold (kept log) (collections log))

-- nothing that any incarnation was told is past the since
pub told_before : (log : Log) → Legal log → Each (λ s. (number : ℕ) → Le (told number s.commands) (since log number)) (streams log)
told_before log l =
    each_of (IsWell log) (λ s. (number : ℕ) → Le (told number s.commands) (since log number))
    (λ s p number. told_within (since log) s.commands p.said number) (streams log) (sound log l).said

-- nor past a hold
pub told_holds : (log : Log) → Legal log
    → Each (λ s. Each (λ hold. Le (told hold.collection s.commands) (At hold.time)) (holds log)) (streams log)
told_holds log l =
    each_of (λ s. (number : ℕ) → Le (told number s.commands) (since log number))
    (λ s. Each (λ hold. Le (told hold.collection s.commands) (At hold.time)) (holds log))
    (λ s p. each_of (λ hold. Le (since log hold.collection) (At hold.time)) (λ hold. Le (told hold.collection s.commands) (At hold.time))
    (λ hold q. Le-trans (told hold.collection s.commands) (since log hold.collection) (At hold.time) (p hold.collection) q)
    (holds log) (holds_stand log))
    (streams log) (told_before log l)

-- nor past a pending peek
pub told_peeks : (log : Log) → Legal log
    → Each (λ s. Each (λ peek. Le (told peek.collection s.commands) (At peek.time)) (pending log)) (streams log)
told_peeks log l =
    each_of (λ s. (number : ℕ) → Le (told number s.commands) (since log number))
    (λ s. Each (λ peek. Le (told peek.collection s.commands) (At peek.time)) (pending log))
    (λ s p. each_of (λ peek. Le (since log peek.collection) (At peek.time)) (λ peek. Le (told peek.collection s.commands) (At peek.time))
    (λ peek q. Le-trans (told peek.collection s.commands) (since log peek.collection) (At peek.time) (p peek.collection) q)
    (pending log) (peeks_stand log))
    (streams log) (told_before log l)

-- no since is past that of a reader
pub readers_stand : (log : Log) → Legal log → Each (λ s. Each (λ input. Le (since log input) s.since) s.collection.inputs) (settled log)
readers_stand log l =
    let core = (sound log l).core in
    readers_hold (kept log) 1 (collections log) core.numbered
    (each_of (IsTimely (read_time log)) (λ c. Each (λ input. input < c.number) c.inputs) (λ c p. p.older) (collections log) core.timely)

-- each since is from the as-of on
pub from_as_of : (log : Log) → Legal log → Each (λ s. Le (At s.collection.as_of) s.since) (settled log)
from_as_of log l = (sound log l).core.from_as_of

-- and within the read time
pub readable : (log : Log) → Legal log → Each (λ s. IsWithin (read_time log) s.since) (settled log)
readable log l = core_within (read_time log) (collections log) (kept log) (sound log l).core

-- no upper is past the round after it
pub uppers : (log : Log) → Legal log → Each (λ c. c.upper ≤ read_time log + 1) (collections log)
uppers log l =
    each_of (IsTimely (read_time log)) (λ c. c.upper ≤ read_time log + 1) (λ c p. p.come) (collections log) (sound log l).core.timely
