-- When a replica has taken all that it was told.
use Rattle.std.specs.Prelude.{◌≡◌, ℕ, List, Some, true, find, length}
use Rattle.mz_log.specs.declared.stream.Stream.{Stream}
use Rattle.mz_log.specs.Log.{Log}
use Rattle.mz_books.specs.Streams.{is_stream, streams}

-- a live incarnation of a replica of the main cluster has taken all lines of its stream
pub record HasTakenAll (log : Log) (replica : List ℕ) (incarnation taken : ℕ) : Type 0 where
  pub own : Stream
  pub is_own : find (is_stream replica incarnation) (streams log) ≡ Some own
  pub live : own.live ≡ true
  pub main : own.cluster ≡ 0
  pub all_taken : taken ≡ length own.commands
