-- Feeds that are for another place than that where the replica stands.
use Rattle.std.specs.Prelude.{◌≡◌, [], ◌∷◌, codes}
use Rattle.mz_script.specs.declared.script_line.ScriptLine.TheVariants.{CrashReplica, RejoinReplica, TakeFeed}
use Rattle.mz_laws.specs.examples.Scripts.{answered, feed_r1, texts}

-- a replica that was lost takes no feed; joined again, it takes none that was made before, nor one twice for one place
abbrev pub Stale : Type 0
Stale =
    answered (feed_r1 ∷ CrashReplica (codes "r1") ∷ TakeFeed 1 ∷ RejoinReplica (codes "r1") ∷ TakeFeed 1
    ∷ feed_r1 ∷ feed_r1 ∷ TakeFeed 2 ∷ TakeFeed 3 ∷ [])
    ≡ texts (codes "feed 1: r1/1 turn 0, 0 commands, to 0"
    ∷ codes "r1 crashed"
    ∷ codes "r1 is not live"
    ∷ codes "r1 joined as 2"
    ∷ codes "feed 1 is stale: r1 is at 2 turn 0, given 1 turn 0"
    ∷ codes "feed 2: r1/2 turn 0, 0 commands, to 0"
    ∷ codes "feed 3: r1/2 turn 0, 0 commands, to 0"
    ∷ codes "packet 1: r1/2 turn 0, ready 1, 0 answers"
    ∷ codes "feed 3 is stale: r1 is at 2 turn 1, given 2 turn 0"
    ∷ [])
