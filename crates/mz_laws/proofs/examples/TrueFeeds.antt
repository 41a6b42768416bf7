-- A true feed and a true packet: that of a log with a read, for a replica that has nothing yet. The table has no row.
use Rattle.std.proofs.Common.{[], ◌∷◌, true, refl, sym, ap, arith}
use Rattle.std.specs.List.Sorted.{IsStrictlySortedBy}
use Rattle.std.proofs.lemmas.List.Sorted.{IsPermutation-refl}
use Rattle.mz_bag.specs.Weighted.{bag_of}
use Rattle.mz_bag.proofs.BagLaws.{entries-empty}
use Rattle.mz_updates.specs.declared.batch.Batch.{Batch}
use Rattle.mz_books.specs.Packets.{IsTrueFeed, IsTruePacket, answer_at}
use Rattle.mz_books.specs.States.{query_plan}
use Rattle.mz_books.specs.Streams.{first_replica, stream_of}
use Rattle.mz_script.specs.ScriptLine.{fresh_place}
use Rattle.mz_laws.proofs.examples.Followed.{fed}

-- the whole table, which is empty, up to 0
abbrev batch : Batch
batch = record { table = 1; lower = 0; to = 0; since = 0; whole = true; updates = [] }

-- the feed is true with the lines of the stream and this batch
pub is_true_feed : IsTrueFeed fed first_replica (fresh_place 1) (stream_of fed first_replica 1) (batch ∷ []) 0
unfolding query_plan IsStrictlySortedBy
is_true_feed = record {
  before = _;
  taken = 2;
  ends = refl;
  all_taken = refl;
  taken_before = omega arith;
  own_commands = refl;
  asked = 0;
  own_to = refl;
  readable = omega arith;
  own_tables = IsPermutation-refl (1 ∷ []);
  own_batches = (
    record {
      lower = refl;
      to = refl;
      since = refl;
      whole = refl;
      consolidated = record { in_order = tt; no_zero = tt };
      part = record { from = record { each = tt }; before = record { each = tt }; contain = λ t low high. sym (ap bag_of entries-empty) };
    },
    tt,
  );
}

-- and the packet with the rows of the one peek, at 0
pub is_true_packet : IsTruePacket fed first_replica 1 2 1 ((2, 1) ∷ []) (answer_at fed 1 2 0 ∷ [])
unfolding query_plan
is_true_packet = record { before = _; to = 0; ends = refl; own_ready = refl; own_frontiers = refl; own_answers = refl }
