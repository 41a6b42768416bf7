-- A legal log: a session is opened and reads, its replica takes a feed, and the packet finishes the peek. So the conditions can be met.
use Rattle.std.proofs.Common.{◌≡◌, ℕ, List, [], ◌∷◌, codes, refl, inl, arith}
use Rattle.mz_grammar.specs.Asked.{IsAsked}
use Rattle.mz_grammar.specs.declared.asked.Asked.TheVariants as asks
use Rattle.mz_plan.specs.declared.command.PendingPeek.{PendingPeek}
use Rattle.mz_log.specs.declared.entry.Entry.TheVariants.{Opened, Read, Finish, Fed, Absorbed}
use Rattle.mz_log.specs.Log.{Log}
use Rattle.mz_books.specs.States.{query_plan}
use Rattle.mz_books.specs.Streams.{first_replica}
use Rattle.mz_books.specs.Owed.{owed, peek_rows}
use Rattle.mz_books.specs.Answer.{answer}
use Rattle.mz_books.specs.Legal.{Follows, Legal}
use Rattle.mz_books.specs.Replica.{Keeping, StandsFor}
use Rattle.mz_script.specs.ScriptLine.{fresh_place}
use Rattle.mz_laws.specs.examples.Logs.{select_kv}

-- s1 is opened
abbrev opened : Log
opened = Opened (codes "s1") ∷ []

is_opened : Legal opened
is_opened = (tt, record { may = record { new_name = refl; room = omega arith }; in_turn = tt })

-- it reads the table at 0
abbrev reading : Log
reading = Read 1 1 1 0 select_kv 2 ∷ opened

is_read : (text : List ℕ) → IsAsked text (asks.Statement select_kv) → Follows opened (Read 1 1 1 0 select_kv 2)
unfolding answer query_plan
is_read text spelled = record {
  may = record {
    opened = record { from_one = omega arith; there = omega arith };
    text = text;
    asked = asks.Statement select_kv;
    asks = spelled;
    answered = refl;
  };
  in_turn = tt;
}

-- a feed is made for r1, up to 0
abbrev pub fed : Log
fed = Fed first_replica 1 2 0 ∷ reading

is_fed : Follows reading (Fed first_replica 1 2 0)
unfolding query_plan
is_fed = record {
  may = record {
    own = _;
    is_own = refl;
    live = refl;
    all_taken = refl;
    place = fresh_place 1;
    own_incarnation = refl;
    taken_before = omega arith;
    ready_before = omega arith;
    asked = 0;
    asked_readable = omega arith;
    own_to = refl;
  };
  in_turn = tt;
}

-- its packet comes
abbrev absorbed : Log
absorbed = Absorbed first_replica 1 0 2 1 ((2, 1) ∷ []) ∷ fed

is_absorbed : Follows fed (Absorbed first_replica 1 0 2 1 ((2, 1) ∷ []))
unfolding query_plan
is_absorbed = record { may = record { of_feed = refl; own_frontiers = refl }; in_turn = tt }

-- the peek that waits
abbrev waiting : PendingPeek
waiting = record { peek = 1; session = 1; call = 1; collection = 2; time = 0 }

-- and finishes the peek, which is owed
abbrev finished : Log
finished = Finish 1 (peek_rows absorbed waiting) ∷ absorbed

is_finished : Follows absorbed (Finish 1 (peek_rows absorbed waiting))
unfolding query_plan
is_finished = record { may = record { waits = refl; own_rows = ((λ same. refl), tt) }; in_turn = refl }

-- then nothing more is owed
none_owed : owed finished ≡ []
unfolding query_plan
none_owed = refl

-- the log is legal, where some text spells the query
pub is_legal : (text : List ℕ) → IsAsked text (asks.Statement select_kv) → Legal finished
is_legal text spelled = ((((is_opened, is_read text spelled), is_fed), is_absorbed), is_finished)

-- the first replica, as it begins
abbrev first : Keeping
first = record { name = first_replica; place = fresh_place 1; dataflows = []; peeks = []; has = λ number. [] }

-- stands for the log in which nothing has happened
pub stands : StandsFor [] first
stands = record {
  legal = tt;
  alive = record { own = _; is_own = refl; live = refl };
  is = inl (record {
    no_turn = refl;
    none_taken = refl;
    none_ready = refl;
    no_dataflow = refl;
    no_peek = refl;
    no_copy = λ number. refl;
    joined = inl refl;
  });
}
