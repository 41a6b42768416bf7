-- A machine stays at rest as calls are cancelled, sessions closed, clusters added, and holds moved or given back.
use Rattle.std.specs.Prelude.{⊤, bytes_eq}
use Rattle.std.proofs.Common.{◌≡◌, ℕ, ◌+◌, ◌≤◌, ◌==◌, ◌&&◌, Bool, true, false, List, [], ◌∷◌, length, nat_le, nat_lt, Option, None, Some, Ok, is_none, cond, refl, sym, ap, ◌∙◌, subst, inl, inr, arith}
use Rattle.std.specs.List.{AllByRecursion as Each, list_any}
use Rattle.std.proofs.lemmas.Bool.{and_parts, cond_both, eqb-true, leb-false, ltb-false, or_left, or_right}
use Rattle.mz_refusal.specs.declared.refusal.Refusal.{Refusal}
use Rattle.mz_refusal.specs.declared.refusal.Refusal.TheVariants as refusal
use Rattle.mz_resolution.specs.Steps.{◌>>=◌}
use Rattle.mz_rules.specs.declared.capability.Hold.{Hold}
use Rattle.mz_rules.proofs.Each.{each_of}
use Rattle.mz_log.specs.declared.entry.Entry.TheVariants.{Cancel, Close, Down, Release, Cluster}
use Rattle.mz_log.specs.Log.{Log}
use Rattle.mz_books.specs.Answer.{busy, refused_if}
use Rattle.mz_books.specs.Clusters.{clusters}
use Rattle.mz_books.specs.Given.{CancelRefusal, Given, InRound, cancel_given, cancelling_given, gives, gives_or_refuses, refuses}
use Rattle.mz_books.specs.GivenReplicas.{IsTaken, ReplicaRefusal, TooManyOf, add_cluster_given}
use Rattle.mz_books.specs.Holds.{holds}
use Rattle.mz_books.specs.Legal.{IsFree, IsLive, Legal, MayMove, most_clusters}
use Rattle.mz_books.specs.Rounds.{Round, is_in_round, open_round, read_time}
use Rattle.mz_books.specs.Sessions.{IsOpened, is_closed, outstanding, sessions}
use Rattle.mz_call_laws.specs.Members.{Has}
use Rattle.mz_call_laws.proofs.Lists.{each_has, found}
use Rattle.mz_call_laws.proofs.Options.{none_of}
use Rattle.mz_event_laws.proofs.HoldsRise.{holds_rise}
use Rattle.mz_event_laws.proofs.Rising.{only_each}
use Rattle.mz_script.specs.Machine.{added}
use Rattle.mz_script.specs.Script.{cancelled, cancels, closed, closes, free_hold, gives_back, moved, moves_hold, session_place}
use Rattle.mz_script.specs.ScriptLine.{Machine}
use Rattle.mz_script_laws.specs.Rest.{IsAtRest}
use Rattle.mz_script_laws.proofs.Resting.{rests_event}
use Rattle.mz_script_laws.proofs.SessionLines.{place_within}

-- ---- calls

-- a call that waits is cancelled, unless it is in the open round
cancel_rests : (machine : Machine) (name : List ℕ) (session call : ℕ) (round : Option Round) → open_round machine.log ≡ round
    → outstanding machine.log session ≡ Some call → IsAtRest machine
    → IsAtRest (cancelled machine name session (cancel_given machine.log session call round) (cancel_given machine.log session call round).answer).machine
cancel_rests machine name session call None shut waits rest =
    rests_event machine (Cancel session call) tt (record { waits = waits; in_none = ap (is_in_round session call) shut }) rest
cancel_rests machine name session call (Some round) is waits rest =
    let in_round : Given ℕ CancelRefusal = refuses (InRound round.number) in
    let given : Given ℕ CancelRefusal = gives machine.log (Cancel session call) call in
    cond_both (is_in_round session call (Some round)) in_round given (λ g. IsAtRest (cancelled machine name session g g.answer).machine)
    (λ _. rest)
    (λ e. rests_event machine (Cancel session call) tt (record { waits = waits; in_none = ap (is_in_round session call) is ∙ e }) rest)

-- where one waits
waiting_rests : (machine : Machine) (name : List ℕ) (session : ℕ) (waits : Option ℕ) → outstanding machine.log session ≡ waits → IsAtRest machine
    → IsAtRest (cancelled machine name session (cancelling_given machine.log session waits) (cancelling_given machine.log session waits).answer).machine
waiting_rests machine name session None is rest = rest
waiting_rests machine name session (Some call) is rest = cancel_rests machine name session call (open_round machine.log) refl is rest

-- so it is with each session
pub cancels_rests : (machine : Machine) (name : List ℕ) (place : Option ℕ) → IsAtRest machine → IsAtRest (cancels machine name place).machine
cancels_rests machine name None rest = rest
cancels_rests machine name (Some place) rest = waiting_rests machine name (place + 1) (outstanding machine.log (place + 1)) refl rest

-- ---- sessions

-- what a log gives a closing, by whether the session is closed and whether it waits
abbrev closing_by : Log → ℕ → Bool → Option ℕ → Given ⊤ Refusal
closing_by log session shut waits =
    gives_or_refuses log (refused_if shut refusal.Closed >>= λ _. busy waits >>= λ _. Ok (Close session, tt))

-- a session is closed that is open and doesn't wait
closed_rests : (machine : Machine) (name : List ℕ) (session : ℕ) (shut : Bool) (waits : Option ℕ) → is_closed machine.log session ≡ shut
    → outstanding machine.log session ≡ waits → IsOpened machine.log session → IsAtRest machine
    → IsAtRest (closed machine name (closing_by machine.log session shut waits) (closing_by machine.log session shut waits).answer).machine
closed_rests machine name session true waits is also opened rest = rest
closed_rests machine name session false (Some call) is also opened rest = rest
closed_rests machine name session false None is also opened rest =
    rests_event machine (Close session) tt (record { opened = opened; unclosed = is; none_waits = also }) rest

-- so it is with each session
closing_rests : (machine : Machine) (name : List ℕ) (place : Option ℕ) → session_place machine.log name ≡ place → IsAtRest machine
    → IsAtRest (closes machine name place).machine
closing_rests machine name None is rest = rest
closing_rests machine name (Some place) is rest =
    let within = place_within (bytes_eq name) (sessions machine.log) place is in
    closed_rests machine name (place + 1) (is_closed machine.log (place + 1)) (outstanding machine.log (place + 1)) refl refl
    (record { from_one = omega arith; there = omega (arith, within) }) rest

pub closes_rests : (machine : Machine) (name : List ℕ) → IsAtRest machine
    → IsAtRest (closes machine name (session_place machine.log name)).machine
closes_rests machine name rest = closing_rests machine name (session_place machine.log name) refl rest

-- ---- clusters

-- a cluster is added under a new name, where there is room
abbrev adding_by : Log → List ℕ → Bool → Bool → Given ℕ ReplicaRefusal
adding_by log name taken full =
    cond taken (refuses IsTaken) (cond full (refuses (TooManyOf most_clusters)) (gives log (Cluster name) (length (clusters log))))

added_by : (machine : Machine) (name : List ℕ) (taken full : Bool) → list_any (bytes_eq name) (clusters machine.log) ≡ taken
    → nat_le most_clusters (length (clusters machine.log)) ≡ full → IsAtRest machine
    → IsAtRest (added machine name (adding_by machine.log name taken full) (adding_by machine.log name taken full).answer).machine
added_by machine name true full is also rest = rest
added_by machine name false true is also rest = rest
added_by machine name false false is also rest =
    let room = leb-false most_clusters (length (clusters machine.log)) also in
    rests_event machine (Cluster name) tt (record { new_name = is; room = room }) rest

pub added_rests : (machine : Machine) (name : List ℕ) → IsAtRest machine
    → IsAtRest (added machine name (add_cluster_given machine.log name) (add_cluster_given machine.log name).answer).machine
added_rests machine name rest =
    added_by machine name (list_any (bytes_eq name) (clusters machine.log)) (nat_le most_clusters (length (clusters machine.log))) refl refl rest

-- ---- holds

-- a member that passes a test is one that does
any_has : (test : Hold → Bool) (hold : Hold) (hs : List Hold) → Has hold hs → test hold ≡ true → list_any test hs ≡ true
any_has test hold [] there e = elim there [ ]
any_has test hold (h ∷ hs) (inl same) e = or_left (test h) (list_any test hs) (ap test same ∙ e)
any_has test hold (h ∷ hs) (inr later) e = or_right (test h) (list_any test hs) (any_has test hold hs later e)

-- a live hold that no BEGIN took is the only one of its number
record IsOwn (log : Log) (number : ℕ) (hold : Hold) : Type 0 where
  same : hold.number ≡ number
  live : IsLive log number
  only : Each (λ other. other.number ≡ number → other ≡ hold) (holds log)
  free : hold.owner ≡ None

own_hold : (log : Log) (number : ℕ) (hold : Hold) → Legal log → free_hold log number ≡ Some hold → IsOwn log number hold
own_hold log number hold l is =
    let there = found (λ live. (live.number == number) && is_none live.owner) (holds log) hold is in
    let parts = and_parts (hold.number == number) (is_none hold.owner) there.0 in
    let same = eqb-true hold.number number parts.0 in record {
      same = same;
      live = any_has (λ live. live.number == number) hold (holds log) there.1 parts.0;
      only = each_of (λ other. other.number ≡ hold.number → other ≡ hold) (λ other. other.number ≡ number → other ≡ hold)
          (λ other p e. p (e ∙ sym same)) (holds log)
          (each_has (λ x. Each (λ other. other.number ≡ x.number → other ≡ x) (holds log)) hold (holds log)
          (only_each (λ h. h.number) (holds log) (holds_rise log l).rise) there.1);
      free = none_of hold.owner parts.1;
    }

-- no BEGIN took any of its number
is_free : (log : Log) (number : ℕ) (hold : Hold) → IsOwn log number hold → IsFree log number
is_free log number hold own =
    each_of (λ other. other.number ≡ number → other ≡ hold) (λ other. other.number ≡ number → other.owner ≡ None)
    (λ other p e. ap (λ h. h.owner) (p e) ∙ own.free) (holds log) own.only

-- it may be given back
back_rests : (machine : Machine) (number : ℕ) (hold : Option Hold) → free_hold machine.log number ≡ hold → IsAtRest machine
    → IsAtRest (gives_back machine number hold).machine
back_rests machine number None is rest = rest
back_rests machine number (Some hold) is rest =
    let own = own_hold machine.log number hold rest.legal is in
    rests_event machine (Release number) tt (record { live = own.live; free = λ _. is_free machine.log number hold own }) rest

pub gives_back_rests : (machine : Machine) (number : ℕ) → IsAtRest machine → IsAtRest (gives_back machine number (free_hold machine.log number)).machine
gives_back_rests machine number rest = back_rests machine number (free_hold machine.log number) refl rest

-- or moved on, up to the read time
abbrev moving_by : Log → Hold → ℕ → Bool → Bool → Given ⊤ Refusal
moving_by log hold time below late =
    gives_or_refuses log (refused_if below (refusal.BelowHold hold.time time) >>= λ _. refused_if late (refusal.AfterRead time (read_time log))
    >>= λ _. Ok (Down hold.number time, tt))

may_move : (log : Log) (number time : ℕ) (hold : Hold) → IsOwn log number hold → hold.time ≤ time → time ≤ read_time log
    → MayMove log number time
may_move log number time hold own forward readable = record {
  live = own.live;
  free = is_free log number hold own;
  forward = each_of (λ other. other.number ≡ number → other ≡ hold) (λ other. other.number ≡ number → other.time ≤ time)
      (λ other p e. omega (arith, ap (λ h. h.time) (p e), forward)) (holds log) own.only;
  readable = readable;
}

moved_by : (machine : Machine) (number time : ℕ) (hold : Hold) (below late : Bool) → nat_lt time hold.time ≡ below
    → nat_lt (read_time machine.log) time ≡ late → IsOwn machine.log number hold → IsAtRest machine
    → IsAtRest (moved machine hold time (moving_by machine.log hold time below late) (moving_by machine.log hold time below late).answer).machine
moved_by machine number time hold true late is also own rest = rest
moved_by machine number time hold false true is also own rest = rest
moved_by machine number time hold false false is also own rest =
    let forward = ltb-false time hold.time is in
    let readable = ltb-false (read_time machine.log) time also in
    rests_event machine (Down hold.number time) tt
    (subst (λ n. MayMove machine.log n time) (sym own.same) (may_move machine.log number time hold own (omega (arith, forward)) (omega (arith, readable)))) rest

moving_rests : (machine : Machine) (number time : ℕ) (hold : Option Hold) → free_hold machine.log number ≡ hold → IsAtRest machine
    → IsAtRest (moves_hold machine number time hold).machine
moving_rests machine number time None is rest = rest
moving_rests machine number time (Some hold) is rest =
    moved_by machine number time hold (nat_lt time hold.time) (nat_lt (read_time machine.log) time) refl refl
    (own_hold machine.log number hold rest.legal is) rest

pub moves_rests : (machine : Machine) (number time : ℕ) → IsAtRest machine
    → IsAtRest (moves_hold machine number time (free_hold machine.log number)).machine
moves_rests machine number time rest = moving_rests machine number time (free_hold machine.log number) refl rest
