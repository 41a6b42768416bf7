-- A round's own calls: its commands, one after another, each with its reply.
use Rattle.std.proofs.Common.{◌≡◌, ◌⊎◌, ℕ, Bool, true, false, ◌==◌, List, [], ◌∷◌, ◌++◌, find, Option, Some, None, is_none, is_some, IfSome, refl, sym, ap, ◌∙◌, subst, inl, inr, true≢false}
use Rattle.std.proofs.lemmas.Bool.{cond-true, cond-false, eq-eqb, and_left, and_parts}
use Rattle.std.specs.List.{AllByRecursion as Each}
use Rattle.mz_plan_laws.proofs.TypedValues.{each_weaker}
use Rattle.mz_statement.specs.Kind.{kind_of}
use Rattle.mz_statement.specs.declared.statement.Statement.{Statement}
use Rattle.mz_log.specs.declared.entry.Replied.{Replied}
use Rattle.mz_log.specs.declared.reply.Reply.TheVariants as reply
use Rattle.mz_log.specs.Log.{Log}
use Rattle.mz_books.specs.Entries.{Queued, is_reply_to}
use Rattle.mz_books.specs.Clusters.{cluster_of}
use Rattle.mz_books.specs.Calls.{Call, is_waiting, replied_in, with_reply}
use Rattle.mz_log.specs.CarriedOut.{Response, Command, Rows, seq}
use Rattle.mz_books.specs.History.{IsToldIn, after_statement}
use Rattle.mz_log.specs.Sequential.{Sequential}
use Rattle.mz_books.specs.States.{replies_to, round_reply}
use Rattle.mz_state_laws.specs.Kinds.{is_read, is_rows}
use Rattle.mz_state_laws.proofs.KindLaws.{replies_told}
use Rattle.mz_call_laws.specs.Calls.{Precedes}
use Rattle.mz_call_laws.specs.Waiting.{asked_of_round, command_of, commands_in, is_command}
use Rattle.mz_call_laws.proofs.Front.{none_asked}
use Rattle.mz_call_laws.proofs.Options.{none_of}
use Rattle.mz_call_laws.proofs.Transactions.{none_told, round_leaves}
use Rattle.mz_replay_laws.proofs.Reaches.{Reaches, elsewhere}
use Rattle.mz_replay_laws.proofs.Usual.{IsUsual}

-- none of the replies is to the session
abbrev pub NoneFor : ℕ → List Replied → Type 0
NoneFor session replies = Each (λ replied. (replied.session == session) ≡ false) replies

-- so the search for one to a call of it goes on behind them
pub find_past : (session number : ℕ) (some more : List Replied) → NoneFor session some
    → find (is_reply_to session number) (some ++ more) ≡ find (is_reply_to session number) more
find_past session number [] more h = refl
find_past session number (replied ∷ some) more h =
    cond-false _ _ _ (and_left (replied.session == session) (replied.call == number) h.0) ∙ find_past session number some more h.1

-- ---- one call

-- a call is a command that waits
pub record IsAsking (c : Call) : Type 0 where
  pub statement : Statement
  pub says : c.statement ≡ Some statement
  pub no_peek : c.peek ≡ None
  pub waits : is_waiting c ≡ true
  pub command : command_of c ≡ record { session = c.stored.session; call = c.stored.call; statement = statement } ∷ []

-- it is, or a round sees nothing of it
pub asking : (c : Call) → (command_of c ≡ []) ⊎ IsAsking c
asking c = by (is_command c) refl c.statement refl
  where
    by : (b : Bool) → is_command c ≡ b → (said : Option Statement) → c.statement ≡ said → (command_of c ≡ []) ⊎ IsAsking c
    by false test said is = inl (cond-false _ _ _ test)
    by true test None is = inl (cond-true _ _ _ test ∙ ap (asked_of_round c.stored.session c.stored.call) is)
    by true test (Some statement) is =
        let parts = and_parts (is_none c.peek) (is_waiting c) test in
        inr (record {
          statement = statement;
          says = is;
          no_peek = none_of c.peek parts.0;
          waits = parts.1;
          command = cond-true _ _ _ test ∙ ap (asked_of_round c.stored.session c.stored.call) is;
        })

-- a call that a round leaves, and that isn't of its time
pub left_first : (w : ℕ) (end state : Sequential) (c d : Call) (ds : List Call) → (c.stored.time ≡ w → ⊥) → d ≡ c → Reaches w end state ds
    → Reaches w end state (d ∷ ds)
left_first w end state c d ds other same r =
    subst (λ x. Reaches w end state (x ∷ ds)) (sym same)
    ((λ own. absurd (other own)), subst (λ s. Reaches w end s ds) (sym (elsewhere w state c other)) r)

-- what isn't told rows is told what the round replies
told_reply : (told : Response) → is_rows told ≡ false → told ≡ Command (round_reply told)
told_reply (Command told) h = refl
told_reply (Rows rows) h = absurd (true≢false h)

-- a command that gets its reply
pub replied_first : (w : ℕ) (end state : Sequential) (c : Call) (k : IsAsking c) (ds : List Call) → IsUsual c.peek c.statement c.cluster
    → Reaches w end (seq state 0 k.statement).state ds
    → Reaches w end state (with_reply w (reply.Command (round_reply (seq state 0 k.statement).response)) c ∷ ds)
replied_first w end state c k ds usual r =
    let told = round_reply (seq state 0 k.statement).response in
    let no_rows : is_read (kind_of k.statement) ≡ false =
    subst (λ said. IfSome said (λ statement. is_read (kind_of statement) ≡ false)) k.says (usual.1 k.no_peek) in
    let own : (seq state 0 k.statement).response ≡ Command told =
    told_reply (seq state 0 k.statement).response (replies_told state 0 k.statement no_rows) in
    let leads : after_statement state c.cluster c.statement ≡ (seq state 0 k.statement).state =
    λ i. after_statement state (usual.0 i) (k.says i) in (
      (λ _. record {
        told = subst (λ said. IsToldIn state c.cluster said (Command told)) (sym k.says)
            (subst (λ cluster. (seq state cluster k.statement).response ≡ Command told) (sym usual.0) own);
        last = λ some. absurd (true≢false (sym some ∙ ap is_some k.no_peek));
      }),
      subst (λ s. Reaches w end s ds) (sym (cond-true _ _ _ (eq-eqb w w refl) ∙ leads)) r,
    )

-- a call of a session that none of the replies is to, nor any of those that come, is left
pub left_alone : (w : ℕ) (log : Log) (state : Sequential) (some : List Replied) (ms : List Queued) (c : Call) (cs : List Call)
    → NoneFor c.stored.session some → Each (λ m. (m.session == c.stored.session) ≡ false) ms
    → replied_in w (some ++ replies_to (cluster_of log) state ms) c ≡ c
left_alone w log state some ms c cs none other =
    round_leaves w (some ++ replies_to (cluster_of log) state ms) c
    (find_past c.stored.session c.stored.call some (replies_to (cluster_of log) state ms) none
    ∙ none_told (cluster_of log) state ms c.stored.session c.stored.call other)

-- and one that has its reply
pub left_replied : (w : ℕ) (replies : List Replied) (c : Call) → is_waiting c ≡ false → replied_in w replies c ≡ c
left_replied w replies c replied = cond-false _ _ _ replied

-- the first of two lists of commands
pub first_of_both : (session : ℕ) (ms rest : List Queued) → Each (λ m. (m.session == session) ≡ false) (ms ++ rest)
    → Each (λ m. (m.session == session) ≡ false) ms
first_of_both session [] rest h = tt
first_of_both session (m ∷ ms) rest h = (h.0, first_of_both session ms rest h.1)

-- calls behind one that waits are of other sessions
pub others_behind : (c : Call) (cs : List Call) → is_waiting c ≡ true → Each (Precedes c) cs → Each (λ d. c.stored.session ≡ d.stored.session → ⊥) cs
others_behind c cs waits p =
    each_weaker (Precedes c) (λ d. c.stored.session ≡ d.stored.session → ⊥) (λ d k own. true≢false (sym waits ∙ k.replied own)) cs p

-- so none of the commands behind it is of its session
pub none_behind : (c : Call) (cs : List Call) → is_waiting c ≡ true → Each (Precedes c) cs
    → Each (λ m. (m.session == c.stored.session) ≡ false) (commands_in cs)
none_behind c cs waits p =
    none_asked c.stored.session cs
    (each_weaker (λ d. c.stored.session ≡ d.stored.session → ⊥) (λ d. d.stored.session ≡ c.stored.session → is_waiting d ≡ false)
    (λ d other own. absurd (other (sym own))) cs (others_behind c cs waits p))
