-- A round's own bucket: its commands in order lead from the state before it to the state after it.
use Rattle.std.proofs.Common.{◌≡◌, ℕ, true, false, ◌==◌, List, [], ◌∷◌, ◌++◌, map, find, Some, refl, sym, ap, ◌∙◌, subst, inl, inr, append_assoc}
use Rattle.std.proofs.lemmas.Bool.{cases_Bool, cond-true, eq-eqb, ne_eqb, and_from}
use Rattle.std.specs.List.{AllByRecursion as Each}
use Rattle.mz_plan_laws.proofs.TypedValues.{each_append, each_weaker}
use Rattle.mz_log.specs.declared.entry.Replied.{Replied}
use Rattle.mz_log.specs.declared.reply.Reply.TheVariants as reply
use Rattle.mz_log.specs.Log.{Log}
use Rattle.mz_books.specs.Entries.{Queued, is_reply_to}
use Rattle.mz_books.specs.Clusters.{cluster_of}
use Rattle.mz_books.specs.Calls.{Call, is_waiting, replied_by, replied_in, with_reply}
use Rattle.mz_log.specs.CarriedOut.{seq}
use Rattle.mz_log.specs.Sequential.{Sequential}
use Rattle.mz_books.specs.States.{after_replies, replies_to, round_reply}
use Rattle.mz_call_laws.specs.Calls.{Precedes}
use Rattle.mz_call_laws.specs.Members.{Pairwise}
use Rattle.mz_call_laws.specs.Waiting.{command_of, commands_in}
use Rattle.mz_replay_laws.proofs.Lists.{each_both}
use Rattle.mz_replay_laws.proofs.Reaches.{Reaches}
use Rattle.mz_replay_laws.proofs.RoundCalls.{IsAsking, NoneFor, asking, find_past, first_of_both, left_alone, left_first, left_replied, none_behind, others_behind, replied_first}
use Rattle.mz_replay_laws.proofs.SaidCalls.{EachSaid}
use Rattle.mz_replay_laws.proofs.Usual.{IsUsual}

-- none of the replies is to a session of which a call waits
abbrev pub NoneWaitFor : List Replied → List Call → Type 0
NoneWaitFor some cs = Each (λ c. is_waiting c ≡ true → NoneFor c.stored.session some) cs

-- behind some replies, none of which is to a call that waits, those to these commands lead the calls on
abbrev pub Leads : ℕ → Log → List Replied → List Call → Sequential → List Replied → List Queued → Type 0
Leads w log replies cs state some ms =
    (rest : List Queued) → replies ≡ some ++ replies_to (cluster_of log) state ms → NoneWaitFor some cs → commands_in cs ≡ ms ++ rest
    → Reaches w (after_replies (cluster_of log) state (replies_to (cluster_of log) state ms)) state (map (replied_in w replies) cs)

-- a call that isn't a command which waits
unasked : (w : ℕ) (log : Log) (replies : List Replied) (c : Call) (cs : List Call) (state : Sequential) (some : List Replied) (ms : List Queued)
    → command_of c ≡ [] → (c.stored.time ≡ w → ⊥) → Each (Precedes c) cs → Leads w log replies cs state some ms
    → Leads w log replies (c ∷ cs) state some ms
unasked w log replies c cs state some ms none other p go rest is a e =
    let others : commands_in cs ≡ ms ++ rest = sym (ap (λ l. l ++ commands_in cs) none) ∙ e in
    let left : replied_in w replies c ≡ c =
    elim (cases_Bool (is_waiting c)) [
      | inl waits ↦
          ap (λ given. replied_in w given c) is
          ∙ left_alone w log state some ms c cs (a.0 waits)
          (first_of_both c.stored.session ms rest
          (subst (Each (λ m. (m.session == c.stored.session) ≡ false)) others (none_behind c cs waits p)))
      | inr replied ↦ left_replied w replies c replied
    ] in
    left_first w (after_replies (cluster_of log) state (replies_to (cluster_of log) state ms)) state c (replied_in w replies c)
    (map (replied_in w replies) cs) other left (go rest is a.1 others)

-- a command that waits, and is the next of the round
own_step : (w : ℕ) (log : Log) (replies : List Replied) (c : Call) (cs : List Call) (state : Sequential) (some : List Replied) (ms rest : List Queued)
    → (k : IsAsking c) → Each (Precedes c) cs → IsUsual c.peek c.statement c.cluster
    → ((next : Sequential) (some : List Replied) → Leads w log replies cs next some ms)
    → NoneWaitFor some (c ∷ cs) → commands_in cs ≡ ms ++ rest → (first : Queued)
    → record { session = c.stored.session; call = c.stored.call; statement = k.statement } ≡ first
    → replies ≡ some ++ replies_to (cluster_of log) state (first ∷ ms)
    → Reaches w (after_replies (cluster_of log) state (replies_to (cluster_of log) state (first ∷ ms))) state (map (replied_in w replies) (c ∷ cs))
own_step w log replies c cs state some ms rest k p usual go a others first same =
    let own : Queued = record { session = c.stored.session; call = c.stored.call; statement = k.statement } in
    subst (λ m. replies ≡ some ++ replies_to (cluster_of log) state (m ∷ ms)
    → Reaches w (after_replies (cluster_of log) state (replies_to (cluster_of log) state (m ∷ ms))) state (map (replied_in w replies) (c ∷ cs))) same
    (λ is.
    let told : Replied = record {
      session = c.stored.session;
      call = c.stored.call;
      statement = k.statement;
      reply = round_reply (seq state 0 k.statement).response;
    } in
    let next = (seq state 0 k.statement).state in
    let later = replies_to (cluster_of log) next ms in
    let found : find (is_reply_to c.stored.session c.stored.call) replies ≡ Some told =
    ap (find (is_reply_to c.stored.session c.stored.call)) is
    ∙ find_past c.stored.session c.stored.call some (told ∷ later) (a.0 k.waits)
    ∙ cond-true _ _ _ (and_from _ _ (eq-eqb c.stored.session c.stored.session refl) (eq-eqb c.stored.call c.stored.call refl)) in
    let gets : replied_in w replies c ≡ with_reply w (reply.Command told.reply) c =
    cond-true _ _ _ k.waits ∙ ap (λ given. replied_by w given c) found in
    let none : NoneWaitFor (some ++ told ∷ []) cs =
    each_weaker (λ d. (is_waiting d ≡ true → NoneFor d.stored.session some) × (c.stored.session ≡ d.stored.session → ⊥))
    (λ d. is_waiting d ≡ true → NoneFor d.stored.session (some ++ told ∷ []))
    (λ d h waits. each_append (λ replied. (replied.session == d.stored.session) ≡ false) some (told ∷ []) (h.0 waits)
    (ne_eqb c.stored.session d.stored.session h.1, tt)) cs
    (each_both (λ d. is_waiting d ≡ true → NoneFor d.stored.session some) (λ d. c.stored.session ≡ d.stored.session → ⊥) cs a.1
    (others_behind c cs k.waits p)) in
    subst (λ d. Reaches w (after_replies (cluster_of log) next later) state (d ∷ map (replied_in w replies) cs)) (sym gets)
    (replied_first w (after_replies (cluster_of log) next later) state c k (map (replied_in w replies) cs) usual
    (go next (some ++ told ∷ []) rest (is ∙ sym (append_assoc some (told ∷ []) later)) none others)))

-- a command that waits, of the round or queued since
asked : (w : ℕ) (log : Log) (replies : List Replied) (c : Call) (cs : List Call) (state : Sequential) (some : List Replied) (ms : List Queued)
    → IsAsking c → (c.stored.time ≡ w → ⊥) → Each (Precedes c) cs → IsUsual c.peek c.statement c.cluster
    → ((next : Sequential) (some : List Replied) (ms : List Queued) → Leads w log replies cs next some ms)
    → Leads w log replies (c ∷ cs) state some ms
asked w log replies c cs state some [] k other p usual go rest is a e =
    left_first w state state c (replied_in w replies c) (map (replied_in w replies) cs) other
    (ap (λ given. replied_in w given c) is ∙ left_alone w log state some [] c cs (a.0 k.waits) tt)
    (go state some [] (commands_in cs) is a.1 refl)
asked w log replies c cs state some (m ∷ ms) k other p usual go rest is a e =
    let both : record { session = c.stored.session; call = c.stored.call; statement = k.statement } ∷ commands_in cs ≡ m ∷ (ms ++ rest) =
    sym (ap (λ l. l ++ commands_in cs) k.command) ∙ e in
    let same : record { session = c.stored.session; call = c.stored.call; statement = k.statement } ≡ m = cc in
    let others : commands_in cs ≡ ms ++ rest = cc in
    own_step w log replies c cs state some ms rest k p usual (λ next some. go next some ms) a others m same is

-- the calls of a log, where none is of the round's time
pub round_leads : (w : ℕ) (log : Log) (replies : List Replied) (cs : List Call) → Each (λ c. c.stored.time ≡ w → ⊥) cs → Pairwise Precedes cs
    → EachSaid IsUsual cs → (state : Sequential) (some : List Replied) (ms : List Queued) → Leads w log replies cs state some ms
round_leads w log replies [] n p u state some [] rest is a e = refl
round_leads w log replies [] n p u state some (m ∷ ms) rest is a e = absurd (cc)
round_leads w log replies (c ∷ cs) n p u state some ms rest is a e = elim (asking c) [
  | inl none ↦
      unasked w log replies c cs state some ms none n.0 p.0 (round_leads w log replies cs n.1 p.1 u.1 state some ms) rest is a e
  | inr k ↦ asked w log replies c cs state some ms k n.0 p.0 u.0 (round_leads w log replies cs n.1 p.1 u.1) rest is a e
]
