-- What entries make of calls: one with no reply gets one, and its time moves at most with a round.
use Rattle.std.proofs.Common.{◌≡◌, ◌⊎◌, ℕ, true, false, ◌&&◌, List, find, Option, Some, None, refl, sym, subst, inl, inr}
use Rattle.std.proofs.lemmas.Bool.{both_ways, cond_both, and_parts}
use Rattle.mz_bag.specs.Weighted.{Weighted}
use Rattle.mz_log.specs.declared.entry.Replied.{Replied}
use Rattle.mz_log.specs.declared.reply.Reply.{Reply}
use Rattle.mz_log.specs.declared.reply.Reply.TheVariants as reply
use Rattle.mz_books.specs.Entries.{is_reply_to}
use Rattle.mz_books.specs.Calls.{Call, awaits, ended, finished, is_call, is_waiting, replied_by, replied_in, with_reply}

-- a call with no reply that has got one, at a time that it may have
pub record Got (May : Call → ℕ → Type 0) (before now : Call) : Type 0 where
  pub time : ℕ
  pub told : Reply
  pub waits : is_waiting before ≡ true
  pub may : May before time
  pub is : now ≡ with_reply time told before

-- the call as it was, or with its reply
abbrev pub IsReplied : (Call → ℕ → Type 0) → Call → Call → Type 0
IsReplied May before now = (now ≡ before) ⊎ Got May before now

-- it may have its own time
abbrev pub MayStay : (Call → ℕ → Type 0) → Type 0
MayStay May = (c : Call) → May c c.stored.time

-- a peek gives a reply
pub finished_is : (May : Call → ℕ → Type 0) → MayStay May → (peek : ℕ) (rows : Weighted) (c : Call)
    → IsReplied May c (finished peek rows c)
finished_is May stay peek rows c =
    cond_both (awaits peek c) (with_reply c.stored.time (reply.Rows c.stored.time rows) c) c (IsReplied May c)
    (λ test. inr (record {
      time = c.stored.time;
      told = reply.Rows c.stored.time rows;
      waits = (and_parts _ (is_waiting c) test).1;
      may = stay c;
      is = refl;
    }))
    (λ _. inl refl)

-- so does an end
pub ended_is : (May : Call → ℕ → Type 0) → MayStay May → (session number : ℕ) (reply_at : ℕ → Reply) (c : Call)
    → IsReplied May c (ended session number reply_at c)
ended_is May stay session number reply_at c =
    cond_both (is_call session number c && is_waiting c) (with_reply c.stored.time (reply_at c.stored.time) c) c (IsReplied May c)
    (λ test. inr (record {
      time = c.stored.time;
      told = reply_at c.stored.time;
      waits = (and_parts (is_call session number c) (is_waiting c) test).1;
      may = stay c;
      is = refl;
    }))
    (λ _. inl refl)

-- what a round gives, where it gives something
by_round : (May : Call → ℕ → Type 0) (time : ℕ) (c : Call) (given : Option Replied) → is_waiting c ≡ true
    → ((told : Replied) → given ≡ Some told → May c time) → IsReplied May c (replied_by time given c)
by_round May time c None waits may = inl refl
by_round May time c (Some told) waits may =
    inr (record { time = time; told = reply.Command told.reply; waits = waits; may = may told refl; is = refl })

-- and so does a round
pub replied_is : (May : Call → ℕ → Type 0) (time : ℕ) (replies : List Replied) (c : Call)
    → (is_waiting c ≡ true → (told : Replied) → find (is_reply_to c.stored.session c.stored.call) replies ≡ Some told → May c time)
    → IsReplied May c (replied_in time replies c)
replied_is May time replies c may =
    cond_both (is_waiting c) (replied_by time (find (is_reply_to c.stored.session c.stored.call) replies) c) c (IsReplied May c)
    (λ waits. by_round May time c (find (is_reply_to c.stored.session c.stored.call) replies) waits (may waits))
    (λ _. inl refl)

-- what holds of the call, and of it with a reply at each time that it may have
pub replied_keeps : (May : Call → ℕ → Type 0) (P : Call → Type 0) (before now : Call) → IsReplied May before now → P before
    → ((time : ℕ) (told : Reply) → is_waiting before ≡ true → May before time → P (with_reply time told before)) → P now
replied_keeps May P before now (inl same) p q = subst P (sym same) p
replied_keeps May P before now (inr got) p q = subst P (sym got.is) (q got.time got.told got.waits got.may)

-- what stays of a call that may have got its reply
pub record Stays (before now : Call) : Type 0 where
  pub session : now.stored.session ≡ before.stored.session
  pub number : now.stored.call ≡ before.stored.call
  pub peek : now.peek ≡ before.peek
  pub statement : now.statement ≡ before.statement
  pub cluster : now.cluster ≡ before.cluster
  pub done : is_waiting before ≡ false → now ≡ before

-- all but its time and its reply, and with a reply all
pub stays : (May : Call → ℕ → Type 0) (before now : Call) → IsReplied May before now → Stays before now
stays May before now is =
    replied_keeps May (λ c. Stays before c) before now is
    (record { session = refl; number = refl; peek = refl; statement = refl; cluster = refl; done = λ _. refl })
    (λ time told waits may. record {
      session = refl;
      number = refl;
      peek = refl;
      statement = refl;
      cluster = refl;
      done = λ replied. absurd (both_ways (is_waiting before) replied waits);
    })
