-- Of two calls in a legal log the second was submitted after the first.
use Rattle.std.proofs.Common.{◌≡◌, ℕ, ◌<◌, ◌≤◌, ◌+◌, false, true, [], ◌∷◌, Some, sym, ap, ◌∙◌, subst, inl, inr, arith}
use Rattle.std.specs.List.{AllByRecursion as Each}
use Rattle.std.proofs.lemmas.Bool.{both_ways}
use Rattle.mz_rules.proofs.Each.{each_both}
use Rattle.mz_log.specs.Log.{Log}
use Rattle.mz_books.specs.Holds.{peeks_made}
use Rattle.mz_books.specs.Calls.{Call, calls, is_waiting}
use Rattle.mz_books.specs.Sessions.{calls_made}
use Rattle.mz_books.specs.Legal.{Legal}
use Rattle.mz_call_laws.specs.Calls.{Precedes}
use Rattle.mz_call_laws.specs.Members.{Has, Pairwise}
use Rattle.mz_call_laws.proofs.Lists.{either_order, pairwise_map, pairwise_one}
use Rattle.mz_call_laws.proofs.Replied.{IsReplied, replied_keeps, stays}
use Rattle.mz_call_laws.proofs.NewCalls.{IsNew}
use Rattle.mz_call_laws.proofs.Goes.{NotBefore, goes}
use Rattle.mz_call_laws.proofs.Numbers.{numbers_within}
use Rattle.mz_call_laws.proofs.Peeks.{PeekWithin, peeks_within}

-- no call's time falls as it gets its reply
pub no_earlier : (before now : Call) → IsReplied NotBefore before now → before.stored.time ≤ now.stored.time
no_earlier before now is =
    replied_keeps NotBefore (λ c. before.stored.time ≤ c.stored.time) before now is (omega arith) (λ time told waits may. may)

-- two calls, each of which may have got its reply
precedes_replied : (c d c_now d_now : Call) → IsReplied NotBefore c c_now → IsReplied NotBefore d d_now → Precedes c d → Precedes c_now d_now
precedes_replied c d c_now d_now first second p =
    let cs = stays NotBefore c c_now first in
    let ds = stays NotBefore d d_now second in
    let same : c_now.stored.session ≡ d_now.stored.session → c.stored.session ≡ d.stored.session = λ own. sym cs.session ∙ own ∙ ds.session in
    record {
      numbered = λ own.
          let less = p.numbered (same own) in
          let first_number = cs.number in
          let second_number = ds.number in omega arith;
      replied = λ own. ap is_waiting (cs.done (p.replied (same own))) ∙ p.replied (same own);
      no_later = λ own.
          let less = p.no_later (same own) in
          let first_time = ap (λ x. x.stored.time) (cs.done (p.replied (same own))) in
          let second_time = no_earlier d d_now second in omega arith;
      peeks = λ peek other some also. p.peeks peek other (sym cs.peek ∙ some) (sym ds.peek ∙ also);
    }

-- a new call comes after all others
precedes_new : (log : Log) → Legal log → (c : Call) → IsNew log c → Each (λ d. Precedes d c) (calls log)
precedes_new log l c new =
    let session = c.stored.session in
    let facts = each_both _ _ (λ d. (d.stored.session ≡ session → d.stored.call < 1 + calls_made log session) × PeekWithin (peeks_made log) d)
    (λ d h k. (h, k)) (calls log) (numbers_within log l session) (peeks_within log l) in
    let more = each_both _ _ (λ d. (d.stored.session ≡ session → is_waiting d ≡ false) × (d.stored.session ≡ session → d.stored.time ≤ c.stored.time))
    (λ d h k. (h, k)) (calls log) new.free new.no_earlier in
    each_both _ _ (λ d. Precedes d c)
    (λ d h k. record {
      numbered = λ own. let within = h.0 own in let next = new.next in omega arith;
      replied = k.0;
      no_later = k.1;
      peeks = λ peek other some also. let within = (h.1 peek some).1 in let next = new.peeks other also in omega arith;
    })
    (calls log) facts more

-- so each call precedes those after it
pub precedes : (log : Log) → Legal log → Pairwise Precedes (calls log)
precedes [] l = tt
precedes (entry ∷ log) l = elim (goes entry log l) [
  | inl changed ↦ subst (Pairwise Precedes) (sym changed.is)
      (pairwise_map Precedes Precedes (λ c. IsReplied NotBefore c (changed.change c)) changed.change
      (λ c d first second p. precedes_replied c d (changed.change c) (changed.change d) first second p) (calls log) changed.each (precedes log l.0))
  | inr more ↦ subst (Pairwise Precedes) (sym more.is)
      (pairwise_one Precedes (calls log) more.call (precedes log l.0) (precedes_new log l.0 more.call more.new))
]

-- two calls of one session that wait are one
pub one_waits : (log : Log) → Legal log → (c d : Call) → Has c (calls log) → Has d (calls log) → c.stored.session ≡ d.stored.session
    → is_waiting c ≡ true → is_waiting d ≡ true → c ≡ d
one_waits log l c d first second own waits also = elim (either_order Precedes (calls log) c d (precedes log l) first second) [
  | inl same ↦ same
  | inr (inl before) ↦ absurd (both_ways (is_waiting c) (before.replied own) waits)
  | inr (inr after) ↦ absurd (both_ways (is_waiting d) (after.replied (sym own)) also)
]

-- two calls of one session and number are one
pub one_number : (log : Log) → Legal log → (c d : Call) → Has c (calls log) → Has d (calls log) → c.stored.session ≡ d.stored.session
    → c.stored.call ≡ d.stored.call → c ≡ d
one_number log l c d first second own number = elim (either_order Precedes (calls log) c d (precedes log l) first second) [
  | inl same ↦ same
  | inr (inl before) ↦ let less = before.numbered own in absurd (omega arith)
  | inr (inr after) ↦ let less = after.numbered (sym own) in absurd (omega arith)
]

-- two reads of one peek are one
pub one_peek : (log : Log) → Legal log → (c d : Call) (peek : ℕ) → Has c (calls log) → Has d (calls log) → c.peek ≡ Some peek
    → d.peek ≡ Some peek → c ≡ d
one_peek log l c d peek first second own also = elim (either_order Precedes (calls log) c d (precedes log l) first second) [
  | inl same ↦ same
  | inr (inl before) ↦ let less = before.peeks peek peek own also in absurd (omega arith)
  | inr (inr after) ↦ let less = after.peeks peek peek also own in absurd (omega arith)
]
