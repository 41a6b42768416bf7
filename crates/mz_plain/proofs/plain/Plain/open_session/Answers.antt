use Rattle.std.proofs.Common.{sym, ◌∙◌, arith}
use Rattle.mz_plain.specs.Stands.{kept}
use Rattle.mz_kept_laws.proofs.Opening.{many_did, opened_did, taken_did}
use Rattle.mz_plain.proofs.plain.Plain.open_session.Goals as goal

-- the name is that of a session
pub returns-then-contains : goal.returns-then-contains
returns-then-contains c = λ log s. taken_did (kept c.args.self.now) log c.args.name s (sym c.contains.ensures ∙ c.if-contains.true)

-- there are as many sessions as there may be
pub returns-then-len-ge-MOST_SESSIONS : goal.returns-then-len-ge-MOST_SESSIONS
returns-then-len-ge-MOST_SESSIONS c = λ log s.
    many_did (kept c.args.self.now) log c.args.name s (sym c.contains.ensures ∙ c.if-contains.false) (let own = c.len.ensures.len in omega (arith, own))

-- else one is opened
pub returns : goal.returns
returns c = λ log s.
    opened_did (kept c.args.self.now) (kept c.open.new.self) log c.args.name c.len-2.result s (sym c.contains.ensures ∙ c.if-contains.false)
    (let own = c.len.ensures.len in omega (arith, own)) c.in_ok-open.ensures.ok c.len-2.ensures.len
