use Rattle.std.proofs.Common.{subst}
use Rattle.mz_grammar.specs.declared.asked.Asked.TheVariants.{Statement, Syntax, LiteralRange}
use Rattle.mz_grammar.specs.Faults.{IsParseFault}
use Rattle.mz_sql.proofs.AskedLemmas.{asked_is}
use Rattle.mz_sql.proofs.request.ask.Goals as goal

-- the text spells the statement
pub returns-in-Ok : goal.returns-in-Ok
returns-in-Ok c = asked_is c.args.text.now (Statement c.in-Ok.statement) c.in-Ok.ensures.ok

-- the fault is the text's
pub returns-in-Err-Syntax : goal.returns-in-Err-Syntax
returns-in-Err-Syntax c =
    asked_is c.args.text.now (Syntax c.in-Err-Syntax.at)
    (subst (IsParseFault c.args.text.now) c.in-Err-Syntax.field-0-is c.in-Err-Syntax.ensures.fault)

-- and so is this one
pub returns-in-Err-LiteralRange : goal.returns-in-Err-LiteralRange
returns-in-Err-LiteralRange c =
    asked_is c.args.text.now (LiteralRange c.in-Err-LiteralRange.at)
    (subst (IsParseFault c.args.text.now) c.in-Err-LiteralRange.field-0-is c.in-Err-LiteralRange.ensures.fault)
