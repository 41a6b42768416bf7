use Rattle.mz_sql.proofs.FormLemmas.{has_form, only_form, no_other_fault, no_place, place_found}
use Rattle.mz_sql.proofs.form.normalized.Goals as goal

-- what is printed is the form
pub returns-in-Ok-clause-form : goal.returns-in-Ok-clause-form
returns-in-Ok-clause-form c =
    has_form c.args.text.now c.in-Ok.statement c.form_of.result c.in-Ok.ensures.ok
    (c.spelled_is_statement.ensures c.args.text.now c.in-Ok.statement c.in-Ok.ensures.ok)
    c.form_of.ensures.form c.form_of.ensures.reads

-- and no other text is
pub returns-in-Ok-clause-only : goal.returns-in-Ok-clause-only
returns-in-Ok-clause-only c statement spelled some =
    only_form c.in-Ok.statement statement c.form_of.result (c.in-Ok.ensures.only statement spelled)
    c.form_of.ensures.form c.form_of.ensures.fault some

-- a text that spells a statement is refused for want of memory alone
pub returns-in-Err-clause-only : goal.returns-in-Err-clause-only
returns-in-Err-clause-only c statement spelled some =
    no_other_fault c.in-Err.fault statement (c.in-Err.ensures.only statement spelled) some

-- it has no fault
pub returns-in-Ok-clause-place : goal.returns-in-Ok-clause-place
returns-in-Ok-clause-place c fault is some made =
    no_place c.args.text.now c.in-Ok.statement fault c.form_of.result c.in-Ok.ensures.ok is some

-- and any other text has the fault that was found
pub returns-in-Err-clause-place : goal.returns-in-Err-clause-place
returns-in-Err-clause-place c fault is some made =
    place_found c.args.text.now c.in-Err.fault fault c.in-Err.ensures.fault is some made
