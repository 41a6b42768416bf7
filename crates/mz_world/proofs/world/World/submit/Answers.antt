-- a session is told what became of its call, or that it made none
use Rattle.std.proofs.Common.{◌∙◌, ◌++◌, ap, refl, rules, string_bytes}
use Rattle.mz_script.specs.EventTexts.{refused_text}
use Rattle.mz_books.specs.Answer.{answer}
use Rattle.mz_world.proofs.Calling.{on_ok_then}
use Rattle.mz_world.proofs.Submissions.{refused_by, refused_carried, told_carried}
use Rattle.mz_world.proofs.world.World.submit.Goals as goal

pub returns-in-Ok-clause-carries : goal.returns-in-Ok-clause-carries
returns-in-Ok-clause-carries g c =
    on_ok_then _ _ c.write_submitted.result c.write_submitted.ensures (λ text said asks machine is_of.
    told_carried c.args.self.now _ machine c.args.name.now _ _ c.in-Ok.told (answer machine.log c.args.session said c.args.asked) is_of
    (record { moment = refl; lines = refl }) (c.in-Ok.ensures machine.log said is_of.core asks) text)

pub returns-in-Err-Refused-clause-carries : goal.returns-in-Err-Refused-clause-carries
returns-in-Err-Refused-clause-carries g c =
    on_ok_then _ _ c.write_refused.result c.write_refused.ensures (λ text said asks machine is_of.
    refused_carried c.args.self.now _ machine c.args.name.now _ _ c.in-Err-Refused.refusal (answer machine.log c.args.session said c.args.asked) is_of
    (record { moment = refl; lines = refl })
    (refused_by machine.log _ _ c.in-Err-Refused.field-0 c.in-Err-Refused.refusal (search rules)
    (c.in-Err-Refused.ensures machine.log said is_of.core asks))
    (text ∙ ap (λ own. string_bytes c.args.text.now ++ refused_text own c.in-Err-Refused.refusal) c.as_str.ensures.text))
