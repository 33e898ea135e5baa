use Rattle.std.proofs.Common.{◌∙◌, ap, map, string_bytes, subst, sym}
use Rattle.std.specs.Prelude.{Some}
use Rattle.roc_cli_words.specs.Answer.{AreWordsOf}
use Rattle.roc_cli_words.specs.Commands.{command_with}
use Rattle.roc_cli_words.proofs.Taken.{asked, no_value, never_nothing, valueless}
use Rattle.roc_cli_words.proofs.answer.ask.Goals as goal

pub returns-in-Some-Ok-clause-answers : goal.returns-in-Some-Ok-clause-answers
returns-in-Some-Ok-clause-answers c =
    subst (λ logs. AreWordsOf (map string_bytes c.args.words.now) (command_with logs c.in-Some-Ok.ask)) (sym c.logs_by.ensures.names)
    (asked (map string_bytes c.args.words.now) c.in-Ok.matches _ c.asked_by.result c.in-Ok.ensures c.asked_by.ensures.command c.in-Some-Ok.ask
    (c.in-Some-Ok.is ∙ ap Some c.in-Some-Ok.field-0-is))

pub returns-in-Some-Err-clause-answers : goal.returns-in-Some-Err-clause-answers
returns-in-Some-Err-clause-answers c = no_value (map string_bytes c.args.words.now) c.in-Ok.matches _ c.asked_by.result c.in-Ok.ensures c.asked_by.ensures.command c.in-Some-Err.name
    (c.in-Some-Err.is ∙ ap Some c.in-Some-Err.field-0-is)

pub returns-in-Some-Err-clause-refuses : goal.returns-in-Some-Err-clause-refuses
returns-in-Some-Err-clause-refuses c =
    valueless (map string_bytes c.args.words.now) c.in-Some-Err.name
    (no_value (map string_bytes c.args.words.now) c.in-Ok.matches _ c.asked_by.result c.in-Ok.ensures c.asked_by.ensures.command c.in-Some-Err.name
    (c.in-Some-Err.is ∙ ap Some c.in-Some-Err.field-0-is))

pub unreachable-requires : goal.unreachable-requires
unreachable-requires c = never_nothing (map string_bytes c.args.words.now) c.in-Ok.matches _ c.asked_by.result c.in-Ok.ensures c.asked_by.ensures.command c.in-None.is
