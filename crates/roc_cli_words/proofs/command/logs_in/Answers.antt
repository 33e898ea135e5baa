use Rattle.std.proofs.Common.{◌∙◌, ap, [], codes}
use Rattle.std.specs.Prelude.{take, unwrap_or}
use Rattle.clap.specs.Words.{found_of}
use Rattle.clap.proofs.WalkLemmas.{raw_values-rows}
use Rattle.roc_cli_words.specs.Commands.{most_logs}
use Rattle.roc_cli_words.proofs.command.logs_in.Goals as goal

pub returns-in-Some : goal.returns-in-Some
returns-in-Some c =
    c.first_names.ensures ∙ ap (λ o. take most_logs (unwrap_or o [])) (c.in-Some.ensures ∙ raw_values-rows (found_of c.args.given.now) (codes "logs"))

pub returns-in-None : goal.returns-in-None
returns-in-None c =
    c.no_names.ensures ∙ ap (λ o. take most_logs (unwrap_or o [])) (c.in-None.ensures ∙ raw_values-rows (found_of c.args.given.now) (codes "logs"))
