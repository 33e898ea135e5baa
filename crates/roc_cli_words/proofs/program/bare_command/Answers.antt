-- Each setting changes its own field.
use Rattle.std.proofs.Common.{◌∙◌, ap, true}
use Rattle.clap.specs.declared.builder.command.Command.{Command}
use Rattle.clap.specs.declared.builder.command.Command.TheOpen.{Command-F}
use Rattle.clap.specs.Words.{App}
use Rattle.clap.specs.Simple.{app_of_fields}
use Rattle.roc_cli_words.proofs.program.bare_command.Goals as goal

pub returns : goal.returns
returns c =
    let flags = ap (λ (f : Command-F Command). record f { disable_help_flag = true }) c.no_binary_name.ensures in
    let topics = ap (λ (f : Command-F Command). record f { disable_help_subcommand = true }) (c.disable_help_flag.ensures ∙ flags) in
    let required = ap (λ (f : Command-F Command). record f { subcommand_required = true }) (c.disable_help_subcommand.ensures ∙ topics) in
    ap app_of_fields (c.subcommand_required.ensures ∙ required)
    ∙ ap (λ (a : App). record a { top = record a.top { no_binary_name = true; disable_help_flag = true; disable_help_subcommand = true; subcommand_required = true } }) c.new.ensures.app
