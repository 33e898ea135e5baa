use Rattle.std.proofs.Common.{◌∙◌, ap, subst, sym, map, string_bytes}
use Rattle.clap.specs.Words.{App, is_simple, subcommand_of}
use Rattle.clap.specs.Faults.{fault_of, is_simple_and_free}
use Rattle.clap.specs.Kinds.{HasKind}
use Rattle.roc_cli_words.proofs.Taken.{program_is_simple, program_is_free, taken, refused}
use Rattle.roc_cli_words.proofs.answer.parsed.Goals as goal

pub returns-in-Ok-try_get_matches_from : goal.returns-in-Ok-try_get_matches_from
returns-in-Ok-try_get_matches_from c =
    let e = c.in-Ok.ensures in
    let given = c.in-Ok-try_get_matches_from.ensures in (
      taken _ (ap (λ (a : App). fault_of a (map string_bytes c.args.words.now)) (sym e) ∙ given.kinds (ap is_simple_and_free e ∙ program_is_free)),
      (given.matches (ap is_simple e ∙ program_is_simple)).1 ∙ ap (λ (a : App). subcommand_of a (map string_bytes c.args.words.now)) e,
    )

pub returns-in-Err-try_get_matches_from : goal.returns-in-Err-try_get_matches_from
returns-in-Err-try_get_matches_from c =
    let e = c.in-Ok.ensures in
    let given = c.in-Err-try_get_matches_from.ensures in
    refused (map string_bytes c.args.words.now) _ _ c.fault_of.ensures
    (subst (λ (a : App). HasKind (fault_of a (map string_bytes c.args.words.now)) c.in-Err-try_get_matches_from.error) e (given.kinds (ap is_simple_and_free e ∙ program_is_free)))
