use Rattle.roc_cli_words.proofs.Kept.{first_taken}
use Rattle.roc_cli_words.proofs.command.first_names.Goals as goal

pub returns : goal.returns
returns c = first_taken (λ name. name.now) c.args.found.now _ c.copy_from_slice.new.self c.min-count.result c.min-count.ensures c.copy_from_slice.ensures.after
