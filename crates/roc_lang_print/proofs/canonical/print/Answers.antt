use Rattle.std.proofs.Common.{rules, ◌≡◌}
use Rattle.roc_lang_print.specs.Canonical.{canonical}
use Rattle.roc_lang_print.proofs.Whole.{printed_again}
use Rattle.roc_lang_print.proofs.canonical.print.Goals as goal

pub returns-clause-again : goal.returns-clause-again
returns-clause-again c = let text : c.into_bytes.result.items ≡ canonical c.args.source.now = search rules in printed_again c.into_bytes.result.items c.args.source.now text
