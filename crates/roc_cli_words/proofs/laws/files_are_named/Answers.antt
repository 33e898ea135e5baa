use Rattle.roc_cli_words.proofs.Auditing.{audits, too_many}
use Rattle.roc_cli_words.proofs.Named.{checks, prints, replays}
use Rattle.roc_cli_words.proofs.NodeWords.{grown_replays}
use Rattle.roc_cli_words.proofs.laws.files_are_named.Goals as goal

pub returns-clause-check : goal.returns-clause-check
returns-clause-check c = checks

pub returns-clause-print : goal.returns-clause-print
returns-clause-print c = prints

pub returns-clause-replay : goal.returns-clause-replay
returns-clause-replay c = replays

pub returns-clause-growth : goal.returns-clause-growth
returns-clause-growth c = grown_replays

pub returns-clause-audit : goal.returns-clause-audit
returns-clause-audit c = audits

pub returns-clause-past : goal.returns-clause-past
returns-clause-past c = too_many
