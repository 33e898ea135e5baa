use Rattle.roc_cli_words.proofs.CoordinatorWords.{alone, with_log, with_growth}
use Rattle.roc_cli_words.proofs.laws.files_of_coordinators_are_named.Goals as goal

pub returns-clause-alone : goal.returns-clause-alone
returns-clause-alone c w k r n t coord turns are = alone w k r n t coord turns are

pub returns-clause-log : goal.returns-clause-log
returns-clause-log c w k r n t coord turns file are plain = with_log w k r n t coord turns are file plain

pub returns-clause-growth : goal.returns-clause-growth
returns-clause-growth c w k r n t coord turns file later are plain second = with_growth w k r n t coord turns are file plain later second
