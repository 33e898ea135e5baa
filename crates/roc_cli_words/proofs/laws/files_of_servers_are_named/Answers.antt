use Rattle.roc_cli_words.proofs.ServerWords.{alone, with_journal, with_log, with_growth}
use Rattle.roc_cli_words.proofs.laws.files_of_servers_are_named.Goals as goal

pub returns-clause-alone : goal.returns-clause-alone
returns-clause-alone c w k n t shard turns counts are = alone w k n t shard turns counts are

pub returns-clause-journal : goal.returns-clause-journal
returns-clause-journal c w k n t shard turns counts file are plain = with_journal w k n t shard turns counts are file plain

pub returns-clause-log : goal.returns-clause-log
returns-clause-log c w k n t shard turns counts file are plain = with_log w k n t shard turns counts are file plain

pub returns-clause-growth : goal.returns-clause-growth
returns-clause-growth c w k n t shard turns counts file text coords are plain number = with_growth w k n t shard turns counts are file plain text coords number
