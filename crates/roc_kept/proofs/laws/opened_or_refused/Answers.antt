use Rattle.roc_kept.proofs.Files.{each_file, empty_recovers_none, empty_is_taken, not_both, one_place}
use Rattle.roc_kept.proofs.laws.opened_or_refused.Goals as goal

pub returns-clause-each : goal.returns-clause-each
returns-clause-each c = λ plan tag shard bytes eight are out. each_file plan tag shard bytes out (c.journal_or_fault.ensures tag bytes eight are)

pub returns-clause-not_empty : goal.returns-clause-not_empty
returns-clause-not_empty c = empty_recovers_none

pub returns-clause-empty_taken : goal.returns-clause-empty_taken
returns-clause-empty_taken c = empty_is_taken

pub returns-clause-apart : goal.returns-clause-apart
returns-clause-apart c = λ plan tag shard bytes s v at eight. not_both c.spelled_apart.ensures c.step_is_one.ensures c.kept_fold_is_one.ensures plan tag shard bytes eight s v at

pub returns-clause-one : goal.returns-clause-one
returns-clause-one c = λ plan tag shard bytes at other eight. one_place c.spelled_apart.ensures c.step_is_one.ensures c.kept_fold_is_one.ensures plan tag shard bytes eight at other
