use Rattle.roc_replay.proofs.SecondFile.{are_filed, stand_apart}
use Rattle.roc_replay.proofs.laws.files_are_told_apart.Goals as goal

pub returns-clause-filed : goal.returns-clause-filed
returns-clause-filed c plan next coords steps w accepted of run =
    are_filed plan next coords steps w run accepted.well_formed.some_shard (c.grown_runs_are_two.ensures plan next coords steps w accepted of run)
    (c.witness_is_serial.ensures.filed plan next coords steps w accepted of run)

pub returns-clause-apart : goal.returns-clause-apart
returns-clause-apart c plan next coords steps w accepted of run =
    stand_apart plan next coords steps w run accepted.well_formed.some_shard (c.grown_runs_are_two.ensures plan next coords steps w accepted of run)
    (c.witness_is_serial.ensures.plain plan next coords steps w accepted of run) (c.files_stay_apart.ensures plan next coords steps w accepted of run)
