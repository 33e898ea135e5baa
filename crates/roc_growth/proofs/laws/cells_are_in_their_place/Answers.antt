use Rattle.roc_law_world.specs.World.{first_beginning}
use Rattle.roc_epoch.specs.Files.{last_plan}
use Rattle.roc_two_files.specs.Left.{left_behind}
use Rattle.roc_growth.proofs.Cells.{each_shard, none_elsewhere}
use Rattle.roc_growth.proofs.laws.cells_are_in_their_place.Goals as goal

pub returns-clause-servers : goal.returns-clause-servers
returns-clause-servers c plan next coords steps w accepted of run =
    let x = c.both_runs.ensures plan next coords steps w accepted of run in
    each_shard plan next coords steps w x.epochs of x.fits.shards

pub returns-clause-apart : goal.returns-clause-apart
returns-clause-apart c plan next coords steps w accepted of run =
    let x = c.both_runs.ensures plan next coords steps w accepted of run in
    let e = x.epochs in
    none_elsewhere plan next coords steps w e of
    (c.cells_are_in_their_place.ensures.apart plan (first_beginning plan) coords e.first_steps e.w accepted x.begins e.first)
    (λ drained. c.cells_are_in_their_place.ensures.apart (last_plan plan next) (left_behind plan (first_beginning plan) e.w) coords e.second_steps e.v x.accepted (x.begins_again drained) e.second)
