use Rattle.roc_law_world.specs.World.{first_beginning}
use Rattle.roc_epoch.specs.Files.{last_plan}
use Rattle.roc_two_files.specs.Left.{left_behind}
use Rattle.roc_growth.proofs.Cells.{hold}
use Rattle.roc_growth.proofs.laws.cells_are_serial.Goals as goal

pub returns : goal.returns
returns c plan next coords steps w accepted of run =
    let x = c.both_runs.ensures plan next coords steps w accepted of run in
    let e = x.epochs in
    let left = left_behind plan (first_beginning plan) e.w in
    hold plan next coords steps w e of x.fits.some_server
    (c.begun_nodes_are_renewed.ensures.servers plan (last_plan plan next) (first_beginning plan) coords e.first_steps e.w accepted.well_formed.some_shard e.first x.grows.shards)
    (c.witness_is_serial.ensures plan (first_beginning plan) coords e.first_steps e.w accepted x.begins e.first)
    (c.looks_fit.ensures plan (first_beginning plan) coords e.first_steps e.w accepted x.begins e.first).5
    (λ drained. c.witness_is_serial.ensures (last_plan plan next) left coords e.second_steps e.v x.accepted (x.begins_again drained) e.second)
    (c.cells_are_serial.ensures plan (first_beginning plan) coords e.first_steps e.w accepted x.begins e.first)
    (λ drained. c.cells_are_serial.ensures (last_plan plan next) left coords e.second_steps e.v x.accepted (x.begins_again drained) e.second)
