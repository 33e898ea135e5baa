use Rattle.roc_law_world.specs.World.{first_beginning}
use Rattle.roc_epoch.specs.Files.{last_plan}
use Rattle.roc_two_files.specs.Left.{left_behind}
use Rattle.roc_growth.proofs.Answering.{view_answered}
use Rattle.roc_growth.proofs.Halves.{same_servers, same_coords}
use Rattle.roc_growth.proofs.Passed.{skipped_first, skipped_second}
use Rattle.roc_growth.proofs.quiet.quiet_views_are_answered.Goals as goal

pub returns : goal.returns
returns c plan next coords steps w accepted of run =
    let both = c.both_runs.ensures plan next coords in
    let x = both steps w accepted of run in
    let e = x.epochs in
    view_answered plan next coords steps w e of x.fits.some_server
    (skipped_first plan next coords (λ steps w run. both steps w accepted of run) steps w run)
    (skipped_second plan next coords (λ steps w run. both steps w accepted of run) steps w run
    (λ front v y drained. c.answers_go_home.ensures (last_plan plan next) (left_behind plan (first_beginning plan) y.epochs.w) coords y.epochs.second_steps y.epochs.v y.accepted (y.begins_again drained) y.epochs.second)
    (λ front v y drained. c.nothing_is_refused.ensures.coordinators (last_plan plan next) (left_behind plan (first_beginning plan) y.epochs.w) coords y.epochs.second_steps y.epochs.v y.accepted (y.begins_again drained) y.epochs.second))
    (same_servers plan next coords steps w e x.fits.shards x.fits_again.shards x.grows) (same_coords plan next coords steps w e)
    (c.quiet_views_are_answered.ensures plan (first_beginning plan) coords e.first_steps e.w accepted x.begins e.first)
    (λ drained. c.quiet_views_are_answered.ensures (last_plan plan next) (left_behind plan (first_beginning plan) e.w) coords e.second_steps e.v x.accepted (x.begins_again drained) e.second)
