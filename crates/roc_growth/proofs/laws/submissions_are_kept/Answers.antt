use Rattle.std.proofs.Common.{arith}
use Rattle.roc_law_world.specs.World.{first_beginning}
use Rattle.roc_epoch.specs.Files.{last_plan}
use Rattle.roc_two_files.specs.Left.{left_behind}
use Rattle.roc_growth.proofs.Kept.{first_tells, second_tells, gone, kept, used}
use Rattle.roc_growth.proofs.laws.submissions_are_kept.Goals as goal

pub returns-clause-used : goal.returns-clause-used
returns-clause-used c plan next coords steps w accepted of run =
    let x = c.both_runs.ensures plan next coords steps w accepted of run in
    let e = x.epochs in
    used plan next coords steps w e (first_tells plan next coords steps w e) (second_tells plan next coords steps w e) x.fits.some_server
    (λ coord seq d at l. c.submissions_are_kept.ensures.used plan (first_beginning plan) coords e.first_steps e.w x.begins e.first coord seq d at (omega arith) l)
    (λ drained. c.submissions_are_kept.ensures.used (last_plan plan next) (left_behind plan (first_beginning plan) e.w) coords e.second_steps e.v (x.begins_again drained) e.second)

pub returns-clause-submitted : goal.returns-clause-submitted
returns-clause-submitted c plan next coords steps w accepted of run =
    let x = c.both_runs.ensures plan next coords steps w accepted of run in
    kept plan next coords steps w x.epochs (first_tells plan next coords steps w x.epochs) (second_tells plan next coords steps w x.epochs) x.fits.some_server

pub returns-clause-gone : goal.returns-clause-gone
returns-clause-gone c plan next coords steps w accepted of run =
    let x = c.both_runs.ensures plan next coords steps w accepted of run in
    gone plan next coords steps w x.epochs (first_tells plan next coords steps w x.epochs) (second_tells plan next coords steps w x.epochs) x.fits.some_server
