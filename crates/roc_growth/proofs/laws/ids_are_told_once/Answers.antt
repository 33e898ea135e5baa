use Rattle.roc_growth.proofs.Kept.{first_tells, second_tells, told_once}
use Rattle.roc_growth.proofs.laws.ids_are_told_once.Goals as goal

pub returns : goal.returns
returns c plan next coords steps w accepted of run =
    let x = c.both_runs.ensures plan next coords steps w accepted of run in
    told_once plan next coords steps w x.epochs (first_tells plan next coords steps w x.epochs) (second_tells plan next coords steps w x.epochs) x.fits.some_server
