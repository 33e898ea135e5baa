use Rattle.roc_law_world.specs.World.{first_beginning}
use Rattle.roc_epoch.specs.Files.{last_plan}
use Rattle.roc_growth.proofs.Headline.{serial, filed_so}
use Rattle.roc_growth.proofs.laws.witness_is_serial.Goals as goal

pub returns-clause-filed : goal.returns-clause-filed
returns-clause-filed c plan next coords steps w accepted of run =
    let x = c.both_runs.ensures plan next coords steps w accepted of run in
    let e = x.epochs in
    filed_so plan next coords steps w e of x.fits.some_server (c.witness_is_serial.ensures plan (first_beginning plan) coords e.first_steps e.w accepted x.begins e.first)
    (λ drained. c.epochs_are_serial.ensures.first plan (last_plan plan next) coords e.first_steps e.second_steps e.w e.v accepted x.accepted x.grows e.first drained e.second)

pub returns-clause-plain : goal.returns-clause-plain
returns-clause-plain c plan next coords steps w accepted of run =
    let x = c.both_runs.ensures plan next coords steps w accepted of run in
    let e = x.epochs in
    serial plan next coords steps w e of x.fits.some_server (c.witness_is_serial.ensures plan (first_beginning plan) coords e.first_steps e.w accepted x.begins e.first)
    (λ drained. c.epochs_are_serial.ensures.first plan (last_plan plan next) coords e.first_steps e.second_steps e.w e.v accepted x.accepted x.grows e.first drained e.second)
