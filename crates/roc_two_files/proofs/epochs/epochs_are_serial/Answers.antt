use Rattle.std.proofs.Common.{◌++◌, ap, sym, subst}
use Rattle.roc_rows.specs.Store.{Store, empty}
use Rattle.roc_whole.specs.Serial.{after_inits}
use Rattle.roc_audit.specs.Witness.{IsSerialWitnessFrom}
use Rattle.roc_law_world.specs.World.{first_beginning}
use Rattle.roc_two_files.specs.Left.{left_behind}
use Rattle.roc_two_files.specs.Orders.{witness_of_both}
use Rattle.roc_two_files.proofs.TwoRuns.{serial}
use Rattle.roc_two_files.proofs.epochs.epochs_are_serial.Goals as goal

pub returns-clause-from : goal.returns-clause-from
returns-clause-from c plan grown b coords steps more w v accepted ok grows begins run drained later =
    serial plan grown b coords steps more w v run later grows (c.witness_is_serial.ensures plan b coords steps w accepted begins run)
    (c.witness_is_serial.ensures grown (left_behind plan b w) coords more v ok (c.drained_worlds_begin.ensures plan grown b coords steps w accepted begins run drained grows.shards) later)
    (c.looks_fit.ensures plan b coords steps w accepted begins run).5

pub returns-clause-first : goal.returns-clause-first
returns-clause-first c plan grown coords steps more w v accepted ok grows run drained later =
    let b = first_beginning plan in
    let begins = c.first_worlds_begin.ensures plan in
    let order = witness_of_both w v in
    subst (λ (s : Store). IsSerialWitnessFrom grown.program s (w.history ++ v.history) order) (ap (after_inits empty) (sym grows.inits))
    (serial plan grown b coords steps more w v run later grows (c.witness_is_serial.ensures plan b coords steps w accepted begins run)
    (c.witness_is_serial.ensures grown (left_behind plan b w) coords more v ok (c.drained_worlds_begin.ensures plan grown b coords steps w accepted begins run drained grows.shards) later)
    (c.looks_fit.ensures plan b coords steps w accepted begins run).5)
