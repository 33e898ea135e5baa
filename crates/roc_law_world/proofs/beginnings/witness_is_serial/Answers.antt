use Rattle.roc_law_world.specs.Witness.{shown}
use Rattle.roc_law_world.proofs.beginnings.witness_is_serial.Goals as goal

pub returns : goal.returns
returns c plan b coords steps w accepted begins run =
    let f = c.looks_fit.ensures plan b coords steps w accepted begins run in c.woven_is_a_witness.ensures plan.program b.of_transactions.store f.0 w.history w.order (shown w) f.2 f.3 f.4
