use Rattle.roc_law_protocol.proofs.Liveness.{all_gone}
use Rattle.roc_law_protocol.proofs.Resting.{order_rests, stores_rest}
use Rattle.roc_law_protocol.proofs.beginnings.answered_worlds_rest.Goals as goal

pub returns-clause-order : goal.returns-clause-order
returns-clause-order c plan b coords steps w begins schemes run =
    order_rests plan b coords steps w run (λ steps v run. c.order_is_serial.ensures plan b coords steps v begins schemes run)

pub returns-clause-cells : goal.returns-clause-cells
returns-clause-cells c plan b coords steps w begins schemes run =
    stores_rest plan b coords steps w run (λ steps v run. c.order_is_serial.ensures plan b coords steps v begins schemes run)
    (λ steps v run. c.cells_are_serial.ensures plan b coords steps v begins schemes run)
    (λ steps v run n. c.cells_are_in_their_place.ensures.apart plan b coords steps v begins schemes run (record { 0 = n }))
    c.reads_after_writes.ensures.alike

pub returns-clause-pending : goal.returns-clause-pending
returns-clause-pending c plan b coords steps w begins schemes run =
    all_gone plan b begins schemes (λ S sound. c.machine_laws.ensures.log S b.store sound) c.machine_laws.ensures.stores coords steps w run
