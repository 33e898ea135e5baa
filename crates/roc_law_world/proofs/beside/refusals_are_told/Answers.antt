use Rattle.roc_law_world.proofs.UsedSequences.{run_used, spent_told, busy_told}
use Rattle.roc_law_world.proofs.WovenOrder.{is_view, tells_them}
use Rattle.roc_law_world.proofs.beside.refusals_are_told.Goals as goal

pub returns-clause-kept : goal.returns-clause-kept
returns-clause-kept c plan b coords steps w begins run coord s there =
    let k = run_used plan b begins coords (is_view plan b coords steps w run) steps w run (tells_them plan b coords steps w run) in
    (k.next coord s there, k.told.each coord s there)

pub returns-clause-few : goal.returns-clause-few
returns-clause-few c plan b coords steps w begins run coord s there =
    let k = run_used plan b begins coords (is_view plan b coords steps w run) steps w run (tells_them plan b coords steps w run) in
    k.few coord s there

pub returns-clause-spent : goal.returns-clause-spent
returns-clause-spent c plan b coords steps w begins run coord proc args o =
    let k = run_used plan b begins coords (is_view plan b coords steps w run) steps w run (tells_them plan b coords steps w run) in
    spent_told b.of_transactions.nexts plan w k coord proc args o

pub returns-clause-busy : goal.returns-clause-busy
returns-clause-busy c plan b coords steps w begins run coord proc args o =
    let k = run_used plan b begins coords (is_view plan b coords steps w run) steps w run (tells_them plan b coords steps w run) in
    busy_told b.of_transactions.nexts plan w k coord proc args o
