use Rattle.std.proofs.Common.{◌++◌}
use Rattle.std.proofs.lemmas.Bool.{le-leb, lt-leb}
use Rattle.roc_two_files.specs.Filed.{is_behind}
use Rattle.roc_two_files.specs.Left.{left_behind}
use Rattle.roc_two_files.specs.Orders.{witness_of_both}
use Rattle.roc_two_files.proofs.FiledRuns.{filed, first_are_old}
use Rattle.roc_two_files.proofs.epochs.epochs_are_filed.Goals as goal

pub returns-clause-filed : goal.returns-clause-filed
returns-clause-filed c plan grown b coords steps more w v accepted ok grows begins run drained later =
    filed plan.program grown.program grows (is_behind plan b w) (w.history ++ v.history) (first_are_old plan grown b coords steps more w v run later) b.of_transactions.store
    (witness_of_both w v)
    (c.epochs_are_serial.ensures.from plan grown b coords steps more w v accepted ok grows begins run drained later)

pub returns-clause-first : goal.returns-clause-first
returns-clause-first c plan grown b coords steps w run t s =
    lt-leb ((left_behind plan b w).of_transactions.nexts t.coord) t.seq (c.epochs_stand_apart.ensures.before plan grown b coords steps w run t s)

pub returns-clause-second : goal.returns-clause-second
returns-clause-second c plan grown b coords more w v later t s =
    le-leb ((left_behind plan b w).of_transactions.nexts t.coord) t.seq (c.epochs_stand_apart.ensures.behind plan grown b coords more w v later t s)
