use Rattle.std.proofs.Common.{sym}
use Rattle.roc_base.specs.TxnId.{is_txn}
use Rattle.roc_step.specs.Runs.{group_call}
use Rattle.roc_step.specs.Fits.{IsCallOf}
use Rattle.roc_sequence.proofs.Found.{found_holds}
use Rattle.roc_server_groups.proofs.groups.count_of_groups.Goals as goal

pub groups-requires : goal.groups-requires
groups-requires c = (found_holds (λ e. IsCallOf c.args.plan.now (group_call e)) (λ e. is_txn e.id c.args.id) c.args.started.now.groups c.in-Some.e.now c.requires (sym c.in-Some.ensures)).procedure
