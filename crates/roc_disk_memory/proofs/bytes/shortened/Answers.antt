use Rattle.std.proofs.Common.{sym, subst}
use Rattle.roc_disk.specs.Stops.{Cut}
use Rattle.roc_disk.proofs.Tearing.{cut_take}
use Rattle.roc_disk_memory.proofs.Steps.{ok_map}
use Rattle.roc_disk_memory.proofs.bytes.shortened.Goals as goal

pub returns-clause-torn : goal.returns-clause-torn
returns-clause-torn c = ok_map c.front.result _ _ (λ new same. subst (Cut c.args.len c.args.old.now) (sym same) (cut_take c.args.len c.args.old.now)) c.front.ensures
