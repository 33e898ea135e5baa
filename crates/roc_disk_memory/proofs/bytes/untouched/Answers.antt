use Rattle.std.proofs.Common.{sym, subst}
use Rattle.roc_disk.specs.Stops.{Torn, Cut}
use Rattle.roc_disk.proofs.Tearing.{torn_same, cut_same}
use Rattle.roc_disk_memory.proofs.Steps.{ok_map}
use Rattle.roc_disk_memory.proofs.bytes.untouched.Goals as goal

pub returns-clause-torn : goal.returns-clause-torn
returns-clause-torn c = λ at n. ok_map c.copied.result _ _ (λ new same. subst (Torn at n c.args.old.now) (sym same) (torn_same at n c.args.old.now)) c.copied.ensures

pub returns-clause-cut : goal.returns-clause-cut
returns-clause-cut c = λ len. ok_map c.copied.result _ _ (λ new same. subst (Cut len c.args.old.now) (sym same) (cut_same len c.args.old.now)) c.copied.ensures
