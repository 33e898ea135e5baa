use Rattle.std.proofs.Common.{sym, subst}
use Rattle.roc_disk.specs.Stops.{Torn}
use Rattle.roc_disk.proofs.Tearing.{torn_put}
use Rattle.roc_disk_memory.proofs.Steps.{ok_map}
use Rattle.roc_disk_memory.proofs.bytes.written_over.Goals as goal

pub returns-clause-torn : goal.returns-clause-torn
returns-clause-torn c = λ n short. ok_map c.placed.result _ _ (λ new same. subst (Torn c.args.at n c.args.old.now) (sym same) (torn_put c.args.at n c.args.old.now c.args.bytes.now c.requires short)) c.placed.ensures
