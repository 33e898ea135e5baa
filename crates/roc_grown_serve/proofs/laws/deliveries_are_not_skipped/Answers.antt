use Rattle.roc_grown_node.proofs.Judged.{delivered_file}
use Rattle.roc_grown_serve.proofs.Folds.{not_skipped}
use Rattle.roc_grown_serve.proofs.laws.deliveries_are_not_skipped.Goals as goal

pub returns : goal.returns
returns c S s bytes header file msg g judges handles = not_skipped S s file msg g handles (delivered_file S s.switched bytes header file msg judges)
