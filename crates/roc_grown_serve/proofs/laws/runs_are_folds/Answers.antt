use Rattle.std.proofs.Common.{refl}
use Rattle.roc_grown_serve.specs.GrownRun.{first_grown_node}
use Rattle.roc_grown_serve.proofs.Folds.{folds}
use Rattle.roc_grown_serve.proofs.laws.runs_are_folds.Goals as goal

pub returns : goal.returns
returns c S shard events node run = folds S (first_grown_node S.plan shard) run refl
