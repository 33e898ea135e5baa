use Rattle.std.proofs.Common.{[], refl}
use Rattle.roc_step.specs.First.{first_server}
use Rattle.roc_step.specs.Reads.{first_viewing}
use Rattle.roc_law_nodes.proofs.OneFold.{one_server_fold, one_coord_fold}
use Rattle.roc_law_nodes.proofs.ServerFolds.{without_stops}
use Rattle.roc_law_nodes.proofs.laws.fold_is_one.Goals as goal

pub returns-clause-servers : goal.returns-clause-servers
returns-clause-servers c plan shard events s t v u messages others f g = one_server_fold plan (c.step_is_one.ensures plan) (c.read_step_is_one.ensures plan) (first_server plan shard) first_viewing [] f g refl

pub returns-clause-coords : goal.returns-clause-coords
returns-clause-coords c plan number events x y messages others f g = one_coord_fold plan number f g refl

pub returns-clause-stops : goal.returns-clause-stops
returns-clause-stops c plan shard events s v messages f = without_stops plan (first_server plan shard) first_viewing [] f
