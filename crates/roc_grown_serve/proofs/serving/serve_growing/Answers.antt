use Rattle.std.proofs.Common.{inr, refl}
use Rattle.roc_node.proofs.Moving.{Moves-none}
use Rattle.roc_node_serve.specs.declared.ends.ServeEnd.TheVariants as end
use Rattle.roc_node_serve.specs.Pieces.{silent}
use Rattle.roc_grown_serve.specs.ServesGrowing.{unbound}
use Rattle.roc_grown_serve.proofs.Served.{first_ready, served_headed}
use Rattle.roc_grown_serve.proofs.serving.serve_growing.Goals as goal

pub serve_from-requires-clause-ready : goal.serve_from-requires-clause-ready
serve_from-requires-clause-ready g c =
    first_ready (record { plan = c.args.plan.now; next = c.args.next.now; header = c.own_header-header.result; cluster = c.args.cluster.now }) _ c.args.shard c.in-Ok.ensures

pub returns-in-Err-clause-serves : goal.returns-in-Err-clause-serves
returns-in-Err-clause-serves g c = λ own at. unbound end.NoMemory (inr refl) (record { bound = refl; moves = Moves-none _ _ refl refl refl refl; silent = refl })

pub returns-in-Ok-clause-serves : goal.returns-in-Ok-clause-serves
returns-in-Ok-clause-serves g c = λ own at.
    served_headed c.args.plan.now c.args.next.now c.args.cluster.now _ _ c.args.shard own c.args.turns c.args.counts _ _ c.own_header-header.result _ c.own_header-header.ensures.is
    c.in-Ok.ensures (c.serve_from.ensures.serves own at)

pub returns-in-Err-clause-pieces : goal.returns-in-Err-clause-pieces
returns-in-Err-clause-pieces g c = silent end.NoMemory refl refl
