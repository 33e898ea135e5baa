use Rattle.std.proofs.Common.{length, ap, arith}
use Rattle.std.proofs.lemmas.List.{length-map}
use Rattle.roc_io.specs.Spawner.{command_words}
use Rattle.roc_node_local.proofs.Ends.{commands_count}
use Rattle.roc_node_local.proofs.local.orders_for.Goals as goal

pub returns-clause-few : goal.returns-clause-few
returns-clause-few c =
    let all = length-map c.in_ok-commands.commands.items command_words in
    let listed = ap length c.in_ok-commands.ensures in
    let count = commands_count c.args.workload.now c.args.cluster.now c.args.turns c.args.shards in
    omega (arith, all, listed, count, c.ranges.shards)
