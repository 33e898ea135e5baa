-- The commands of the shards before this one.
use Rattle.std.proofs.Common.{◌≡◌, map}
use Rattle.roc_io.specs.Spawner.{command_words}
use Rattle.roc_node_local.specs.Children.{serve_commands}
use Rattle.roc_node_local.proofs.children.serve_commands.Given as goal

abbrev pub invariant-loop-shard : goal.invariant-loop-shard
invariant-loop-shard l = map command_words l.commands.items ≡ serve_commands l.workload l.cluster l.turns l.shard
