use Rattle.std.proofs.Common.{◌≡◌, map}
use Rattle.std.specs.List.{range_with_len}
use Rattle.roc_grown.specs.Server.{first_grown_server}
use Rattle.roc_world.proofs.nodes.first_servers.Given as goal

abbrev pub invariant-loop-number : goal.invariant-loop-number
invariant-loop-number l = l.servers.items ≡ map (λ n. first_grown_server l.plan (record { 0 = n })) (range_with_len 0 l.number)
