use Rattle.std.proofs.Common.{◌≡◌, map, filter, take}
use Rattle.roc_server_lists.specs.Inner.Finding.{is_done_with}
use Rattle.roc_server_lists.proofs.missing.done_of.Given as goal

abbrev pub invariant-loop-edge : goal.invariant-loop-edge
invariant-loop-edge l = l.done.items ≡ map (λ d. d.from) (filter (is_done_with l.shard l.started.groups l.parts.marks l.parts.table.known) (take l.edge-index l.edges))
