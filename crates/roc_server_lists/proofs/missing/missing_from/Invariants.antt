use Rattle.std.proofs.Common.{◌≡◌, ◌&&◌, not, map, filter, take}
use Rattle.roc_base.specs.TxnId.{is_txn}
use Rattle.roc_sequence.specs.Places.{is_listed}
use Rattle.roc_server_lists.specs.ListsNow.{is_missing_at}
use Rattle.roc_server_lists.specs.Inner.Finding.{asked_by}
use Rattle.roc_server_lists.proofs.missing.missing_from.Given as goal

abbrev pub invariant-loop-edge : goal.invariant-loop-edge
invariant-loop-edge l = l.asks.items
    ≡ map (asked_by l.parts.marks l.parts.table.known)
    (filter (λ d. not (is_listed is_txn l.done d.from) && is_missing_at l.started.groups l.parts.table.links l.parts.waits.waiting.asked d) (take l.edge-index l.edges))
