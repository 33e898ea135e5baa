use Rattle.std.proofs.Common.{◌≡◌, ◌++◌, length}
use Rattle.roc_server_table.proofs.EntriesAmong.{left, whole}
use Rattle.roc_server_table.proofs.components.entries_among.Given as goal

abbrev pub invariant-loop-edge : goal.invariant-loop-edge
invariant-loop-edge l = l.found.items ++ left l.ids l.skipped l.rows l.edges l.links (length l.yielded) ≡ whole l.ids l.skipped l.rows l.edges l.links
