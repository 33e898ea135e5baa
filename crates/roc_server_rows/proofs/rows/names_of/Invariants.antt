use Rattle.std.proofs.Common.{◌≡◌, ◌≤◌, ◌+◌, length, take}
use Rattle.roc_server_rows.proofs.Named.{IsNaming}
use Rattle.roc_server_rows.proofs.rows.names_of.Given as goal

abbrev pub invariant-loop-edge : goal.invariant-loop-edge
invariant-loop-edge l = record {
  naming : IsNaming l.initial.parts l.parts l.done (take l.edge-index l.edges) l.names.items;
  undecided : l.parts.undecided ≡ l.initial.parts.undecided;
  no_fewer : length l.initial.parts.rows.items ≤ length l.parts.rows.items;
  at_most : length l.parts.rows.items ≤ length l.initial.parts.rows.items + l.edge-index;
}
