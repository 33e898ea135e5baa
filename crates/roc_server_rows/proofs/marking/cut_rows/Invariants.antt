use Rattle.std.proofs.Common.{◌≡◌, ◌++◌, Some, drop, length, map, take}
use Rattle.roc_server_rows.specs.Except.{row_but}
use Rattle.roc_server_rows.proofs.marking.cut_rows.Given as goal

abbrev pub invariant-loop-place : goal.invariant-loop-place
invariant-loop-place l =
    record {
      each : length l.rows.items ≡ length l.initial.rows.items;
      cut : l.rows.items ≡ map (row_but (Some l.at)) (take l.place l.initial.rows.items) ++ drop l.place l.initial.rows.items;
    }
