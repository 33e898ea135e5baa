use Rattle.std.proofs.Common.{◌≡◌, ◌++◌, Some, drop, length, map, take}
use Rattle.roc_server_rows.specs.Except.{link_but}
use Rattle.roc_server_rows.proofs.marking.cut_names.Given as goal

abbrev pub invariant-loop-place : goal.invariant-loop-place
invariant-loop-place l =
    record {
      each : length l.names ≡ length l.initial.names;
      cut : l.names ≡ map (link_but (Some l.at)) (take l.place l.initial.names) ++ drop l.place l.initial.names;
    }
