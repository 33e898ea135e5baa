use Rattle.std.proofs.Common.{◌≡◌, take}
use Rattle.std.specs.List.{flat_map}
use Rattle.roc_step.specs.Links.{least_naming}
use Rattle.roc_server_rows.specs.Inner.Rows.{told_entries}
use Rattle.roc_server_rows.proofs.rows.least_naming.Given as goal

-- the least of those that the rows so far tell
abbrev pub invariant-loop-row : goal.invariant-loop-row
invariant-loop-row l = l.least ≡ least_naming l.id l.fn.at (flat_map told_entries (take l.row-index l.rows))
