use Rattle.std.proofs.Common.{◌≡◌, ◌-◌}
use Rattle.std.specs.Prelude.{None}
use Rattle.roc_wire.specs.Fits.{last_from}
use Rattle.roc_wire.specs.Reading.{several_read, edge_read}
use Rattle.roc_wire.proofs.Loop.{with_front}
use Rattle.roc_wire.proofs.lists.several_entries.Given as goal

abbrev pub invariant-loop : goal.invariant-loop
invariant-loop l = with_front l.entries.items (several_read edge_read last_from (l.count - l.counter) l.last l.rest) ≡ several_read edge_read last_from l.count None l.bytes
