use Rattle.std.proofs.Common.{◌≡◌, take}
use Rattle.roc_server_table.specs.Inner.Leading.{live_numbers}
use Rattle.roc_server_table.proofs.leading.live_among.Given as goal

abbrev pub invariant-loop-link : goal.invariant-loop-link
invariant-loop-link l = l.numbers.items ≡ live_numbers l.rows (take l.link-index l.links)
