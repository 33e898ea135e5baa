use Rattle.std.proofs.Common.{◌≡◌, ◌-◌}
use Rattle.roc_wire.specs.Reading.{several_read, num_read}
use Rattle.roc_wire.proofs.Loop.{with_front}
use Rattle.roc_wire.proofs.lists.several_nums.Given as goal

abbrev pub invariant-loop : goal.invariant-loop
invariant-loop l = with_front l.nums (several_read num_read (λ s n. s) (l.count - l.counter) tt l.rest) ≡ several_read num_read (λ s n. s) l.count tt l.bytes
