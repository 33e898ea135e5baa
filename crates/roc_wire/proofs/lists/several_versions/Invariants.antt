use Rattle.std.proofs.Common.{◌≡◌, ◌-◌}
use Rattle.std.specs.Int.{w64}
use Rattle.roc_wire.specs.Reading.{several_read, number_read}
use Rattle.roc_wire.proofs.Loop.{with_front}
use Rattle.roc_wire.proofs.lists.several_versions.Given as goal

abbrev pub invariant-loop : goal.invariant-loop
invariant-loop l = with_front l.versions (several_read (λ (s : Unit {0}). number_read w64) (λ s n. s) (l.count - l.counter) tt l.rest) ≡ several_read (λ (s : Unit {0}). number_read w64) (λ s n. s) l.count tt l.bytes
