use Rattle.std.proofs.Common.{◌≡◌, length, map, take}
use Rattle.roc_program.specs.Parts.{expression}
use Rattle.roc_program.specs.Values.{value}
use Rattle.roc_program.proofs.parts.Access.key.Given as goal

-- the first so many integers are the values of the first so many expressions
abbrev pub invariant-loop-at : goal.invariant-loop-at
invariant-loop-at l = record {
  four : length l.integers ≡ 4;
  front : take l.at l.integers ≡ map (λ e. value (expression e) l.names) (take l.at l.self.id.items);
}
