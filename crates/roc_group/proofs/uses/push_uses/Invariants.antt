use Rattle.std.proofs.Common.{◌≡◌, ◌≤◌, ◌+◌, ◌++◌, map, take}
use Rattle.std.specs.Prelude.{vec_len, vec_capacity}
use Rattle.std.specs.List.{flat_map}
use Rattle.roc_program.specs.Parts as pure
use Rattle.roc_group.specs.Accesses.{uses_of}
use Rattle.roc_group.proofs.uses.push_uses.Given as goal

-- what the statements so far use, and the room that they used
abbrev pub invariant-loop-statement : goal.invariant-loop-statement
invariant-loop-statement l = record {
  uses : l.uses.items ≡ l.fn.uses.items ++ flat_map (uses_of l.place l.names) (map pure.statement (take l.statement-index l.statement-items));
  len : vec_len l.uses ≤ vec_len l.fn.uses + l.statement-index;
  room : vec_capacity l.fn.uses ≤ vec_capacity l.uses;
}
