use Rattle.std.proofs.Common.{◌≡◌, ◌≤◌, ◌+◌, ◌++◌, map, take}
use Rattle.std.specs.Prelude.{vec_len, vec_capacity}
use Rattle.std.specs.List.{filter_map}
use Rattle.roc_program.specs.Names.{binding}
use Rattle.roc_program.specs.Parts as pure
use Rattle.roc_program.specs.Values.{value_of_name}
use Rattle.roc_group.proofs.run.push_body.Given as goal

-- what the statements so far bind, and the room that they used
abbrev pub invariant-loop-statement : goal.invariant-loop-statement
invariant-loop-statement l = record {
  bound : l.bound.items ≡ l.fn.bound.items ++ map (value_of_name l.names) (filter_map binding (map pure.statement (take l.statement-index l.body)));
  len : vec_len l.bound ≤ vec_len l.fn.bound + l.statement-index;
  room : vec_capacity l.fn.bound ≤ vec_capacity l.bound;
}
