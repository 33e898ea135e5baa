use Rattle.std.proofs.Common.{◌≡◌, ◌≤◌, ◌+◌, ◌++◌, map, take}
use Rattle.std.specs.Prelude.{vec_len, vec_capacity}
use Rattle.roc_program.specs.Parts as pure
use Rattle.roc_program.specs.Values.{value_of_name}
use Rattle.roc_plan.specs.Groups.{bound_in, pieces_at}
use Rattle.roc_group.specs.GroupRun.{statements_in}
use Rattle.roc_group.proofs.run.push_bound.Given as goal

-- what the pieces so far bind, and the room that they used
abbrev pub invariant-loop-piece : goal.invariant-loop-piece
invariant-loop-piece l = record {
  bound : l.bound.items ≡ l.fn.bound.items ++ map (value_of_name l.names) (bound_in (pure.procedure l.procedure) (take l.piece-index l.pieces));
  len : vec_len l.bound ≤ vec_len l.fn.bound + statements_in (pieces_at (pure.procedure l.procedure) (take l.piece-index l.pieces));
  room : vec_capacity l.fn.bound ≤ vec_capacity l.bound;
}
