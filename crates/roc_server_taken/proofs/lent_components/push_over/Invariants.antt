use Rattle.std.proofs.Common.{◌≤◌, ◌+◌, length, filter}
use Rattle.roc_server_taken.specs.Inner.Over.{is_under_lower, AddsUpto}
use Rattle.roc_server_taken.specs.Inner.Standing.{components_of}
use Rattle.roc_server_taken.proofs.lent_components.push_over.Given as goal

-- those of lower coordinators were added, and looked at
abbrev pub invariant-loop-coord : goal.invariant-loop-coord
invariant-loop-coord g l = record {
  added : AddsUpto l.marks l.coord (components_of l.components.standing.now) l.initial.ids.items l.ids.items;
  steps : l.steps ≤ l.initial.steps + length (filter (is_under_lower l.marks l.coord) (components_of l.components.standing.now));
}
