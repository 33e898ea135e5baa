use Rattle.std.proofs.Common.{◌≡◌, ◌+◌, ◌++◌, map, take}
use Rattle.roc_step.specs.Forgets.{over}
use Rattle.roc_server_taken.specs.Inner.Standing.{part_at}
use Rattle.roc_server_taken.specs.declared.components.Component.{Component}
use Rattle.roc_server_taken.proofs.lent_components.push_over_under.Given as goal

-- the members of those so far that are over were added, a step for each
abbrev pub invariant-loop-at : goal.invariant-loop-at
invariant-loop-at g l = record {
  added : l.ids.items ≡ l.initial.ids.items ++ over l.marks (map (λ (c : Component). c.members) (take l.at (part_at l.components.standing.now.parts l.coord)));
  steps : l.steps ≡ l.initial.steps + l.at;
}
