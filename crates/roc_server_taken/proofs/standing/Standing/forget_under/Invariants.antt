use Rattle.std.proofs.Common.{length, filter}
use Rattle.roc_step.specs.Below.{is_ended}
use Rattle.roc_server_taken.specs.Inner.Over.{LeavesOpen}
use Rattle.roc_server_taken.specs.Inner.Standing.{components_of}
use Rattle.roc_server_taken.specs.declared.components.Component.{Component}
use Rattle.roc_server_taken.proofs.standing.Standing.forget_under.Given as goal

-- those that were looked at go, or stand under members that are not ended
abbrev pub invariant-loop : goal.invariant-loop
invariant-loop l = LeavesOpen l.marks (components_of l.initial.self) (components_of l.self)

-- how many stand under ended members
abbrev pub decreases-loop : goal.decreases-loop
decreases-loop l = length (filter (λ (c : Component). is_ended l.marks c.under) (components_of l.self))
