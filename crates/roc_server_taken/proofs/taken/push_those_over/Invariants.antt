use Rattle.std.proofs.Common.{◌≡◌, ◌++◌, take}
use Rattle.roc_step.specs.Forgets.{over}
use Rattle.roc_server_taken.proofs.taken.push_those_over.Given as goal

-- the members of those so far that are over were added
abbrev pub invariant-loop-component : goal.invariant-loop-component
invariant-loop-component l = l.ids.items ≡ l.initial.ids.items ++ over l.marks (take l.component-index l.components)
