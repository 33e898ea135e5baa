use Rattle.std.proofs.Common.{◌≡◌, take}
use Rattle.std.specs.List.{flat_map}
use Rattle.roc_server_taken.proofs.taken.members_of.Given as goal

-- the members of those so far, one after another
abbrev pub invariant-loop-component : goal.invariant-loop-component
invariant-loop-component l = l.ids.items ≡ flat_map (λ c. c) (take l.component-index l.components)
