-- Started groups, and a server's state with others
use Rattle.std.specs.Prelude.{◌≡◌, Bool, List, map}
use Rattle.roc_rows.specs.Store.{Store}
use Rattle.roc_step.specs.declared.started.StartedGroup.{StartedGroup}
use Rattle.roc_step.specs.State.{is_group, unrun, ServerState}

-- the two are the same group of one transaction
abbrev pub is_same_group : StartedGroup → StartedGroup → Bool
is_same_group a b = is_group a.id a.group b

-- the same groups, whatever they gave
abbrev pub AreSameGroups : List StartedGroup → List StartedGroup → Type 0
AreSameGroups old new = map unrun new ≡ map unrun old

-- the same with these cells and groups
abbrev pub holding : ServerState → Store → List StartedGroup → ServerState
holding s store started = record s { store = store; started = started }
