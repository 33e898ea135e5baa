use Rattle.std.specs.Option.{option_to_list}
use Rattle.roc_server_groups.specs.Inner.Restored.{restored}
use Rattle.roc_server_groups.proofs.Tried.{are_once, once_ran, tried_ran}
use Rattle.roc_server_groups.proofs.server_groups.ServerGroups.run.Goals as goal

pub run_decided-requires-clause-once : goal.run_decided-requires-clause-once
run_decided-requires-clause-once c = once_ran c.self.inside.earlier.items c.self.inside.started.groups c.self.invariant.once

pub returns-clause-once : goal.returns-clause-once
returns-clause-once c =
    let now = c.run_decided.new in
    let was = c.self.inside in
    let starting = option_to_list was.starting in
    are_once now.earlier.items now.started.groups starting now.started.spare was.index
    (tried_ran (restored was.earlier.items was.started.groups) (restored now.earlier.items now.started.groups) starting was.started.spare now.started.spare was.index c.run_decided.ensures.restored c.run_decided.ensures.spare c.self.invariant)
