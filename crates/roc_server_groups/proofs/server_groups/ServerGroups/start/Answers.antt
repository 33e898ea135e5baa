use Rattle.std.proofs.Common.{◌≡◌, None, sym, ap, subst}
use Rattle.std.specs.Option.{option_to_list}
use Rattle.roc_step.specs.State.{find_group}
use Rattle.roc_server_groups.specs.GroupsNow.{GroupsNow}
use Rattle.roc_server_groups.specs.Inner.Restored.{restored}
use Rattle.roc_server_groups.proofs.Tried.{are_once, tried_none, tried_start}
use Rattle.roc_server_groups.proofs.server_groups.ServerGroups.start.Goals as goal

pub returns-in-Ok-clause-once : goal.returns-in-Ok-clause-once
returns-in-Ok-clause-once c =
    let was = c.self.inside in
    let now = c.make_room.new in
    let e = c.args.group in
    let starting = c.set_starting.new.starting in
    let kept = restored was.earlier.items was.started.groups in
    let absent : find_group e.id e.group kept ≡ None = subst (λ (g : GroupsNow). find_group e.id e.group g.kept ≡ None) (sym c.self.view_is) c.requires.absent in
    are_once was.earlier.items now.started.groups (option_to_list starting) now.started.spare now.index
    (tried_start kept (restored was.earlier.items now.started.groups) starting e now.started.spare now.index (ap (restored was.earlier.items) c.make_room.ensures.groups) c.set_starting.ensures c.self.invariant.once absent
    (c.in-Ok.ensures.ok e c.set_starting.ensures))

pub returns-in-Err-clause-once : goal.returns-in-Err-clause-once
returns-in-Err-clause-once c =
    let was = c.self.inside in
    let now = c.make_room.new in
    let starting = option_to_list c.set_starting-in-Err.new.starting in
    are_once was.earlier.items now.started.groups starting now.started.spare now.index
    (tried_none (restored was.earlier.items was.started.groups) (restored was.earlier.items now.started.groups) starting now.started.spare now.index
    (ap (restored was.earlier.items) c.make_room.ensures.groups) (ap option_to_list c.set_starting-in-Err.ensures) c.self.invariant.once)
