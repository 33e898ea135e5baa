use Rattle.std.proofs.Common.{◌≡◌, ◌∙◌, [], Vec, Global, ap}
use Rattle.std.specs.Option.{option_to_list}
use Rattle.roc_server_groups.specs.declared.runs.Earlier.{Earlier}
use Rattle.roc_server_groups.specs.GroupsNow.{GroupsNow}
use Rattle.roc_server_groups.specs.Inner.Tried.{AreTried}
use Rattle.roc_server_groups.specs.Inner.Restored.{restored}
use Rattle.roc_server_groups.proofs.Restored.{restored-none}
use Rattle.roc_server_groups.proofs.Tried.{are_once, none_tried, tried_none}
use Rattle.roc_server_groups.proofs.server_groups.ServerGroups.rollback.Goals as goal
use Rattle.roc_server_groups.proofs.server_groups.ServerGroups.rollback.Goals.{After-set_starting}

none_noted : (c : After-set_starting) → c.replace-earlier.new.dest.items ≡ []
none_noted c = ap (λ (ws : Vec Earlier Global). ws.items) c.replace-earlier.ensures.after ∙ c.new.ensures.items

kept_still : (c : After-set_starting) → restored c.replace-earlier.new.dest.items c.put_back.new.started.groups ≡ restored c.self.inside.earlier.items c.self.inside.started.groups
kept_still c =
    restored-none c.replace-earlier.new.dest.items c.put_back.new.started.groups (none_noted c) ∙ c.put_back.ensures
    ∙ ap (λ (ws : Vec Earlier Global). restored ws.items c.self.inside.started.groups) c.replace-earlier.ensures.value

none_starts : (c : After-set_starting) → option_to_list c.set_starting.new.starting ≡ []
none_starts c = ap option_to_list c.set_starting.ensures

tried : (c : After-set_starting) → AreTried (restored c.replace-earlier.new.dest.items c.put_back.new.started.groups) c.put_back.new.started.spare (option_to_list c.set_starting.new.starting) c.self.inside.index
tried c =
    tried_none (restored c.self.inside.earlier.items c.self.inside.started.groups) (restored c.replace-earlier.new.dest.items c.put_back.new.started.groups) (option_to_list c.set_starting.new.starting)
    c.put_back.new.started.spare c.self.inside.index (kept_still c) (none_starts c) c.self.invariant.once

pub invariant_of-self : goal.invariant_of-self
invariant_of-self c = tried c

pub returns-clause-kept : goal.returns-clause-kept
returns-clause-kept c = kept_still c ∙ ap (λ (g : GroupsNow). g.kept) c.self.view_is

pub returns-clause-untried : goal.returns-clause-untried
returns-clause-untried c =
    none_tried c.replace-earlier.new.dest.items c.put_back.new.started.groups (option_to_list c.set_starting.new.starting) c.self.inside.index (none_noted c) (none_starts c)

pub returns-clause-once : goal.returns-clause-once
returns-clause-once c =
    are_once c.replace-earlier.new.dest.items c.put_back.new.started.groups (option_to_list c.set_starting.new.starting) c.put_back.new.started.spare c.self.inside.index (tried c)
