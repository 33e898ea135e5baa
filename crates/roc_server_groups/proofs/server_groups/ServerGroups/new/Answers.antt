use Rattle.std.proofs.Common.{◌≡◌, [], ◌∙◌, refl}
use Rattle.roc_server_groups.specs.Inner.Restored.{restored}
use Rattle.roc_server_groups.proofs.Restored.{restored-none}
use Rattle.roc_server_groups.proofs.Tried.{are_once, none_tried, tried_none}
use Rattle.roc_server_groups.proofs.server_groups.ServerGroups.new.Goals as goal
use Rattle.roc_server_groups.proofs.server_groups.ServerGroups.new.Goals.{After-new-3}

none_kept : (c : After-new-3) → restored c.new-3.result.items c.new.result.groups ≡ []
none_kept c = restored-none c.new-3.result.items c.new.result.groups c.new-3.ensures.items ∙ c.new.ensures

pub invariant_of-result : goal.invariant_of-result
invariant_of-result c = tried_none [] (restored c.new-3.result.items c.new.result.groups) [] c.new.result.spare c.new-2.result (none_kept c) refl tt

pub returns-clause-kept : goal.returns-clause-kept
returns-clause-kept c = none_kept c

pub returns-clause-untried : goal.returns-clause-untried
returns-clause-untried c = none_tried c.new-3.result.items c.new.result.groups [] c.new-2.result c.new-3.ensures.items refl

pub returns-clause-once : goal.returns-clause-once
returns-clause-once c = are_once c.new-3.result.items c.new.result.groups [] c.new.result.spare c.new-2.result (tried_none [] (restored c.new-3.result.items c.new.result.groups) [] c.new.result.spare c.new-2.result (none_kept c) refl tt)
