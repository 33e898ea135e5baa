use Rattle.std.proofs.Common.{◌≡◌, ◌∙◌, ◌++◌, [], Option, sym, ap, subst}
use Rattle.std.specs.Option.{option_to_list}
use Rattle.roc_sequence.specs.Lists.{Has}
use Rattle.roc_step.specs.declared.started.StartedGroup.{StartedGroup}
use Rattle.roc_server_groups.specs.GroupsNow.{groups_behind, groups_without, GroupsNow}
use Rattle.roc_server_groups.specs.Indexed.{AreGroupRefsOf, IsIndexOf}
use Rattle.roc_server_groups.specs.Inner.Tried.{AreTried}
use Rattle.roc_server_groups.specs.Inner.Restored.{restored}
use Rattle.roc_server_groups.proofs.Restored.{restored-none}
use Rattle.roc_server_groups.proofs.Tried.{absent_same, are_once, enters_same, index_same, none_tried, once_behind, once_ran, refs_same, restored_same, tried_none}
use Rattle.roc_server_groups.proofs.server_groups.ServerGroups.release.Goals as goal
use Rattle.roc_server_groups.proofs.server_groups.ServerGroups.release.Goals.{After-clear}

pub keep_tried-requires-clause-refs : goal.keep_tried-requires-clause-refs
keep_tried-requires-clause-refs c =
    let was = c.self.inside in
    refs_same was.index (restored was.earlier.items was.started.groups) was.started.groups (restored_same was.earlier.items was.started.groups)
    (subst (λ (g : GroupsNow). AreGroupRefsOf g.kept g.index) (sym c.self.view_is) c.requires.refs)

pub keep_tried-requires-clause-enters : goal.keep_tried-requires-clause-enters
keep_tried-requires-clause-enters c e h =
    let was = c.self.inside in
    enters_same (restored was.earlier.items was.started.groups) was.started.groups e was.started.spare was.index (restored_same was.earlier.items was.started.groups)
    (c.self.invariant.enters e (subst (λ (o : Option StartedGroup). Has e (option_to_list o)) c.replace-starting.ensures.value h))

-- what is kept behind the step
behind : (c : After-clear) → restored c.clear.new.self.items c.keep_tried.new.started.groups ≡ groups_without c.args.over.now (c.self.inside.started.groups ++ option_to_list c.self.inside.starting)
behind c =
    restored-none c.clear.new.self.items c.keep_tried.new.started.groups c.clear.ensures.items ∙ c.keep_tried.ensures.groups
    ∙ ap (λ (o : Option StartedGroup). groups_without c.args.over.now (c.self.inside.started.groups ++ option_to_list o)) c.replace-starting.ensures.value

none_starts : (c : After-clear) → option_to_list c.replace-starting.new.dest ≡ []
none_starts c = ap option_to_list c.replace-starting.ensures.after

tried : (c : After-clear) → AreTried (restored c.clear.new.self.items c.keep_tried.new.started.groups) c.keep_tried.new.started.spare (option_to_list c.replace-starting.new.dest) c.keep_tried.new.index
tried c =
    let was = c.self.inside in
    let kept = restored was.earlier.items was.started.groups in
    tried_none (groups_without c.args.over.now (was.started.groups ++ option_to_list was.starting)) (restored c.clear.new.self.items c.keep_tried.new.started.groups) (option_to_list c.replace-starting.new.dest)
    c.keep_tried.new.started.spare c.keep_tried.new.index (behind c) (none_starts c)
    (once_behind was.started.groups was.starting c.args.over.now (once_ran was.earlier.items was.started.groups c.self.invariant.once)
    (λ e h. absent_same kept was.started.groups e (restored_same was.earlier.items was.started.groups) (c.self.invariant.enters e h).absent))

pub invariant_of-self : goal.invariant_of-self
invariant_of-self c = tried c

pub returns-clause-kept : goal.returns-clause-kept
returns-clause-kept c = behind c ∙ ap (groups_behind c.args.over.now) c.self.view_is

pub returns-clause-untried : goal.returns-clause-untried
returns-clause-untried c =
    none_tried c.clear.new.self.items c.keep_tried.new.started.groups (option_to_list c.replace-starting.new.dest) c.keep_tried.new.index c.clear.ensures.items (none_starts c)

pub returns-clause-index : goal.returns-clause-index
returns-clause-index c before after h d undecided =
    let was = c.self.inside in
    let kept = restored was.earlier.items was.started.groups in
    let ran = index_same was.index before kept was.started.groups (restored_same was.earlier.items was.started.groups) (subst (λ (g : GroupsNow). IsIndexOf g.index before g.kept) (sym c.self.view_is) h) in
    let starting = ap option_to_list c.replace-starting.ensures.value ∙ ap (λ (g : GroupsNow). g.starting) c.self.view_is in
    subst (IsIndexOf c.keep_tried.new.index after) (sym (restored-none c.clear.new.self.items c.keep_tried.new.started.groups c.clear.ensures.items))
    (c.keep_tried.ensures.index before after ran d (λ e k. undecided e (subst (Has e) starting k)))

pub returns-clause-once : goal.returns-clause-once
returns-clause-once c =
    are_once c.clear.new.self.items c.keep_tried.new.started.groups (option_to_list c.replace-starting.new.dest) c.keep_tried.new.started.spare c.keep_tried.new.index (tried c)
