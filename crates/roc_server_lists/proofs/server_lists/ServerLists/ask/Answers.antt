use Rattle.std.proofs.Common.{List, OnOk, subst}
use Rattle.roc_step.specs.declared.started.StartedGroup.{StartedGroup}
use Rattle.roc_server_groups.specs.GroupsNow.{groups_without}
use Rattle.roc_server_lists.specs.ListsNow.{lists_behind, over_of, IsNoneLeft, ListsNow}
use Rattle.roc_server_lists.specs.Inner.Trials.{lists_now}
use Rattle.roc_server_lists.proofs.Sound.{sound_of}
use Rattle.roc_server_lists.proofs.server_lists.ServerLists.ask.Goals as goal

pub returns-clause-left : goal.returns-clause-left
returns-clause-left c =
    let now : ListsNow = lists_now c.ask.new.parts c.ask.new.trial in
    subst (λ (v : ListsNow). OnOk c.ask.result ((started : List StartedGroup) → IsNoneLeft started v.kept.lists → IsNoneLeft (groups_without (over_of now.tried) started) (lists_behind now).lists))
    c.self.view_is c.ask.ensures.left

pub returns-clause-sound : goal.returns-clause-sound
returns-clause-sound c = sound_of c.ask.new.parts c.ask.new.trial c.ask.ensures.held
