use Rattle.std.proofs.Common.{◌≡◌, List, OnOk, subst}
use Rattle.roc_step.specs.State.{ServerState}
use Rattle.roc_step.specs.declared.started.StartedGroup.{StartedGroup}
use Rattle.roc_server_groups.specs.GroupsNow.{groups_without}
use Rattle.roc_server_lists.specs.ListsNow.{lists_behind, lists_of, over_of, IsHeard, IsNoneLeft, IsTried, ListsNow}
use Rattle.roc_server_lists.specs.Inner.Trials.{lists_now}
use Rattle.roc_server_lists.proofs.Sound.{sound_of}
use Rattle.roc_server_lists.proofs.server_lists.ServerLists.hear.Goals as goal

pub returns-clause-ok : goal.returns-clause-ok
returns-clause-ok c =
    subst (λ (v : ListsNow). OnOk c.hear.result ((s : ServerState) → lists_of s ≡ v.kept → IsTried (IsHeard s c.args.coord c.args.mark) (lists_now c.hear.new.parts c.hear.new.trial).tried)) c.self.view_is c.hear.ensures.ok

pub returns-clause-left : goal.returns-clause-left
returns-clause-left c =
    let now : ListsNow = lists_now c.hear.new.parts c.hear.new.trial in
    subst (λ (v : ListsNow). OnOk c.hear.result ((started : List StartedGroup) → IsNoneLeft started v.kept.lists → IsNoneLeft (groups_without (over_of now.tried) started) (lists_behind now).lists))
    c.self.view_is c.hear.ensures.left

pub returns-clause-sound : goal.returns-clause-sound
returns-clause-sound c = sound_of c.hear.new.parts c.hear.new.trial c.hear.ensures.held
