use Rattle.std.proofs.Common.{◌≡◌, OnOk, subst}
use Rattle.roc_step.specs.State.{ServerState}
use Rattle.roc_server_lists.specs.ListsNow.{lists_of, IsTaught, IsTried, ListsNow}
use Rattle.roc_server_lists.specs.Inner.Trials.{lists_now}
use Rattle.roc_server_lists.proofs.Sound.{sound_of}
use Rattle.roc_server_lists.proofs.server_lists.ServerLists.teach.Goals as goal

pub returns-clause-ok : goal.returns-clause-ok
returns-clause-ok c =
    subst (λ (v : ListsNow). OnOk c.teach.result ((s : ServerState) → s.shard ≡ c.args.shard → s.started ≡ c.args.started.now.groups → lists_of s ≡ v.kept
    → IsTried (IsTaught s v.decided c.args.news.items) (lists_now c.teach.new.parts c.teach.new.trial).tried)) c.self.view_is c.teach.ensures.ok

pub returns-clause-sound : goal.returns-clause-sound
returns-clause-sound c = sound_of c.teach.new.parts c.teach.new.trial c.teach.ensures.held
