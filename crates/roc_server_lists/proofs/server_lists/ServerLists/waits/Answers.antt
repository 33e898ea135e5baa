use Rattle.std.proofs.Common.{◌∙◌, not, filter, ap}
use Rattle.roc_depgraph.specs.Deps.{is_known}
use Rattle.roc_step.specs.declared.waits.OpenFetch.{OpenFetch}
use Rattle.roc_server_lists.specs.ListsNow.{ListsNow}
use Rattle.roc_server_lists.proofs.Held.{open_unknown}
use Rattle.roc_server_lists.proofs.server_lists.ServerLists.waits.Goals as goal

pub returns-clause-open : goal.returns-clause-open
returns-clause-open c =
    open_unknown c.self.inside.parts c.self.inside.trial c.self.invariant
    ∙ ap (λ (v : ListsNow). filter (λ (a : OpenFetch). not (is_known v.kept.lists.known a.id)) v.kept.lists.waiting.asked) c.self.view_is
