use Rattle.std.proofs.Common.{◌∙◌, ap}
use Rattle.roc_server.specs.State.{Serving}
use Rattle.roc_server.proofs.server.Server.restart.Goals as goal

pub returns-clause-state : goal.returns-clause-state
returns-clause-state c = c.let_go.ensures.state c.self.inside.shard ∙ ap (λ (v : Serving). v.state) c.self.view_is
