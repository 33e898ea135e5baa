use Rattle.std.proofs.Common.{◌∙◌, sym, ap, subst}
use Rattle.roc_server.specs.Ahead.{ServingFits}
use Rattle.roc_server.specs.Inner.Held.{serving}
use Rattle.roc_server.specs.State.{Serving}
use Rattle.roc_server.proofs.GivenOut.{let_go_fits}
use Rattle.roc_server.proofs.server.Server.give_up.Goals as goal

pub returns-clause-state : goal.returns-clause-state
returns-clause-state c = c.let_go.ensures.state c.self.inside.shard ∙ ap (λ (v : Serving). v.state) c.self.view_is

pub returns-clause-fits : goal.returns-clause-fits
returns-clause-fits c plan fits =
    let shard = c.self.inside.shard in
    let was : ServingFits plan (serving shard c.self.inside.parts c.self.inside.views c.self.inside.ahead) = subst (ServingFits plan) (sym c.self.view_is) fits in
    let_go_fits plan shard c.let_go.new.parts c.self.inside.views c.let_go.new.ahead (serving shard c.self.inside.parts c.self.inside.views c.self.inside.ahead).state c.let_go.ensures.none (c.let_go.ensures.state shard) was.0 was.1
