use Rattle.std.proofs.Common.{◌∙◌, ap, subst, sym}
use Rattle.roc_server.specs.Ahead.{ServingFits}
use Rattle.roc_step.specs.Fits.{AreGroupsOf, AreReadsOf}
use Rattle.roc_server.specs.Inner.Held.{serving}
use Rattle.roc_step.specs.Renewed.{renewed}
use Rattle.roc_step.specs.State.{ServerState, Viewing}
use Rattle.roc_server.specs.State.{Serving}
use Rattle.roc_server.proofs.server.Server.renew.Goals as goal

pub returns-clause-state : goal.returns-clause-state
returns-clause-state c =
    let shard = c.self.inside.shard in
    c.renew.ensures.state shard ∙ ap renewed (c.let_go.ensures.state shard ∙ ap (λ (v : Serving). v.state) c.self.view_is)

pub returns-clause-fits : goal.returns-clause-fits
returns-clause-fits c plan =
    let shard = c.self.inside.shard in
    let groups : AreGroupsOf plan c.renew.new.parts.groups.kept = subst (AreGroupsOf plan) (sym (ap (λ (s : ServerState). s.started) (c.renew.ensures.state shard))) tt in
    let reads : AreReadsOf plan c.drop_reads.new.views.reads.items = subst (AreReadsOf plan) (sym (ap (λ (v : Viewing). v.reads) c.drop_reads.ensures)) tt in
    subst (λ ahead. ServingFits plan (serving shard c.renew.new.parts c.drop_reads.new.views ahead)) (sym c.let_go.ensures.none) (groups, reads, tt)
