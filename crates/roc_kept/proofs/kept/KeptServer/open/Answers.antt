use Rattle.std.proofs.Common.{◌≡◌, None, [], ap, subst, IfOk}
use Rattle.roc_base.specs.declared.node.Shard.{Shard}
use Rattle.roc_step.specs.State.{ServerState}
use Rattle.roc_kept.specs.Kept.{IsFrom, IsKeptOn, IsNewKeeper, StandsForSome}
use Rattle.roc_kept.specs.Opening.{RefusesRightly}
use Rattle.roc_kept.proofs.Opened.{first_here}
use Rattle.roc_kept.proofs.kept.KeptServer.open.Goals as goal

pub open_with-requires-clause-first : goal.open_with-requires-clause-first
open_with-requires-clause-first g c = first_here c.args.plan.now c.args.shard c.in-Ok.first.state c.in-Ok.ensures.first

pub returns-in-Ok-clause-opened : goal.returns-in-Ok-clause-opened
returns-in-Ok-clause-opened g c = λ tells.
    subst (λ (shard : Shard). IfOk c.open_with.result (λ kept. IsKeptOn g.D.Disk c.open_with.new.disk c.args.plan.now c.args.name.now c.args.tag kept.server.state kept.server.viewing kept.keeper
    × IsFrom c.args.plan.now c.args.tag shard (g.D.Disk.content c.args.disk.now c.args.name.now) kept.server.state kept.server.viewing))
    (ap (λ (s : ServerState). s.shard) c.in-Ok.ensures.first) (c.open_with.ensures.opened tells)

pub returns-in-Ok-clause-refused : goal.returns-in-Ok-clause-refused
returns-in-Ok-clause-refused g c = λ tells.
    subst (λ (shard : Shard). RefusesRightly c.args.plan.now c.args.tag shard (g.D.Disk.content c.args.disk.now c.args.name.now) c.open_with.result)
    (ap (λ (s : ServerState). s.shard) c.in-Ok.ensures.first) (c.open_with.ensures.refused tells)

pub returns-in-Ok-clause-fresh : goal.returns-in-Ok-clause-fresh
returns-in-Ok-clause-fresh g c =
    subst (λ (shard : Shard). IfOk c.open_with.result (λ kept. IsNewKeeper c.args.tag kept.keeper × (kept.server.ahead ≡ None) × (kept.server.viewing.reads ≡ []) × (kept.server.state.shard ≡ shard)))
    (ap (λ (s : ServerState). s.shard) c.in-Ok.ensures.first) c.open_with.ensures.fresh

pub returns-in-Ok-clause-stands : goal.returns-in-Ok-clause-stands
returns-in-Ok-clause-stands g c =
    subst (λ (shard : Shard). IfOk c.open_with.result (λ kept. StandsForSome c.args.plan.now shard kept.server.state kept.server.viewing)) (ap (λ (s : ServerState). s.shard) c.in-Ok.ensures.first) c.open_with.ensures.stands
