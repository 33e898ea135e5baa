use Rattle.std.proofs.Common.{option_copied, ℕ, Option, sym, subst}
use Rattle.std.proofs.lemmas.Result.{IfOk-weaker}
use Rattle.roc_law_protocol.specs.declared.event.Kept.{Kept}
use Rattle.roc_growth.specs.declared.event.Event.TheVariants as event
use Rattle.roc_world.specs.Inner.Parts.{world_of, Leads}
use Rattle.roc_world.proofs.Events.{stops_at_rest}
use Rattle.roc_world.proofs.happen.stop.Goals as goal

pub returns-in-None : goal.returns-in-None
returns-in-None c =
    let w = world_of c.args.parts.now in
    let next = option_copied c.args.next in
    IfOk-weaker c.start_again.result _ _
    (λ what h. subst (λ (d : Option (ℕ × Kept)). Leads c.args.plan.now next w (event.Stop c.args.shard d) what (world_of c.start_again.new.parts)) (sym c.in-None.is)
    (stops_at_rest c.args.plan.now next w c.args.shard what (world_of c.start_again.new.parts) h.0 h.1))
    c.start_again.ensures
