use Rattle.std.proofs.Common.{option_copied, Some, sym, subst}
use Rattle.std.proofs.lemmas.Result.{IfOk-weaker}
use Rattle.roc_law_protocol.specs.declared.event.Kept.{Kept}
use Rattle.roc_growth.specs.declared.event.Event.TheVariants as event
use Rattle.roc_world.specs.Inner.Parts.{world_of, Leads}
use Rattle.roc_world.proofs.Events.{stops_unrecorded, stops_recorded}
use Rattle.roc_world.proofs.happen.stop_at.Goals as goal

pub returns-in-Lost : goal.returns-in-Lost
returns-in-Lost c =
    let w = world_of c.args.parts.now in
    let next = option_copied c.args.next in
    let k = c.args.number in
    let sent = c.requires.event.1 in
    IfOk-weaker c.start_again.result _ _
    (λ what h. subst (λ (kept : Kept). Leads c.args.plan.now next w (event.Stop c.args.shard (Some (k, kept))) what (world_of c.start_again.new.parts)) (sym c.in-Lost.is)
    (stops_unrecorded c.args.plan.now next w c.args.shard k sent.0 sent.1 what c.note_delivery.new.self (world_of c.start_again.new.parts) h.0 c.note_delivery.ensures h.1))
    c.start_again.ensures

pub returns-in-Ok : goal.returns-in-Ok
returns-in-Ok c =
    let w = world_of c.args.parts.now in
    let next = option_copied c.args.next in
    let k = c.args.number in
    IfOk-weaker c.start_again-in-Ok.result _ _
    (λ what h. subst (λ (kept : Kept). Leads c.args.plan.now next w (event.Stop c.args.shard (Some (k, kept))) what (world_of c.start_again-in-Ok.new.parts)) (sym c.in-Sent.is)
    (stops_recorded c.args.plan.now next w c.args.shard k c.in-Sent.many what (world_of c.take_cut.new.parts) (world_of c.start_again-in-Ok.new.parts) h.0 c.in-Ok.ensures h.1))
    c.start_again-in-Ok.ensures
