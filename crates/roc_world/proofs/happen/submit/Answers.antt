use Rattle.std.proofs.Common.{option_copied, ℤ, List, Ok, refl, rules, subst}
use Rattle.std.proofs.lemmas.Result.{IfOk-weaker}
use Rattle.roc_world.specs.Inner.Nodes.{CoordSubmits}
use Rattle.roc_world.specs.Inner.Parts.{world_of}
use Rattle.roc_world.proofs.Submissions.{accepted, draining_happens, no_proc_happens, busy_happens, spent_happens}
use Rattle.roc_world.proofs.happen.submit.Goals as goal

pub returns-in-Ok : goal.returns-in-Ok
returns-in-Ok c =
    let w = world_of c.args.parts.now in
    let next = option_copied c.args.next in
    IfOk-weaker c.note_submitted.result _ _
    (λ what h. accepted c.args.plan.now next w c.args.coord c.args.proc c.args.args.now c.submit_at.new.coords.items c.new-outbox.result c.submit_at.new.outbox c.requires.event.1 c.in-Ok.id c.in-Ok.switched what
    (world_of c.note_submitted.new.parts) c.new-outbox.ensures.messages
    (subst (λ (args : List ℤ). CoordSubmits c.args.plan.now next c.args.coord c.args.proc args (Ok (c.in-Ok.id, c.in-Ok.switched)) w.coords c.submit_at.new.coords.items c.new-outbox.result c.submit_at.new.outbox)
    c.as_slice.ensures (c.in-Ok.ensures refl))
    h.0 h.1)
    c.note_submitted.ensures

pub returns-in-Err-Draining : goal.returns-in-Err-Draining
returns-in-Err-Draining c =
    draining_happens c.args.plan.now (option_copied c.args.next) (world_of c.args.parts.now) c.args.coord c.args.proc c.args.args.now c.submit_at.new.coords.items c.new-outbox.result c.submit_at.new.outbox c.requires.event.1
    c.as_slice.result.now c.as_slice.ensures c.in-Err-Draining.field-0 c.in-Err-Draining.ensures (search rules)

pub returns-in-Err-Plain-NoProc : goal.returns-in-Err-Plain-NoProc
returns-in-Err-Plain-NoProc c =
    no_proc_happens c.args.plan.now (option_copied c.args.next) (world_of c.args.parts.now) c.args.coord c.args.proc c.args.args.now c.submit_at.new.coords.items c.new-outbox.result c.submit_at.new.outbox c.requires.event.1
    c.as_slice.result.now c.as_slice.ensures c.in-Err-Plain-NoProc.field-0 c.in-Err-Plain-NoProc.ensures (search rules)

pub returns-in-Err-Plain-Spent : goal.returns-in-Err-Plain-Spent
returns-in-Err-Plain-Spent c =
    spent_happens c.args.plan.now (option_copied c.args.next) (world_of c.args.parts.now) c.args.coord c.args.proc c.args.args.now c.submit_at.new.coords.items c.new-outbox.result c.submit_at.new.outbox c.requires.event.1
    c.as_slice.result.now c.as_slice.ensures c.in-Err-Plain-Spent.field-0 c.in-Err-Plain-Spent.ensures (search rules)

pub returns-in-Err-Plain-Busy : goal.returns-in-Err-Plain-Busy
returns-in-Err-Plain-Busy c =
    busy_happens c.args.plan.now (option_copied c.args.next) (world_of c.args.parts.now) c.args.coord c.args.proc c.args.args.now c.submit_at.new.coords.items c.new-outbox.result c.submit_at.new.outbox c.requires.event.1
    c.as_slice.result.now c.as_slice.ensures c.in-Err-Plain-Busy.field-0 c.in-Err-Plain-Busy.ensures (search rules)
