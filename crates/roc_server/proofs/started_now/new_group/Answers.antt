use Rattle.std.proofs.Common.{◌∙◌}
use Rattle.roc_server.specs.Inner.Starts.{asked}
use Rattle.roc_server.proofs.StartedParts.{new_in_state, edges_of_state}
use Rattle.roc_server.proofs.started_now.new_group.Goals as goal

pub returns-clause-new : goal.returns-clause-new
returns-clause-new c =
    let k = c.args.parts.now in
    let r = c.args.request in
    let plan = c.args.plan.now in
    let b = c.in_ok-bound.ensures in
    let f = c.in_ok-facts.ensures in
    let edges = edges_of_state plan k c.requires.idle c.args.shard r.id (asked r) c.is_immediate-immediate.result c.as_slice.result.now c.is_immediate-immediate.ensures (c.as_slice.ensures ∙ b.cells) c.in_ok-edges.edges c.in_ok-edges.ensures in
    new_in_state plan k c.requires.idle c.args.shard c.begin_group.new.rows.store r.id (asked r) c.in_ok-bound.field-0.cells c.in_ok-bound.field-0.bound c.in_ok-bound.field-0.outs c.in_ok-edges.edges c.in_ok-facts.facts
    c.table.result.now.known c.table.result.now.links c.as_slice-2.result.now
    b.cells b.bound b.outs b.store edges (c.table.ensures.known c.requires.idle.lists) (c.table.ensures.links c.requires.idle.lists) c.as_slice-2.ensures.entries f
