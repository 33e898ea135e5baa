use Rattle.std.proofs.Common.{◌∙◌, ◌++◌, ◌∷◌, [], Bool, map, filter, sym, ap}
use Rattle.roc_sequence.proofs.Fronts.{front_whole}
use Rattle.roc_base.specs.declared.id.TxnId.{TxnId}
use Rattle.roc_base.specs.Edge.{Dependency}
use Rattle.roc_server_groups.proofs.Pairs.{passed_more, failed_more}
use Rattle.roc_server_lists.specs.Inner.Finding.{is_done_with}
use Rattle.roc_server_lists.proofs.missing.done_of.Goals as goal
use Rattle.roc_server_lists.proofs.missing.done_of.Goals.{then-is_done_with+in_ok-push, else-is_done_with}

pub loop-edge-preserved : goal.loop-edge-preserved
loop-edge-preserved c =
    let done : Dependency → Bool = is_done_with c.args.shard c.args.started.now.groups c.args.parts.now.marks c.args.parts.now.table.known in
    let item = sym c.edge-item.is in
    elim c.if-is_done_with.branch [
      | then-is_done_with+in_ok-push w ↦
          passed_more (λ (d : Dependency). d.from) done c.args.edges.now c.loop-edge.edge-index c.edge-item.result c.loop-edge-test.true [] c.loop-edge.done.items c.loop-edge.invariant c.if-is_done_with.done.items
          (ap done item ∙ sym c.is_done_with.ensures ∙ w.if-is_done_with.true)
          (ap (λ v. v.items) w.done-is ∙ w.in_ok-push.ensures.items ∙ ap (λ (t : TxnId). c.loop-edge.done.items ++ t ∷ []) (w.from.ensures.value ∙ ap (λ (d : Dependency). d.from) (sym item)))
      | else-is_done_with w ↦
          failed_more (λ (d : Dependency). d.from) done c.args.edges.now c.loop-edge.edge-index c.edge-item.result c.loop-edge-test.true [] c.loop-edge.done.items c.loop-edge.invariant c.if-is_done_with.done.items
          (ap done item ∙ sym c.is_done_with.ensures ∙ w.if-is_done_with.false) (ap (λ v. v.items) w.done-is)
    ]

pub returns : goal.returns
returns c =
    c.loop-edge.invariant
    ∙ ap (λ es. map (λ d. d.from) (filter (is_done_with c.args.shard c.args.started.now.groups c.args.parts.now.marks c.args.parts.now.table.known) es))
    (front_whole c.args.edges.now c.loop-edge.edge-index c.loop-edge-test.false)
