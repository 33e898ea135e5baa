use Rattle.std.proofs.Common.{Bool, ◌&&◌, not, ◌∙◌, ◌++◌, ◌∷◌, [], map, filter, sym, ap}
use Rattle.roc_sequence.specs.Places.{is_listed}
use Rattle.roc_sequence.proofs.Fronts.{front_whole}
use Rattle.roc_base.specs.TxnId.{is_txn}
use Rattle.roc_base.specs.Edge.{Dependency}
use Rattle.roc_step.specs.declared.waits.OpenFetch.{OpenFetch}
use Rattle.roc_server_groups.proofs.Pairs.{passed_more, failed_more}
use Rattle.roc_server_lists.specs.ListsNow.{is_missing_at}
use Rattle.roc_server_lists.specs.Inner.Finding.{asked_by}
use Rattle.roc_server_lists.proofs.missing.missing_from.Goals as goal
use Rattle.roc_server_lists.proofs.missing.missing_from.Goals.{then-is_lacking+in_ok-push, else-is_lacking}

pub loop-edge-preserved : goal.loop-edge-preserved
loop-edge-preserved c =
    let k = c.args.parts.now in
    let lacking : Dependency → Bool = λ d. not (is_listed is_txn c.args.done.now d.from) && is_missing_at c.args.started.now.groups k.table.links k.waits.waiting.asked d in
    let item = sym c.edge-item.is in
    elim c.if-is_lacking.branch [
      | then-is_lacking+in_ok-push w ↦
          passed_more (asked_by k.marks k.table.known) lacking c.args.edges.now c.loop-edge.edge-index c.edge-item.result c.loop-edge-test.true [] c.loop-edge.asks.items c.loop-edge.invariant c.if-is_lacking.asks.items
          (ap lacking item ∙ sym c.is_lacking.ensures ∙ w.if-is_lacking.true)
          (ap (λ v. v.items) w.asks-is ∙ w.in_ok-push.ensures.items ∙ ap (λ (a : OpenFetch). c.loop-edge.asks.items ++ a ∷ []) (w.ask_for.ensures ∙ ap (asked_by k.marks k.table.known) (sym item)))
      | else-is_lacking w ↦
          failed_more (asked_by k.marks k.table.known) lacking c.args.edges.now c.loop-edge.edge-index c.edge-item.result c.loop-edge-test.true [] c.loop-edge.asks.items c.loop-edge.invariant c.if-is_lacking.asks.items
          (ap lacking item ∙ sym c.is_lacking.ensures ∙ w.if-is_lacking.false) (ap (λ v. v.items) w.asks-is)
    ]

pub returns : goal.returns
returns c =
    let k = c.args.parts.now in
    c.loop-edge.invariant
    ∙ ap (λ es. map (asked_by k.marks k.table.known) (filter (λ d. not (is_listed is_txn c.args.done.now d.from) && is_missing_at c.args.started.now.groups k.table.links k.waits.waiting.asked d) es))
    (front_whole c.args.edges.now c.loop-edge.edge-index c.loop-edge-test.false)
