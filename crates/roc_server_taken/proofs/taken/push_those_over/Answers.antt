use Rattle.std.proofs.Common.{◌++◌, ◌∙◌, cond, List, [], take, sym, ap, append_assoc}
use Rattle.roc_base.specs.declared.id.TxnId.{TxnId}
use Rattle.roc_step.specs.Forgets.{is_over, over}
use Rattle.roc_server_taken.proofs.OverAdded.{more_over}
use Rattle.roc_server_taken.proofs.taken.push_those_over.Goals as goal

pub loop-component-preserved : goal.loop-component-preserved
loop-component-preserved c =
    let below = c.args.marks.now in
    let cs = c.args.components.now in
    let i = c.loop-component.component-index in
    let m = c.component-item.result in
    let first = c.args.ids.now.items in
    let added : List TxnId = cond (is_over below m) m [] in
    c.in_ok-push_if_over.ensures
    ∙ (λ j. c.loop-component.invariant j ++ (let lent = c.as_slice.ensures j in cond (is_over below lent) lent []))
    ∙ append_assoc first (over below (take i cs)) added
    ∙ ap (λ l. first ++ l) (sym (more_over below cs i m c.loop-component-test.true c.component-item.is))
