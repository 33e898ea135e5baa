use Rattle.std.proofs.Common.{List, sym, subst}
use Rattle.std.proofs.lemmas.Result.{IfOk-weaker}
use Rattle.std.specs.Prelude.{IfOk}
use Rattle.roc_base.specs.declared.id.TxnId.{TxnId}
use Rattle.roc_base.specs.TxnId.{is_txn}
use Rattle.roc_sequence.specs.Places.{IsListed}
use Rattle.roc_component.specs.Components.{AreTaken}
use Rattle.roc_server_table.specs.Kept.{TableLists}
use Rattle.roc_step.specs.New.{AreAllNew}
use Rattle.roc_step.proofs.TakenNew.{taken_new}
use Rattle.roc_server_lists.proofs.finding.find_taken.Goals as goal

pub returns-clause-taken : goal.returns-clause-taken
returns-clause-taken c =
    let t = c.args.table.now in
    let taken = subst (λ (now : TableLists). IfOk c.components.result (λ cs. AreTaken now.links c.deref.result.now cs.items)) c.in_ok-ids.ensures.same c.components.ensures in
    IfOk-weaker c.components.result _ _
    (λ cs are. are t.decided (subst (λ (ids : List TxnId). AreAllNew (IsListed is_txn t.decided) t.links ids) (sym c.deref.ensures.value) c.in_ok-ids.ensures.new))
    (taken_new (λ v. v.items) t.links c.deref.result.now c.components.result taken)
