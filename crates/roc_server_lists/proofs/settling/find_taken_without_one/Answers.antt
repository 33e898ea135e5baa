use Rattle.std.proofs.Common.{List, map, sym, subst}
use Rattle.std.proofs.lemmas.Result.{IfOk-weaker}
use Rattle.std.specs.Prelude.{IfOk}
use Rattle.roc_base.specs.declared.id.TxnId.{TxnId}
use Rattle.roc_base.specs.TxnId.{is_txn}
use Rattle.roc_sequence.specs.Places.{IsListed}
use Rattle.roc_component.specs.Components.{AreTaken}
use Rattle.roc_depgraph.specs.declared.known.KnownList.{KnownList}
use Rattle.roc_server_table.specs.Kept.{TableLists}
use Rattle.roc_step.specs.Links.{without_links}
use Rattle.roc_step.specs.New.{AreAllNew, AreNewTaken}
use Rattle.roc_step.proofs.TakenNew.{taken_new}
use Rattle.roc_server_lists.proofs.OneSettled.{links_of_one}
use Rattle.roc_server_lists.proofs.settling.find_taken_without_one.Goals as goal

pub returns-clause-taken : goal.returns-clause-taken
returns-clause-taken c =
    let t = c.args.table.now in
    let links : List KnownList = map (without_links (λ u. is_txn u c.args.id)) t.links in
    let found = c.components_without.result in
    let taken =
    subst (λ (now : TableLists). IfOk found (λ cs. AreTaken (map (without_links (λ u. is_txn u c.args.id)) now.links) c.deref.result.now cs.items))
    c.in_ok-ids.ensures.same c.components_without.ensures in
    IfOk-weaker found _ _
    (λ cs are.
    subst (λ (ks : List KnownList). AreNewTaken (IsListed is_txn t.decided) ks cs.items) (links_of_one t.links c.args.id)
    (are t.decided (subst (λ (ids : List TxnId). AreAllNew (IsListed is_txn t.decided) links ids) (sym c.deref.ensures.value) c.in_ok-ids.ensures.new)))
    (taken_new (λ v. v.items) links c.deref.result.now found taken)
