use Rattle.std.proofs.Common.{◌≡◌, ◌∷◌, [], List, IfOk, sym, ap, subst, ◌∙◌}
use Rattle.roc_base.specs.declared.id.TxnId.{TxnId}
use Rattle.roc_base.specs.TxnId.{is_txn}
use Rattle.roc_sequence.specs.Places.{IsListed}
use Rattle.roc_depgraph.specs.declared.known.KnownList.{KnownList}
use Rattle.roc_step.specs.New.{AreNewTaken}
use Rattle.roc_server_lists.specs.Inner.Trials.{links_settled}
use Rattle.roc_server_lists.proofs.OneSettled.{links_of_none, no_first, only_first}
use Rattle.roc_server_lists.proofs.settling.find_taken_without.Goals as goal

pub returns-in-Some-clause-taken : goal.returns-in-Some-clause-taken
returns-in-Some-clause-taken c =
    let t = c.args.table.now in
    let is : c.args.settled.now ≡ c.in-Some.id.now ∷ [] = only_first c.args.settled.now c.in-Some.id.now c.requires c.in-Some.ensures.value in
    subst (λ (ids : List TxnId). IfOk c.find_taken_without_one.result (λ cs. AreNewTaken (IsListed is_txn t.decided) (links_settled t.links ids) cs.items))
    (sym is) c.find_taken_without_one.ensures.taken

pub returns-in-None-clause-taken : goal.returns-in-None-clause-taken
returns-in-None-clause-taken c =
    let t = c.args.table.now in
    let links : links_settled t.links c.args.settled.now ≡ t.links = ap (links_settled t.links) (no_first c.args.settled.now c.in-None.ensures.value) ∙ links_of_none t.links in
    subst (λ (ks : List KnownList). IfOk c.find_taken.result (λ cs. AreNewTaken (IsListed is_txn t.decided) ks cs.items)) (sym links) c.find_taken.ensures.taken
