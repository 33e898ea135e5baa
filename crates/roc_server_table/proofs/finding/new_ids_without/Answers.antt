use Rattle.std.proofs.Common.{List, subst}
use Rattle.std.specs.Prelude.{IfOk, Vec}
use Rattle.std.specs.declared.alloc.Global.{Global}
use Rattle.roc_sequence.specs.Places.{IsListed}
use Rattle.roc_base.specs.declared.id.TxnId.{TxnId}
use Rattle.roc_base.specs.TxnId.{is_txn}
use Rattle.roc_depgraph.specs.declared.known.KnownList.{KnownList}
use Rattle.roc_step.specs.New.{AreAllNew}
use Rattle.roc_server_table.specs.Inner.Kept.{decided_of}
use Rattle.roc_server_table.proofs.NewIds.{found_links, found_live}
use Rattle.roc_server_table.proofs.finding.new_ids_without.Goals as goal

pub new_ids-requires-clause-live : goal.new_ids-requires-clause-live
new_ids-requires-clause-live c = found_live c.args.parts.now c.requires.kept.whole c.args.id c.number_of-except.result c.number_of-except.ensures

pub returns-clause-new : goal.returns-clause-new
returns-clause-new c =
    subst (λ (links : List KnownList). IfOk c.new_ids.result (λ (ids : Vec TxnId Global). AreAllNew (IsListed is_txn (decided_of c.args.parts.now.rows.items c.args.marks.now)) links ids.items))
    (found_links c.args.parts.now c.requires.kept.whole c.args.id c.number_of-except.result c.number_of-except.ensures) c.new_ids.ensures.new
