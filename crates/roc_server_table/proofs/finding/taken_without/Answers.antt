use Rattle.std.proofs.Common.{◌∙◌, List, ap, subst}
use Rattle.std.specs.Prelude.{IfOk, Vec}
use Rattle.std.specs.declared.alloc.Global.{Global}
use Rattle.roc_base.specs.declared.id.TxnId.{TxnId}
use Rattle.roc_component.specs.Components.{AreTaken}
use Rattle.roc_depgraph.specs.declared.known.KnownList.{KnownList}
use Rattle.roc_server_rows.specs.LinksBut.{links_but}
use Rattle.roc_server_table.proofs.NewIds.{found_links}
use Rattle.roc_server_table.proofs.finding.taken_without.Goals as goal

pub returns : goal.returns
returns c =
    subst (λ (links : List KnownList). IfOk c.taken_of.result (λ (components : Vec (List TxnId) Global). AreTaken links c.args.ids.now components.items))
    (ap (links_but c.number_of-except.result) c.deref.ensures.value ∙ found_links c.args.parts.now c.requires c.args.id c.number_of-except.result c.number_of-except.ensures) c.taken_of.ensures
