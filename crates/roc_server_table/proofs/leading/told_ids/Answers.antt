use Rattle.std.proofs.Common.{◌≡◌, ◌∙◌, ℕ, List, map, subst}
use Rattle.std.specs.Prelude.{IfOk, Vec}
use Rattle.std.specs.declared.alloc.Global.{Global}
use Rattle.roc_base.specs.declared.id.TxnId.{TxnId}
use Rattle.roc_server_rows.specs.Rows.{row_in}
use Rattle.roc_server_table.proofs.leading.told_ids.Goals as goal

pub returns : goal.returns
returns c =
    subst (λ (ns : List ℕ). IfOk c.ids_at.result (λ (ids : Vec TxnId Global). ids.items ≡ map (λ n. (row_in c.args.rows.now n).id) ns)) (c.deref.ensures.value ∙ c.in_ok-told.ensures) c.ids_at.ensures
