use Rattle.std.proofs.Common.{rules, not}
use Rattle.std.proofs.lemmas.Fn.{filter_same}
use Rattle.roc_base.specs.TxnId.{is_txn}
use Rattle.roc_readonly.specs.declared.view.View.{View}
use Rattle.roc_coord.proofs.views.drop_view.Goals as goal

pub returns : goal.returns
returns c = filter_same _ (λ (v : View). not (is_txn v.id c.args.id)) _ (λ x b f k. search rules) _ _ c.retain.ensures.filtered
