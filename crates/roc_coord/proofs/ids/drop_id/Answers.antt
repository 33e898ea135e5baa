use Rattle.std.proofs.Common.{rules, not}
use Rattle.std.proofs.lemmas.Fn.{filter_same}
use Rattle.roc_base.specs.declared.id.TxnId.{TxnId}
use Rattle.roc_base.specs.TxnId.{is_txn}
use Rattle.roc_coord.proofs.ids.drop_id.Goals as goal

pub returns : goal.returns
returns c = filter_same _ (λ (u : TxnId). not (is_txn u c.args.id)) _ (λ x b f k. search rules) _ _ c.retain.ensures.filtered
