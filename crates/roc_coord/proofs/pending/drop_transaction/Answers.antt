use Rattle.std.proofs.Common.{rules, not}
use Rattle.std.proofs.lemmas.Fn.{filter_same}
use Rattle.roc_base.specs.TxnId.{is_txn}
use Rattle.roc_coord.specs.declared.transaction.Transaction.{Transaction}
use Rattle.roc_coord.proofs.pending.drop_transaction.Goals as goal

pub returns : goal.returns
returns c = filter_same _ (λ (x : Transaction). not (is_txn x.id c.args.id)) _ (λ x b f k. search rules) _ _ c.retain.ensures.filtered
