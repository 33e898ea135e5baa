use Rattle.std.proofs.Common.{rules, not}
use Rattle.std.proofs.lemmas.Fn.{filter_same}
use Rattle.roc_base.specs.TxnId.{is_txn}
use Rattle.roc_step.specs.declared.waits.Asker.{Asker}
use Rattle.roc_await.proofs.waits.take_out_askers.Goals as goal

pub returns-clause-items : goal.returns-clause-items
returns-clause-items c = filter_same _ (λ (a : Asker). not (is_txn a.id c.args.id)) _ (λ x b f k. search rules) _ _ c.retain.ensures.filtered
