use Rattle.std.proofs.Common.{rules, not}
use Rattle.std.proofs.lemmas.Fn.{filter_same}
use Rattle.roc_sequence.specs.Places.{is_listed}
use Rattle.roc_base.specs.TxnId.{is_txn}
use Rattle.roc_step.specs.declared.waits.OpenFetch.{OpenFetch}
use Rattle.roc_await.proofs.waits.keep_others.Goals as goal

pub returns-clause-items : goal.returns-clause-items
returns-clause-items c = filter_same _ (λ (a : OpenFetch). not (is_listed is_txn c.args.ids.now a.id)) _ (λ x b f k. search rules) _ _ c.retain.ensures.filtered
