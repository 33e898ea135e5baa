use Rattle.std.proofs.Common.{rules, not}
use Rattle.std.proofs.lemmas.Fn.{filter_same}
use Rattle.roc_base.specs.TxnId.{is_txn}
use Rattle.roc_server_index.specs.declared.group_ref.GroupRef.{GroupRef}
use Rattle.roc_server_index.proofs.index.take_out_all.Goals as goal

pub returns : goal.returns
returns c = filter_same _ (λ (s : GroupRef). not (is_txn s.id c.args.id)) _ (λ x b f k. search rules) _ _ c.retain.ensures.filtered
