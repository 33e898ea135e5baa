use Rattle.std.proofs.Common.{List, ◌++◌, ◌≡◌, sym, subst}
use Rattle.std.proofs.lemmas.Result.{IfOk-weaker}
use Rattle.roc_base.specs.declared.id.TxnId.{TxnId}
use Rattle.roc_step.specs.Forgets.{over}
use Rattle.roc_server_taken.proofs.OverAdded.{both_over}
use Rattle.roc_server_taken.proofs.taken.over_counted.Goals as goal

pub returns-clause-over : goal.returns-clause-over
returns-clause-over g c =
    let below = c.args.marks.now in
    IfOk-weaker c.rising.result _ _ (λ ids are.
    both_over below c.args.taken.now.components c.args.more.now c.new-ids.result.items c.push_over.new.ids.items c.deref.result.now ids.items c.new-ids.ensures.items
    c.in_ok-push_over.ensures.added (subst (λ (l : List TxnId). l ≡ c.push_over.new.ids.items ++ over below c.args.more.now) (sym c.deref.ensures.value) c.in_ok-push_those_over.ensures) are)
    c.rising.ensures
