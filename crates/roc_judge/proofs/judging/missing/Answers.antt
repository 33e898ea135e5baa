use Rattle.std.proofs.Common.{arith, ◌≡◌, List, not, find, length, sym, ap, subst, ◌∙◌}
use Rattle.roc_sequence.specs.Places.{IsListed, is_listed}
use Rattle.roc_base.specs.declared.id.TxnId.{TxnId}
use Rattle.roc_base.specs.TxnId.{is_txn}
use Rattle.roc_depgraph.specs.Closure.{IsRisingListOf}
use Rattle.roc_judge.specs.Judged.{IsAnsweredUndecided, answers_told}
use Rattle.roc_judge.specs.Inner.Found.{IsLeastOrNone}
use Rattle.roc_judge.proofs.Rightly.{missing_found, counted}
use Rattle.roc_judge.proofs.judging.missing.Goals as goal

pub returns-clause-missing : goal.returns-clause-missing
returns-clause-missing c =
    let rising = subst (λ (xs : List TxnId). IsRisingListOf (IsListed is_txn xs) c.in_ok-answered_rising.answered_rising.items) c.deref.ensures.value c.in_ok-answered_rising.ensures in
    subst (IsLeastOrNone (IsAnsweredUndecided c.args.folds.now)) (sym (c.first_outside.ensures ∙ ap (find (λ t. not (is_listed is_txn c.args.ids.now t))) c.deref-2.ensures.value))
    (missing_found c.args.folds.now c.in_ok-answered.answered.items c.in_ok-answered_rising.answered_rising.items c.args.ids.now c.in_ok-answered.ensures rising c.requires)

pub returns-clause-counted : goal.returns-clause-counted
returns-clause-counted c =
    let n = counted c.args.folds.now in
    let same : length c.in_ok-answered.answered.items ≡ answers_told c.args.folds.now = ap length c.in_ok-answered.ensures ∙ n in
    omega (arith, c.len.ensures, c.in_ok-answered.answered.ok, same)
