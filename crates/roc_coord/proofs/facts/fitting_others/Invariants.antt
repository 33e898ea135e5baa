use Rattle.std.proofs.Common.{◌≡◌, ◌++◌, not, drop}
use Rattle.std.specs.List.{filter}
use Rattle.roc_base.specs.TxnId.{is_txn}
use Rattle.roc_msg.specs.Facts.{fitting, front_of_facts}
use Rattle.roc_coord.proofs.Fitting.{AreBehind}
use Rattle.roc_coord.proofs.facts.fitting_others.Given as goal

abbrev pub invariant-loop-fact : goal.invariant-loop-fact
invariant-loop-fact l = record {
  whole : fitting (filter (λ fact. not (is_txn fact.of l.fn.own)) l.gathered) ≡ l.facts ++ front_of_facts l.room l.left (filter (λ fact. not (is_txn fact.of l.fn.own)) (drop l.fact-index l.gathered));
  behind : AreBehind l.facts (drop l.fact-index l.gathered);
}
