use Rattle.std.proofs.Common.{◌≡◌, drop}
use Rattle.roc_base.specs.declared.id.TxnId.{TxnId}
use Rattle.roc_judge.specs.Inner.Sets.{first_of, found_at}
use Rattle.roc_judge.specs.Inner.Replies.{first_wrong, runs_in}
use Rattle.roc_judge.proofs.replies.take_told.Given as goal

abbrev pub invariant-loop-entry : goal.invariant-loop-entry
invariant-loop-entry l =
    (t : TxnId) → first_of (found_at t l.wrong.entries) (first_wrong (runs_in l.runs.entries) t (drop l.entry-index l.told))
    ≡ first_of (found_at t l.fn.wrong.entries) (first_wrong (runs_in l.runs.entries) t l.told)
