use Rattle.std.proofs.Common.{◌∙◌, ℕ, List, sym, ap, subst}
use Rattle.roc_sequence.specs.Places.{is_listed}
use Rattle.roc_base.specs.declared.id.TxnId.{TxnId}
use Rattle.roc_base.specs.TxnId.{is_txn}
use Rattle.roc_server_rows.specs.Marks.{HasWaiting}
use Rattle.roc_server_table.proofs.TakenBack.{awake_decided, awake_kept}
use Rattle.roc_server_table.proofs.changes.unlearn_one.Goals as goal

pub wake_all-requires : goal.wake_all-requires
wake_all-requires c = subst (λ (ns : List ℕ). HasWaiting c.args.marks.now ns) (sym c.deref.ensures.value) c.requires.kept.undecided.waiting

pub untell_one-requires : goal.untell_one-requires
untell_one-requires c =
    let w = c.wake_all.ensures in
    record {
      kept = awake_kept c.args.parts.now c.args.marks.now c.wake_all.new.marks c.requires.kept w;
      awake = w.awake;
      undecided = ap (λ (ids : List TxnId). is_listed is_txn ids c.args.id) (awake_decided c.args.parts.now c.args.marks.now c.wake_all.new.marks c.requires.kept w) ∙ c.requires.undecided;
    }

pub returns-clause-decided : goal.returns-clause-decided
returns-clause-decided c =
    c.untell_one.ensures.decided ∙ awake_decided c.args.parts.now c.args.marks.now c.wake_all.new.marks c.requires.kept c.wake_all.ensures
