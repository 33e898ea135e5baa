use Rattle.std.proofs.Common.{◌∙◌, ℕ, List, sym, ap, subst}
use Rattle.roc_sequence.specs.Places.{is_listed}
use Rattle.roc_base.specs.declared.id.TxnId.{TxnId}
use Rattle.roc_base.specs.TxnId.{is_txn}
use Rattle.roc_server_rows.specs.Marks.{HasWaiting}
use Rattle.roc_server_table.proofs.TakenBack.{awake_decided, awake_kept}
use Rattle.roc_server_table.proofs.changes.unlearn_all.Goals as goal

pub wake_all-requires : goal.wake_all-requires
wake_all-requires c = subst (λ (ns : List ℕ). HasWaiting c.args.marks.now ns) (sym c.deref.ensures.value) c.requires.kept.kept.undecided.waiting

pub untell_all-requires : goal.untell_all-requires
untell_all-requires c =
    let w = c.wake_all.ensures in
    record {
      kept = record { kept = awake_kept c.args.parts.now c.args.marks.now c.wake_all.new.marks c.requires.kept.kept w; bits = c.requires.kept.bits };
      awake = w.awake;
      undecided = λ k h. ap (λ (ids : List TxnId). is_listed is_txn ids k.of) (awake_decided c.args.parts.now c.args.marks.now c.wake_all.new.marks c.requires.kept.kept w) ∙ c.requires.undecided k h;
    }

pub returns-clause-decided : goal.returns-clause-decided
returns-clause-decided c =
    c.untell_all.ensures.decided ∙ awake_decided c.args.parts.now c.args.marks.now c.wake_all.new.marks c.requires.kept.kept c.wake_all.ensures
