use Rattle.std.proofs.Common.{◌≡◌, ◌&&◌, not, take}
use Rattle.roc_sequence.specs.Places.{is_listed}
use Rattle.roc_base.specs.declared.id.TxnId.{TxnId}
use Rattle.roc_base.specs.TxnId.{is_txn}
use Rattle.roc_server_table.specs.Inner.Changes.{all_ended}
use Rattle.roc_server_rows.specs.Rows.{lists_by}
use Rattle.roc_server_table.specs.Inner.Kept.{decided_of}
use Rattle.roc_server_table.specs.Inner.Leading.{AreKept}
use Rattle.roc_server_table.proofs.changes.end_all.Given as goal

abbrev pub invariant-loop-id : goal.invariant-loop-id
invariant-loop-id l = record {
  kept : AreKept l.parts l.marks l.bits;
  lists : lists_by l.parts.rows.items ≡ all_ended (take l.id-index l.ids) (lists_by l.initial.parts.rows.items);
  decided : (t : TxnId) → is_listed is_txn (decided_of l.parts.rows.items l.marks) t
      ≡ (is_listed is_txn (decided_of l.initial.parts.rows.items l.initial.marks) t && not (is_listed is_txn (take l.id-index l.ids) t));
}
