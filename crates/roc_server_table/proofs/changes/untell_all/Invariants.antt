use Rattle.std.proofs.Common.{◌≡◌, take}
use Rattle.roc_server_table.specs.Inner.Changes.{all_untold}
use Rattle.roc_server_rows.specs.Rows.{lists_by}
use Rattle.roc_server_table.specs.Inner.Kept.{decided_of}
use Rattle.roc_server_table.specs.Inner.Leading.{AreBits}
use Rattle.roc_server_table.proofs.TakenBack.{IsKeptOnceCut}
use Rattle.roc_server_table.proofs.changes.untell_all.Given as goal

abbrev pub invariant-loop-k : goal.invariant-loop-k
invariant-loop-k l = record {
  kept : IsKeptOnceCut l.parts l.marks;
  bits : AreBits l.parts.rows.items l.bits;
  lists : lists_by l.parts.rows.items ≡ all_untold (take l.k-index l.news) (lists_by l.initial.parts.rows.items);
  decided : decided_of l.parts.rows.items l.marks ≡ decided_of l.initial.parts.rows.items l.marks;
}
