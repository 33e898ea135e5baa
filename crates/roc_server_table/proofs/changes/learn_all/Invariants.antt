use Rattle.std.proofs.Common.{◌≡◌, drop, take}
use Rattle.roc_step.specs.Learning.{AreLearnable}
use Rattle.roc_server_rows.specs.Rows.{known_of, lists_by}
use Rattle.roc_server_table.specs.Inner.Kept.{decided_of}
use Rattle.roc_server_table.specs.Inner.Leading.{AreKept}
use Rattle.roc_server_table.proofs.AllLearnt.{with_lists}
use Rattle.roc_server_table.proofs.changes.learn_all.Given as goal

abbrev pub invariant-loop-at : goal.invariant-loop-at
invariant-loop-at l = record {
  kept : AreKept l.parts l.marks.items l.bits;
  lists : lists_by l.parts.rows.items ≡ with_lists l.done (take l.at l.news) (lists_by l.initial.parts.rows.items);
  decided : decided_of l.parts.rows.items l.marks.items ≡ decided_of l.initial.parts.rows.items l.initial.marks.items;
  learnable : AreLearnable (known_of l.parts.rows.items) (drop l.at l.news);
}
