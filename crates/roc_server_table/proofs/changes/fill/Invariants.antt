use Rattle.std.proofs.Common.{◌≡◌, ◌≤◌, ◌-◌, ℕ, length, vec_capacity, vec_len}
use Rattle.roc_server_rows.specs.Marks.{mark_in}
use Rattle.roc_server_table.proofs.changes.fill.Given as goal

abbrev pub invariant-rows : goal.invariant-rows
invariant-rows l = record {
  same : (n : ℕ) → mark_in l.marks.items n ≡ mark_in l.initial.marks.items n;
  fewer : length l.marks.items ≤ length l.rows;
  room : length l.rows ≤ vec_capacity l.marks;
}

abbrev pub decreases-rows : goal.decreases-rows
decreases-rows l = length l.rows - vec_len l.marks
