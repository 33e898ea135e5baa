use Rattle.std.proofs.Common.{◌≡◌, ◌≤◌, vec_len}
use Rattle.roc_rows.specs.Inner.Kept.{undone}
use Rattle.roc_rows.proofs.rows.undo.Given as goal

abbrev pub invariant-loop-cell : goal.invariant-loop-cell
invariant-loop-cell l = (vec_len l.notes ≤ l.numbers.spare) × (undone l.notes.items l.numbers.store ≡ undone l.fn.notes.items l.fn.numbers.store)

abbrev pub decreases-loop-cell : goal.decreases-loop-cell
decreases-loop-cell l = vec_len l.notes
