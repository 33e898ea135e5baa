use Rattle.std.proofs.Common.{◌≡◌, filter, take}
use Rattle.roc_server_rows.specs.Inner.Marks.{is_in_question}
use Rattle.roc_server_rows.proofs.marks.all_in_question.Given as goal

abbrev pub invariant-loop-at : goal.invariant-loop-at
invariant-loop-at l = l.todo.items ≡ filter (is_in_question l.rows l.marks) (take l.at-index l.undecided)
