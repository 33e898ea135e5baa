use Rattle.std.proofs.Common.{◌≡◌, ◌++◌, map, take}
use Rattle.roc_node.specs.declared.lines.NodeLine.TheVariants.{Unanswered}
use Rattle.roc_node.specs.NodeLine.{node_lines_text}
use Rattle.roc_grown_submit.proofs.submitting.push_unanswered.Given as goal

abbrev pub invariant-loop-id : goal.invariant-loop-id
invariant-loop-id l = l.text.items ≡ l.fn.text.items ++ node_lines_text (map Unanswered (take l.id-index l.ids))
