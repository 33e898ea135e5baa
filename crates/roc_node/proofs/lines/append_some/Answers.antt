-- Nothing is added at 0, and one line at any other count.
use Rattle.roc_node.proofs.Texts.{no_line, some_line}
use Rattle.roc_node.proofs.lines.append_some.Goals as goal

pub returns-else-count-gt0 : goal.returns-else-count-gt0
returns-else-count-gt0 c = no_line _ _ _ c.if-count-gt0.false

pub returns-in_ok-append_line : goal.returns-in_ok-append_line
returns-in_ok-append_line c = some_line _ _ _ _ c.if-count-gt0.true c.in_ok-append_line.ensures.ok
