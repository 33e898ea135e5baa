use Rattle.std.proofs.Common.{List, subst, ℕ}
use Rattle.roc_log.specs.Inner.Given.{GivesAt, log_of_lines}
use Rattle.roc_log.proofs.LineParts.{lines_counted}
use Rattle.roc_log.proofs.log.log_of.Goals as goal

pub returns : goal.returns
returns c =
    subst (λ (lines : List (List ℕ)). GivesAt c.log_of_lines.result (log_of_lines c.args.workload.now c.args.tag.now c.args.seen.now lines))
    (lines_counted c.args.text.now c.line_count-count.result c.deref-2.result.now c.deref.result.now c.in_ok-parts.parts.items c.deref-2.ensures.value c.deref.ensures.value c.in_ok-parts.ensures c.line_count-count.ensures.lines)
    c.log_of_lines.ensures
