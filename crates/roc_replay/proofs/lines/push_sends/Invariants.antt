-- the lines of the messages that are left, behind the text so far, are those of all of them behind the text from the start; and where those left are
-- small, all are
use Rattle.std.proofs.Common.{◌≡◌, ◌+◌, ◌++◌, drop}
use Rattle.roc_report.specs.ReportLine.{HaveSmallNumbers}
use Rattle.roc_report.specs.Text.{lines_text}
use Rattle.roc_replay.specs.Report.{send_lines}
use Rattle.roc_replay.proofs.lines.push_sends.Given as goal

abbrev pub invariant-loop-index : goal.invariant-loop-index
invariant-loop-index l =
    (l.text.items ++ lines_text l.workload (send_lines (l.first + l.index) (drop l.index l.sent))
    ≡ l.fn.text.items ++ lines_text l.workload (send_lines l.first l.sent))
    × (HaveSmallNumbers (send_lines (l.first + l.index) (drop l.index l.sent)) → HaveSmallNumbers (send_lines l.first l.sent))
