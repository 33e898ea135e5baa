-- How the text of lines is read
use Rattle.std.specs.Prelude.{◌≡◌, List}
use Rattle.std.specs.List.{AllByRecursion}
use Rattle.roc_program.specs.Program.{Workload}
use Rattle.roc_report.specs.Line.{Line}
use Rattle.roc_report.specs.ReportLine.{IsReportLine}
use Rattle.roc_report.specs.Text.{lines_text}

-- these are lines of a report, and whoever reads their text as lines of a report reads these and no others
pub record IsReadInOneWay (program : Workload) (lines : List Line) : Type 0 where
  pub are : AllByRecursion (IsReportLine program) lines
  pub only : (others : List Line) → AllByRecursion (IsReportLine program) others → lines_text program others ≡ lines_text program lines → others ≡ lines
