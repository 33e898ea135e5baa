-- The line of an answer: docs/FORMATS.md, "Logs"
use Rattle.std.specs.Prelude.{List, [], ◌∷◌}
use Rattle.roc_coord.specs.declared.handled.Handled.{Handled}
use Rattle.roc_coord.specs.declared.handled.Handled.TheVariants as handled
use Rattle.roc_log.specs.declared.line.LogLine.{LogLine}
use Rattle.roc_log.specs.declared.line.LogLine.TheVariants.{Answer}

-- the line of an answer, where there is one
abbrev pub answer_logged : Handled → List LogLine
answer_logged (handled.Answered id reply) = Answer id reply ∷ []
answer_logged handled.Done = []
answer_logged (handled.Ignored reason) = []
