use Rattle.roc_replay.specs.BoundLine.{last_program}
use Rattle.roc_replay.proofs.laws.reports_are_read_in_one_way.Goals as goal

pub returns : goal.returns
returns c plan next schedule summary old new names r = record {
  are = r.are;
  only = λ others are same. c.lines_are_unique.ensures (last_program plan next) others r.lines names are r.are same;
}
