use Rattle.roc_sched.specs.Acts.{line_at, request_at}
use Rattle.roc_sched.proofs.Texts.{items_are_one}
use Rattle.roc_sched.proofs.laws.lines_are_unique.Goals as goal

pub returns : goal.returns
returns c = record { schedules = λ forms shards. items_are_one (line_at forms shards); requests = items_are_one request_at }
