use Rattle.std.proofs.Common.{Vec, Global, ap, ◌∙◌}
use Rattle.roc_sched.specs.declared.line.Line.{Line}
use Rattle.roc_sched.specs.Acts.{line_at}
use Rattle.roc_sched.specs.Inner.Reading.{views}
use Rattle.roc_sched.proofs.Texts.{too_long_given, lines_given}
use Rattle.roc_sched.proofs.schedule.schedule_of.Goals as goal

pub returns-in-Ok : goal.returns-in-Ok
returns-in-Ok c =
    lines_given (line_at c.args.forms c.args.shards) c.args.text.now _ c.all_lines.result (views c.deref.result.now) (ap views c.deref.ensures.value ∙ c.in-Ok.ensures.first) c.in-Ok.ensures.size c.all_lines.ensures

pub returns-in-Err : goal.returns-in-Err
returns-in-Err c = too_long_given (line_at c.args.forms c.args.shards) c.args.text.now {X = Vec Line Global} (λ read. read.items) c.in-Err.fault c.in-Err.ensures.err
