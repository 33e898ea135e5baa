use Rattle.std.proofs.Common.{Vec, Global, ap, ◌∙◌}
use Rattle.roc_sched.specs.declared.line.Request.{Request}
use Rattle.roc_sched.specs.Acts.{request_at}
use Rattle.roc_sched.specs.Inner.Reading.{views}
use Rattle.roc_sched.proofs.Texts.{too_long_given, lines_given}
use Rattle.roc_sched.proofs.schedule.requests_of.Goals as goal

pub returns-in-Ok : goal.returns-in-Ok
returns-in-Ok c =
    lines_given request_at c.args.text.now _ c.all_requests.result (views c.deref.result.now) (ap views c.deref.ensures.value ∙ c.in-Ok.ensures.first) c.in-Ok.ensures.size c.all_requests.ensures

pub returns-in-Err : goal.returns-in-Err
returns-in-Err c = too_long_given request_at c.args.text.now {X = Vec Request Global} (λ read. read.items) c.in-Err.fault c.in-Err.ensures.err
