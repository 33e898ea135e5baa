use Rattle.roc_sched.specs.Acts.{line_at}
use Rattle.roc_sched.proofs.Texts.{is_found, is_only, is_fault}
use Rattle.roc_sched.proofs.schedule.parse_schedule.Goals as goal

pub returns-clause-found : goal.returns-clause-found
returns-clause-found c = is_found (line_at c.args.forms c.args.shards) c.args.text.now (λ v. v.items) c.schedule_of.result c.schedule_of.ensures

pub returns-clause-only : goal.returns-clause-only
returns-clause-only c = is_only (line_at c.args.forms c.args.shards) c.args.text.now (λ v. v.items) c.schedule_of.result c.schedule_of.ensures

pub returns-clause-fault : goal.returns-clause-fault
returns-clause-fault c = is_fault (line_at c.args.forms c.args.shards) c.args.text.now (λ v. v.items) c.schedule_of.result c.schedule_of.ensures
