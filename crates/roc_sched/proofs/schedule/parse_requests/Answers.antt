use Rattle.roc_sched.specs.Acts.{request_at}
use Rattle.roc_sched.proofs.Texts.{is_found, is_only, is_fault}
use Rattle.roc_sched.proofs.schedule.parse_requests.Goals as goal

pub returns-clause-found : goal.returns-clause-found
returns-clause-found c = is_found request_at c.args.text.now (λ v. v.items) c.requests_of.result c.requests_of.ensures

pub returns-clause-only : goal.returns-clause-only
returns-clause-only c = is_only request_at c.args.text.now (λ v. v.items) c.requests_of.result c.requests_of.ensures

pub returns-clause-fault : goal.returns-clause-fault
returns-clause-fault c = is_fault request_at c.args.text.now (λ v. v.items) c.requests_of.result c.requests_of.ensures
