use Rattle.roc_log.proofs.LogLemmas.{is_found, is_only, is_fault}
use Rattle.roc_log.proofs.log.parse_log.Goals as goal

pub returns-clause-found : goal.returns-clause-found
returns-clause-found c = is_found c.args.workload.now c.args.tag.now c.args.seen.now c.args.text.now c.log_of.result c.log_of.ensures

pub returns-clause-only : goal.returns-clause-only
returns-clause-only c = is_only c.args.workload.now c.args.tag.now c.args.seen.now c.args.text.now c.log_of.result c.log_of.ensures

pub returns-clause-fault : goal.returns-clause-fault
returns-clause-fault c = is_fault c.args.workload.now c.args.tag.now c.args.seen.now c.args.text.now c.log_of.result c.log_of.ensures
