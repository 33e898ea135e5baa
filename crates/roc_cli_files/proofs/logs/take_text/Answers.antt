use Rattle.std.proofs.Common.{refl}
use Rattle.roc_cli_files.proofs.Logging.{log_fits, log_so, fault_so}
use Rattle.roc_cli_files.proofs.logs.take_text.Goals as goal

pub take-requires : goal.take-requires
take-requires c =
    log_fits c.args.plan.now.program c.args.tag.now c.nodes.result.now c.args.bytes.now c.in-Ok.log c.told-tag c.workload.ensures.accepted.well_formed.few_shards
    (log_so _ _ _ _ _ _ c.in-Ok.log c.workload.ensures.program refl c.in-Ok.ensures.found)

pub returns-in-Ok-take-clause-takes : goal.returns-in-Ok-take-clause-takes
returns-in-Ok-take-clause-takes c = λ logs taken.
    (c.in-Ok.log, log_so _ _ _ _ _ _ c.in-Ok.log c.workload.ensures.program (c.nodes.ensures c.args.plan.now logs taken) c.in-Ok.ensures.found, c.in-Ok-take.ensures.ok logs taken)

pub returns-in-Err-At-clause-takes : goal.returns-in-Err-At-clause-takes
returns-in-Err-At-clause-takes c = λ logs taken.
    (refl, fault_so _ _ _ _ _ _ _ _ c.workload.ensures.program (c.nodes.ensures c.args.plan.now logs taken) (rw c.in-Err-At.field-0-is at c.in-Err-At.ensures.fault))
