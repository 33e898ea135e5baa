use Rattle.roc_cli_files.proofs.logs.logs_of.Goals as goal

pub take_all-requires : goal.take_all-requires
take_all-requires g c = c.new-auditor.ensures c.args.plan.now
