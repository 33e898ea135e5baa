-- One argument behind the other
use Rattle.roc_cli_words.proofs.program.audit_command.Goals as goal

pub returns : goal.returns
returns c = c.with.ensures _ _ c.workload_command-command.ensures c.many.ensures.rule c.many.ensures.local
