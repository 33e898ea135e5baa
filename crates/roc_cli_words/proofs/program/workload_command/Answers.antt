use Rattle.std.proofs.lemmas.Result.{IfOk-weaker}
use Rattle.roc_cli_words.proofs.Added.{added}
use Rattle.roc_cli_words.proofs.program.workload_command.Goals as goal

pub returns : goal.returns
returns c =
    IfOk-weaker c.arg.result _ _ (λ m h. added _ _ _ _ _ (record { shape = c.new.ensures.app; local = c.new.ensures.local }) c.standing.ensures.rule c.standing.ensures.local h) c.arg.ensures
