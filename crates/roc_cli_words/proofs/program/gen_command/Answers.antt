-- One argument behind the other
use Rattle.std.proofs.lemmas.Result.{IfOk-weaker}
use Rattle.roc_cli_words.proofs.Added.{added}
use Rattle.roc_cli_words.proofs.program.gen_command.Goals as goal

pub returns : goal.returns
returns c =
    let first = IfOk-weaker c.arg-command.result _ _ (λ m h. added _ _ _ _ _ (record { shape = c.new.ensures.app; local = c.new.ensures.local }) c.standing.ensures.rule c.standing.ensures.local h) c.arg-command.ensures in
    let second = c.with-command.ensures _ _ first c.standing-2.ensures.rule c.standing-2.ensures.local in
    let third = c.with-command-2.ensures _ _ second c.standing-3.ensures.rule c.standing-3.ensures.local in
    c.with.ensures _ _ third c.standing-4.ensures.rule c.standing-4.ensures.local
