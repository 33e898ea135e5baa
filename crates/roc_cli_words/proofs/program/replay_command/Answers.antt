-- One argument behind the other
use Rattle.roc_cli_words.proofs.program.replay_command.Goals as goal

pub returns : goal.returns
returns c =
    let first = c.with-command.ensures _ _ c.workload_command-command.ensures c.standing.ensures.rule c.standing.ensures.local in
    let second = c.with-command-2.ensures _ _ first c.choice.ensures.rule c.choice.ensures.local in
    c.with.ensures _ _ second c.choice-2.ensures.rule c.choice-2.ensures.local
