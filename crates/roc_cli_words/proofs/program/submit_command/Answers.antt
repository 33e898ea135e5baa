-- One argument behind the other
use Rattle.roc_cli_words.proofs.program.submit_command.Goals as goal

pub returns : goal.returns
returns c =
    let first = c.with-command.ensures _ _ c.cluster_command-command.ensures c.standing.ensures.rule c.standing.ensures.local in
    let second = c.with-command-2.ensures _ _ first c.named.ensures.rule c.named.ensures.local in
    let third = c.with-command-3.ensures _ _ second c.named-2.ensures.rule c.named-2.ensures.local in
    let fourth = c.with-command-4.ensures _ _ third c.choice.ensures.rule c.choice.ensures.local in
    let fifth = c.with-command-5.ensures _ _ fourth c.choice-2.ensures.rule c.choice-2.ensures.local in
    c.with.ensures _ _ fifth c.choice-3.ensures.rule c.choice-3.ensures.local
