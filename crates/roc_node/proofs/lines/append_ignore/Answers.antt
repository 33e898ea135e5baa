use Rattle.roc_node.proofs.lines.append_ignore.Goals as goal

pub returns : goal.returns
returns c = c.append_some.ensures
