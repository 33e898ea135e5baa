use Rattle.roc_grown_submit.proofs.submitting.push_one.Goals as goal

pub returns : goal.returns
returns c = c.append_line.ensures.ok
