use Rattle.roc_group.specs.GroupRun.{call}
use Rattle.roc_server_groups.proofs.runs.known_to.Goals as goal

pub returns : goal.returns
returns c = λ i. call c.args.group.now.proc c.args.group.now.group (c.in_ok-clone.ensures.cases i) (c.in_ok-clone-2.ensures.cases i)
