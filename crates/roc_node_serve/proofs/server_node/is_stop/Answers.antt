-- The message is of the arm's kind.
use Rattle.std.proofs.Common.{ap, sym}
use Rattle.roc_node_serve.specs.ServerRun.{is_stop}
use Rattle.roc_node_serve.proofs.server_node.is_stop.Goals as goal

pub returns-in-Stop : goal.returns-in-Stop
returns-in-Stop c = sym (ap is_stop c.in-Stop.is)

pub returns-in-Start : goal.returns-in-Start
returns-in-Start c = sym (ap is_stop c.in-Start.is)

pub returns-in-StartOk : goal.returns-in-StartOk
returns-in-StartOk c = sym (ap is_stop c.in-StartOk.is)

pub returns-in-Commit : goal.returns-in-Commit
returns-in-Commit c = sym (ap is_stop c.in-Commit.is)

pub returns-in-CommitOk : goal.returns-in-CommitOk
returns-in-CommitOk c = sym (ap is_stop c.in-CommitOk.is)

pub returns-in-Fetch : goal.returns-in-Fetch
returns-in-Fetch c = sym (ap is_stop c.in-Fetch.is)

pub returns-in-Known : goal.returns-in-Known
returns-in-Known c = sym (ap is_stop c.in-Known.is)
