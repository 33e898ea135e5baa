use Rattle.toml.specs.View.{table_view}
use Rattle.roc_cluster.proofs.Hosts.{host_some, host_none}
use Rattle.roc_cluster.proofs.entry.host_of.Goals as goal

pub returns-in-Some-clause-some : goal.returns-in-Some-clause-some
returns-in-Some-clause-some c = host_some (table_view c.args.table.now) c.text_at.result c.in-Some.text c.address_of.result c.text_at.ensures c.in-Some.is c.address_of.ensures.some

pub returns-in-Some-clause-none : goal.returns-in-Some-clause-none
returns-in-Some-clause-none c none = host_none (table_view c.args.table.now) c.text_at.result c.in-Some.text c.text_at.ensures c.in-Some.is (c.address_of.ensures.none none)
