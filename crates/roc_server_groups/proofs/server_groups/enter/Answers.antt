use Rattle.roc_server_groups.proofs.Tried.{unmet}
use Rattle.roc_server_groups.proofs.server_groups.enter.Goals as goal

pub add_group-requires : goal.add_group-requires
add_group-requires c = unmet c.args.index.now c.args.started.now.groups c.args.group c.requires.refs c.requires.enters.absent
