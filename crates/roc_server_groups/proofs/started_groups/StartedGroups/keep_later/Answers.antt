use Rattle.std.specs.Map.{values_of}
use Rattle.roc_server_groups.proofs.FirstGroups.{firsts_again}
use Rattle.roc_server_groups.proofs.KeyedGroups.{keyed_again}
use Rattle.roc_server_groups.proofs.started_groups.StartedGroups.keep_later.Goals as goal

pub invariant_of-self : goal.invariant_of-self
invariant_of-self c =
    let old = c.self.inside.groups.entries in
    let new = c.set_later.new.groups.entries in
    record {
      keyed = keyed_again old new c.self.inside.numbers c.self.invariant.keyed c.set_later.ensures.keys c.set_later.ensures.keyed;
      first = firsts_again c.self.inside.firsts.entries (values_of old) (values_of new) c.self.invariant.first c.set_later.ensures.keyed;
    }
