use Rattle.std.proofs.Common.{◌≡◌, false, refl, sym, ◌∙◌}
use Rattle.toml.specs.View.{table_view}
use Rattle.roc_cluster.proofs.EntryRules.{no_host, no_port, other_key}
use Rattle.roc_cluster.proofs.entry.entry_of.Goals as goal

pub returns-in_default-host_of-clause-err : goal.returns-in_default-host_of-clause-err
returns-in_default-host_of-clause-err c =
    no_host c.args.shards (table_view c.args.table.now) c.in-Some.number (sym c.in-Some.ensures) (c.in_default-host_of.ensures.none refl)

pub returns-in_default-port_of-clause-err : goal.returns-in_default-port_of-clause-err
returns-in_default-port_of-clause-err c =
    no_port c.args.shards (table_view c.args.table.now) c.in-Some.number c.in-Some-host_of.host (sym c.in-Some.ensures) c.in-Some-host_of.ensures.some (sym c.in_default-port_of.ensures)

pub returns-then-not-has_only_entry_keys-clause-err : goal.returns-then-not-has_only_entry_keys-clause-err
returns-then-not-has_only_entry_keys-clause-err c =
    let refused : c.has_only_entry_keys.result ≡ false = cc c.if-not-has_only_entry_keys.ensures in
    other_key c.args.shards (table_view c.args.table.now) c.in-Some.number c.in-Some-host_of.host c.in-Some-port_of.port (sym c.in-Some.ensures) c.in-Some-host_of.ensures.some (sym c.in-Some-port_of.ensures) (sym c.has_only_entry_keys.ensures ∙ refused)
