-- The records so far were taken.
use Rattle.std.proofs.Common.{◌≡◌, ◌-◌, ℕ, true, List, [], Some}
use Rattle.roc_base.specs.declared.node.Shard.{Shard}
use Rattle.roc_disk.specs.Over.{Stays}
use Rattle.roc_journal.specs.declared.record.Record.{Record}
use Rattle.roc_server.specs.Ahead.{ServingFits}
use Rattle.roc_kept.specs.Opening.{GivesSome, IsFurther, IsTakenTo}
use Rattle.roc_kept.proofs.taking.take_records.Given as goal

abbrev pub invariant-each : goal.invariant-each
invariant-each g l =
    let D = g.D.Disk in
    record {
      fits : ServingFits l.fn.plan l.server;
      shard : l.server.state.shard ≡ l.fn.server.state.shard;
      further : IsFurther l.fn.reader l.last;
      faults : D.faults l.disk ≡ D.faults l.fn.disk;
      told : D.tells l.disk ≡ true → D.tells l.fn.disk ≡ true;
      stays : D.tells l.disk ≡ true → Stays D l.fn.disk l.disk;
      gives : (shard : Shard) → GivesSome l.fn.plan shard l.fn.server.state l.fn.server.viewing → GivesSome l.fn.plan shard l.server.state l.server.viewing;
      taken : D.tells l.disk ≡ true → (name : List ℕ) → D.file l.fn.disk ≡ Some name → (shard : Shard)
          → IsTakenTo l.fn.plan shard (D.content l.fn.disk name) [] l.fn.reader l.fn.server.state l.fn.server.viewing
          → (records : List Record) × IsTakenTo l.fn.plan shard (D.content l.fn.disk name) records l.last l.server.state l.server.viewing;
    }

abbrev pub decreases-each : goal.decreases-each
decreases-each g l = l.last.len - l.last.gate
