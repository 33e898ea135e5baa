-- A server before any message: docs/PROTOCOL.md, "Server"
use Rattle.std.specs.Prelude.{◌==◌, [], filter}
use Rattle.roc_base.specs.declared.node.Shard.{Shard}
use Rattle.roc_plan.specs.Groups.{Plan, shard_of}
use Rattle.roc_rows.specs.Store.{empty}
use Rattle.roc_whole.specs.Serial.{after_inits}
use Rattle.roc_step.specs.Waits.{none_waiting}
use Rattle.roc_step.specs.Below.{none_below}
use Rattle.roc_step.specs.State.{ServerState}

-- it holds the start cells of its places, and nothing else
abbrev pub first_server : Plan → Shard → ServerState
first_server plan shard =
    record {
      shard = shard;
      store = after_inits empty (filter (λ i. shard_of plan i.place == shard.0) plan.program.inits);
      started = [];
      lists = record { known = []; links = []; waiting = none_waiting; taken = [] };
      below = none_below;
    }
