-- What comes of a step for reads, by what it leaves
use Rattle.std.specs.Prelude.{◌≡◌, IfSome, not, List, [], Option, Some, None, map, filter, if◌then◌else◌}
use Rattle.roc_base.specs.declared.node.Node.TheVariants.{Coord}
use Rattle.roc_base.specs.declared.node.Shard.{Shard}
use Rattle.roc_msg.specs.declared.msg.Msg.{Msg}
use Rattle.roc_msg.specs.declared.msg.Msg.TheVariants.{Read, ReadOk}
use Rattle.roc_msg.specs.declared.outbox.Outgoing.{Outgoing}
use Rattle.roc_msg.specs.declared.outbox.Ran.{Ran}
use Rattle.roc_msg.specs.Outbox.{Collected, HasSent}
use Rattle.roc_plan.specs.Groups.{Plan}
use Rattle.roc_group.specs.GroupRun.{group_run, group_uses}
use Rattle.roc_rows.specs.Store.{Store}
use Rattle.roc_rows.specs.Versions.{Counts, version}
use Rattle.roc_step.specs.declared.handled.Handled.{Handled}
use Rattle.roc_step.specs.declared.handled.Handled.TheVariants.{Done}
use Rattle.roc_step.specs.declared.kept_read.KeptRead.{KeptRead}
use Rattle.roc_step.specs.Fits.{IsReadOf}
use Rattle.roc_step.specs.Reads.{in_turn, is_taken, read_call, reads_with, with_accesses, ReadStep}
use Rattle.roc_step.specs.State.{Viewing}
use Rattle.roc_server_reads.specs.Behind.{is_free_behind, LeftBehind}
use Rattle.roc_server_reads.specs.declared.views.StayingReads.{StayingReads}
use Rattle.roc_server_reads.specs.Views.{viewing_then}

-- the read of a message that was taken
abbrev pub read_in : Msg → Handled → Option KeptRead
read_in (Read id round proc group args) Done = Some (record { id = id; round = round; proc = proc; group = group; args = args })
read_in msg answer = None

-- the read of a message that was taken is of the plan
abbrev pub TakenFits : Plan → Msg → Handled → Type 0
TakenFits plan msg answer = IfSome (read_in msg answer) (IsReadOf plan)

-- what is answered to a read over these cells and versions
abbrev pub readok_over : Plan → Shard → Store → Counts → KeptRead → Outgoing
readok_over plan shard store versions q =
    record {
      to = Coord q.id.coord;
      msg = ReadOk q.id q.round q.group shard (map (λ a. version versions a.cell) (group_uses plan (read_call q) store)) (group_run plan (read_call q) store).reply;
    }

-- those of these reads that are free are answered, and the others stay
abbrev pub answering_free : Plan → Shard → LeftBehind → Counts → List KeptRead → ReadStep
answering_free plan shard b versions reads =
    record {
      viewing = record { versions = versions; reads = filter (λ q. not (is_free_behind plan b q)) reads };
      sends = map (readok_over plan shard b.store versions) (in_turn (filter (is_free_behind plan b) reads));
    }

-- what comes of a step for reads, by what ran in it
abbrev pub read_step_behind : Plan → Shard → LeftBehind → Viewing → Msg → Handled → List Ran → ReadStep
read_step_behind plan shard b v msg answer ran =
    if is_taken answer then answering_free plan shard b (with_accesses v.versions ran) (reads_with msg answer v.reads) else record { viewing = v; sends = [] }

-- it is found: these reads stay, and the rest is sent
pub record AreReadsFound (plan : Plan) (shard : Shard) (b : LeftBehind) (v : Viewing) (msg : Msg) (answer : Handled) (old new : Collected) (stays : Option StayingReads) : Type 0 where
  pub viewing : (read_step_behind plan shard b v msg answer old.ran).viewing ≡ viewing_then v answer old.ran stays
  pub sent : HasSent old new (read_step_behind plan shard b v msg answer old.ran).sends
