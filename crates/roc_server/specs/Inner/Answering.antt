-- What a step leaves that reads see, and what comes of it for reads
use Rattle.std.specs.Prelude.{◌≡◌, List, [], Option, if◌then◌else◌}
use Rattle.roc_base.specs.declared.id.TxnId.{TxnId}
use Rattle.roc_msg.specs.declared.msg.Msg.{Msg}
use Rattle.roc_msg.specs.declared.outbox.Ran.{Ran}
use Rattle.roc_msg.specs.Outbox.{Collected, HasSent}
use Rattle.roc_plan.specs.Groups.{Plan}
use Rattle.roc_step.specs.declared.handled.Handled.{Handled}
use Rattle.roc_step.specs.New.{AreDecided}
use Rattle.roc_step.specs.Reads.{answering, is_taken, reads_with, with_accesses, ReadStep}
use Rattle.roc_step.specs.State.{ServerState, Viewing}
use Rattle.roc_server_lists.specs.ListsNow.{newly_of}
use Rattle.roc_server_reads.specs.Behind.{LeftBehind}
use Rattle.roc_server_reads.specs.declared.views.StayingReads.{StayingReads}
use Rattle.roc_server_reads.specs.Views.{viewing_then}
use Rattle.roc_server.specs.declared.parts.ServerParts.{ServerParts}

-- what reads see of the step that is tried
abbrev pub left_behind : ServerParts → LeftBehind
left_behind k = record { store = k.rows.store; decided = k.lists.decided; newly = newly_of k.lists.tried; started = k.groups.ran; starting = k.groups.starting }

-- what comes of a step for reads, by what ran in it
abbrev pub read_step : Plan → (decided : List TxnId) → Viewing → Msg → Handled → ServerState → List Ran → ReadStep
read_step plan decided v msg answer state ran =
    if is_taken answer then answering plan decided state (with_accesses v.versions ran) (reads_with msg answer v.reads) else record { viewing = v; sends = [] }

-- these reads stay, and the rest is sent
pub record FindsReads (plan : Plan) (state : ServerState) (v : Viewing) (msg : Msg) (answer : Handled) (old new : Collected) (stays : Option StayingReads) : Type 0 where
  pub step : (decided : List TxnId) → AreDecided state.lists.links decided
      → ((read_step plan decided v msg answer state old.ran).viewing ≡ viewing_then v answer old.ran stays)
      × HasSent old new (read_step plan decided v msg answer state old.ran).sends
