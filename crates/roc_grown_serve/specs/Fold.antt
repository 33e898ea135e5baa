-- What the events of a server's node bring to its core, and the fold of the core's steps over that: docs/PROTOCOL.md, "Growth"
use Rattle.std.specs.Prelude.{◌≡◌, ◌≢◌, Bool, List, [], ◌∷◌, ◌++◌, Option, Some, None, map, if◌then◌else◌}
use Rattle.roc_epoch.specs.declared.file.File.{File}
use Rattle.roc_grown.specs.declared.handled.GrownHandled.TheVariants as answer
use Rattle.roc_grown.specs.Server.{GrownHandles, GrownServerState, GrownStep, grown_server_tick}
use Rattle.roc_msg.specs.declared.msg.Msg.{Msg}
use Rattle.roc_node.specs.NodeEvent.{NodeEvent, took, silent}
use Rattle.roc_node_serve.specs.ServerRun.{is_stop}
use Rattle.roc_grown_node.specs.declared.judging.GrownJudged.{GrownJudged}
use Rattle.roc_grown_node.specs.declared.judging.GrownJudged.TheVariants.{Delivery, Skipped}
use Rattle.roc_grown_node.specs.Judgement.{grown_judged}
use Rattle.roc_grown_node.specs.Posting.{Filed, filed}
use Rattle.roc_grown_node.specs.Setting.{GrownNodeSetting}

-- what comes to a core: a message of a file, or a tick
pub data Brought : Type 0 where
  came : File → Msg → Brought
  ticked : Brought

-- a stop is for the node
abbrev pub grown_judged_brings : GrownJudged → Option Brought
grown_judged_brings (Delivery header file msg) = if is_stop msg then None else Some (came file msg)
grown_judged_brings (Skipped skip) = None

-- what an event brings to the core of a node that has switched or not, if anything
abbrev pub event_brings : GrownNodeSetting → (switched : Bool) → NodeEvent → Option Brought
event_brings S switched (took packet) = grown_judged_brings (grown_judged S switched packet.bytes)
event_brings S switched silent = Some ticked

-- a core does so with what comes to it: it skips nothing; a tick changes nothing; and where nothing comes nothing happens. These messages are sent, each of the
-- file that the core has behind its step
abbrev pub CoreSteps : GrownNodeSetting → GrownServerState → Option Brought → (after : GrownServerState) → List Filed → Type 0
CoreSteps S s None after outs = (after ≡ s) × (outs ≡ [])
CoreSteps S s (Some ticked) after outs = (after ≡ s) × (outs ≡ map (filed s.switched) (grown_server_tick s))
CoreSteps S s (Some (came file msg)) after outs =
    (g : GrownStep) × GrownHandles S.plan (Some S.next) s file msg g × (g.answer ≢ answer.Skipped)
    × (after ≡ g.state) × (outs ≡ map (filed g.state.switched) g.sends)

-- what events bring, one by one, leads a core from one state to another, and it sends these messages
pub data IsCoreFold (S : GrownNodeSetting) (first : GrownServerState) : List NodeEvent → GrownServerState → List Filed → Type 0 where
  no_event : IsCoreFold S first [] first []
  one_event_more : {events : List NodeEvent} {s : GrownServerState} {messages : List Filed} (event : NodeEvent) (after : GrownServerState) (outs : List Filed)
      → IsCoreFold S first events s messages → CoreSteps S s (event_brings S s.switched event) after outs
      → IsCoreFold S first (events ++ event ∷ []) after (messages ++ outs)
