-- The logs of all nodes of one run of the world: docs/PROTOCOL.md, "Auditing"
use Rattle.std.specs.Prelude.{◌≡◌, ◌≢◌, ℕ, ℤ, ◌-◌, Bool, true, false, List, [], ◌∷◌, ◌++◌, Option, Some, None, option_map, length, drop, map, slice_get}
use Rattle.std.specs.List.{flat_map}
use Rattle.roc_sequence.specs.Lists.{Has}
use Rattle.roc_base.specs.declared.node.Shard.{Shard}
use Rattle.roc_base.specs.declared.node.Node.{Node}
use Rattle.roc_base.specs.declared.node.Node.TheVariants.{Server, Coord}
use Rattle.roc_base.specs.Node.{is_node}
use Rattle.roc_msg.specs.declared.msg.Msg.{Msg}
use Rattle.roc_msg.specs.declared.msg.Msg.TheVariants as message
use Rattle.roc_msg.specs.declared.msg.Envelope.{Envelope}
use Rattle.roc_plan.specs.Groups.{Plan}
use Rattle.roc_wire.specs.declared.header.Header.{Header}
use Rattle.roc_wire.specs.Fits.{IsSpellable}
use Rattle.roc_wire.specs.Laws.{Spells}
use Rattle.roc_audit.specs.declared.entry.Entry.{Entry}
use Rattle.roc_audit.specs.declared.entry.Entry.TheVariants as entry
use Rattle.roc_law_protocol.specs.declared.event.Event.{Event}
use Rattle.roc_law_protocol.specs.declared.event.Event.TheVariants as event
use Rattle.roc_law_protocol.specs.declared.event.Kept.{Kept}
use Rattle.roc_law_protocol.specs.declared.event.Seen.{Seen}
use Rattle.roc_law_protocol.specs.declared.event.Seen.TheVariants as seen
use Rattle.roc_law_world.specs.World.{World, first_world}
use Rattle.roc_law_world.specs.Happens.{Outcome}
use Rattle.roc_law_world.specs.Run.{Stepped, IsNodeOf}
use Rattle.roc_log.specs.declared.line.LogLine.{LogLine}
use Rattle.roc_log.specs.declared.line.LogLine.TheVariants.{Submit, In, Tick, Answer}
use Rattle.roc_log.specs.declared.line.Log.{Log}
use Rattle.roc_log.specs.Sent.{outs_logged}
use Rattle.roc_judge.specs.declared.folded.Folded.{Folded}
use Rattle.roc_fold.specs.Folded.{header_of, IsFolded}

-- ---- whose an event is

-- the node that takes a step, where these are the messages of the network
abbrev pub node_of_event : List Envelope → Option Event → Option Node
node_of_event sent None = None
node_of_event sent (Some (event.Submit number proc args)) = Some (Coord number)
node_of_event sent (Some (event.Deliver k)) = option_map (λ m. m.to) (slice_get sent (k - 1))
node_of_event sent (Some (event.Tick node)) = Some node
node_of_event sent (Some (event.Stop shard during)) = Some (Server shard)

abbrev pub is_step_of : Node → Option Node → Bool
is_step_of node None = false
is_step_of node (Some other) = is_node other node

-- ---- what it logs

-- the messages that the network gained, as lines of the node that sent them
abbrev pub outs_gained : Header → (before after : World) → List LogLine
outs_gained header before after = outs_logged header (map (λ m. record { to = m.to; msg = m.msg }) (drop (length before.sent) after.sent))

abbrev pub lines_of_entry : Entry → List LogLine
lines_of_entry (entry.Submitted id proc args) = []
lines_of_entry (entry.Answered id reply) = Answer id reply ∷ []

-- the answers that the history gained
abbrev pub answers_gained : (before after : World) → List LogLine
answers_gained before after = flat_map lines_of_entry (drop (length before.history) after.history)

-- a message that came is logged as whatever bytes spell it behind the node's tag, and behind them all that came of it
pub record LogsMessage (header : Header) (before after : World) (msg : Msg) (more : List LogLine) : Type 0 where
  pub bytes : List ℕ
  pub by : Header
  pub tagged : by.tag ≡ header.tag
  pub spells : Spells bytes by msg
  pub lines : more ≡ In bytes ∷ (outs_gained header before after ++ answers_gained before after)

abbrev pub LogsDelivery : Header → (before after : World) → Option Envelope → List LogLine → Type 0
LogsDelivery header before after None more = ⊥
LogsDelivery header before after (Some m) more = LogsMessage header before after m.msg more

-- a submission is logged where it was taken
abbrev pub LogsSubmission : Header → (before after : World) → (proc : ℕ) → List ℤ → Seen → List LogLine → Type 0
LogsSubmission header before after proc args (seen.Submitted id) more = more ≡ Submit proc args ∷ outs_gained header before after
LogsSubmission header before after proc args what more = more ≡ []

-- what the node of this header logs in its own step; a server that stops and starts again keeps no log
abbrev pub LogsOwn : Header → (before : World) → Option Event → Outcome → List LogLine → Type 0
LogsOwn header before None o more = ⊥
LogsOwn header before (Some (event.Submit number proc args)) o more = LogsSubmission header before o.world proc args o.seen more
LogsOwn header before (Some (event.Deliver k)) o more = LogsDelivery header before o.world (slice_get before.sent (k - 1)) more
LogsOwn header before (Some (event.Tick node)) o more = more ≡ Tick ∷ outs_gained header before o.world
LogsOwn header before (Some (event.Stop shard during)) o more = ⊥

-- in another's step it logs nothing
abbrev pub LogsWhere : (own : Bool) → Header → (before : World) → Option Event → Outcome → List LogLine → Type 0
LogsWhere true header before e o more = LogsOwn header before e o more
LogsWhere false header before e o more = more ≡ []

abbrev pub LogsStep : Header → (before : World) → Stepped → List LogLine → Type 0
LogsStep header before x more = LogsWhere (is_step_of header.from (node_of_event before.sent x.event)) header before x.event x.outcome more

-- what it logs over these steps, which begin in this world
abbrev pub AreLoggedFrom : Header → (before : World) → List Stepped → List LogLine → Type 0
AreLoggedFrom header before [] lines = lines ≡ []
AreLoggedFrom header before (x ∷ steps) lines =
    (more : List LogLine) × (rest : List LogLine) × LogsStep header before x more × AreLoggedFrom header x.outcome.world steps rest × (lines ≡ more ++ rest)

-- ---- and between

-- a Stop that came; it is for a node and not for its core, so it is no event of the world, and nothing comes of it that would be logged
pub record IsStopLine (header : Header) (line : LogLine) : Type 0 where
  pub bytes : List ℕ
  pub by : Header
  pub tagged : by.tag ≡ header.tag
  pub spells : Spells bytes by message.Stop
  pub is : line ≡ In bytes

abbrev pub AreStops : Header → List LogLine → Type 0
AreStops header [] = Unit {0}
AreStops header (line ∷ lines) = IsStopLine header line × AreStops header lines

-- all that it logs over these steps: before the lines of each step, and behind them all, Stops may stand
abbrev pub AreAllLogged : Header → (before : World) → List Stepped → List LogLine → Type 0
AreAllLogged header before [] lines = AreStops header lines
AreAllLogged header before (x ∷ steps) lines =
    (stops : List LogLine) × (more : List LogLine) × (rest : List LogLine) × AreStops header stops × LogsStep header before x more × AreAllLogged header x.outcome.world steps rest
    × (lines ≡ stops ++ (more ++ rest))

-- ---- the logs of a run

-- each log is that of a node, and each node has one
pub record AreLogsOfRun (plan : Plan) (coords : ℕ) (steps : List Stepped) (w : World) (logs : List Log) : Type 0 where
  pub each : (log : Log) → Has log logs → IsNodeOf w log.node × AreAllLogged (header_of log) (first_world plan coords) steps log.lines
  pub all : (node : Node) → IsNodeOf w node → (log : Log) × Has log logs × (log.node ≡ node)

-- such a run has logs: no server stops in it, and each message that comes has a spelling behind this tag
pub record MayBeLogged (tag : List ℕ) (steps : List Stepped) (w : World) : Type 0 where
  pub no_stop : (x : Stepped) → Has x steps → (shard : Shard) (during : Option (ℕ × Kept)) → x.event ≢ Some (event.Stop shard during)
  pub spelled :
      (x : Stepped) → Has x steps → (k : ℕ) → x.event ≡ Some (event.Deliver k) → (m : Envelope) → slice_get w.sent (k - 1) ≡ Some m
      → IsSpellable (record { tag = tag; from = m.from }) m.msg

-- these are what the logs tell, in whatever order
pub record AreFoldsOf (plan : Plan) (logs : List Log) (folds : List Folded) : Type 0 where
  pub each : (f : Folded) → Has f folds → (log : Log) × Has log logs × IsFolded plan log f
  pub all : (log : Log) → Has log logs → (f : Folded) × Has f folds × IsFolded plan log f
