-- The fold of a node's own step over the lines of its log: docs/PROTOCOL.md, "Auditing"
use Rattle.std.specs.Prelude.{◌≡◌, ℕ, ℤ, List, [], ◌∷◌, ◌++◌, Option, Some, None, Result, Ok, Err, if◌then◌else◌, bytes_eq}
use Rattle.roc_base.specs.declared.id.TxnId.{TxnId}
use Rattle.roc_base.specs.declared.node.Node.{Node}
use Rattle.roc_base.specs.declared.node.Node.TheVariants.{Server, Coord}
use Rattle.roc_msg.specs.declared.msg.Msg.{Msg}
use Rattle.roc_msg.specs.declared.outbox.Ran.{Ran}
use Rattle.roc_plan.specs.Groups.{Plan}
use Rattle.roc_wire.specs.declared.header.Header.{Header}
use Rattle.roc_wire.specs.declared.fault.WireFault.{WireFault}
use Rattle.roc_wire.specs.Reading.{datagram}
use Rattle.roc_step.specs.First.{first_server}
use Rattle.roc_step.specs.Reads.{first_viewing, AnswersReads, ReadStep}
use Rattle.roc_step.specs.Runs.{accesses_of}
use Rattle.roc_step.specs.State.{ServerState, ServerStep, Viewing}
use Rattle.roc_step.specs.Step as server
use Rattle.roc_coord.specs.State.{CoordState, first_coord}
use Rattle.roc_coord.specs.Step as coord
use Rattle.roc_coord.specs.Submit.{after_submit}
use Rattle.roc_coord.specs.Tick as tick
use Rattle.roc_log.specs.declared.line.LogLine.{LogLine}
use Rattle.roc_log.specs.declared.line.LogLine.TheVariants.{Submit, In, Tick, Out, Answer}
use Rattle.roc_log.specs.Sent.{outs_logged}
use Rattle.roc_fold.specs.Sent.{answer_logged}

-- a node's core, as far as its log has come
pub data Core : Type 0 where
  serving : ServerState → Viewing → Core
  coordinating : CoordState → Core

-- before any line
abbrev pub first_core : Plan → Node → Core
first_core plan (Server shard) = serving (first_server plan shard) first_viewing
first_core plan (Coord number) = coordinating (first_coord number)

-- ---- events

-- what an event gives: the core behind it, the lines that are due, what is decided, and what ran
pub record GivenByEvent : Type 0 where
  pub core : Core
  pub due : List LogLine
  pub decided : List TxnId
  pub ran : List Ran

-- what comes of a message at a server; a Stop is foreign to a core, which it leaves as it was
pub record GivesAtServer (plan : Plan) (header : Header) (s : ServerState) (v : Viewing) (msg : Msg) (g : GivenByEvent) : Type 0 where
  pub step : ServerStep
  pub reads : ReadStep
  pub handles : server.Handles plan s msg step
  pub answers : AnswersReads plan v msg step reads
  pub is : g ≡ record { core = serving step.state reads.viewing; due = outs_logged header (step.sends ++ reads.sends); decided = step.decided; ran = accesses_of step.ran }

-- what comes of a message
abbrev pub GivesMessage : Plan → Header → Core → Msg → GivenByEvent → Type 0
GivesMessage plan header (serving s v) msg g = GivesAtServer plan header s v msg g
GivesMessage plan header (coordinating c) msg g =
    g ≡ record {
      core = coordinating (coord.after_message plan c msg).state;
      due = outs_logged header (coord.after_message plan c msg).sends ++ answer_logged (coord.after_message plan c msg).answer;
      decided = [];
      ran = [];
    }

-- what was read is a message to the node where it has its tag
abbrev pub if_tagged : (tag : List ℕ) → Result (Header × Msg) WireFault → Option Msg
if_tagged tag (Ok read) = if bytes_eq read.0.tag tag then Some read.1 else None
if_tagged tag (Err fault) = None

-- the message of a datagram with this tag; nothing of other bytes
abbrev pub brought : (tag bytes : List ℕ) → Option Msg
brought tag bytes = if_tagged tag (datagram bytes)

abbrev pub GivesTick : Plan → Header → Core → GivenByEvent → Type 0
GivesTick plan header (serving s v) g = g ≡ record { core = serving s v; due = outs_logged header (server.tick_sends s); decided = []; ran = [] }
GivesTick plan header (coordinating c) g = g ≡ record { core = coordinating c; due = outs_logged header (tick.tick_sends plan c); decided = []; ran = [] }

-- a submission that is refused gives nothing, and nothing is submitted to a server
abbrev pub GivesSubmission : Plan → Header → Core → ℕ → List ℤ → GivenByEvent → Type 0
GivesSubmission plan header (serving s v) proc args g = ⊥
GivesSubmission plan header (coordinating c) proc args g =
    (id : TxnId) × ((after_submit plan c proc args).answer ≡ Ok id)
    × (g ≡ record { core = coordinating (after_submit plan c proc args).state; due = outs_logged header (after_submit plan c proc args).sends; decided = []; ran = [] })

-- what comes of an event line: no other line is one
abbrev pub Gives : Plan → Header → Core → LogLine → GivenByEvent → Type 0
Gives plan header core (In bytes) g = (msg : Msg) × (brought header.tag bytes ≡ Some msg) × GivesMessage plan header core msg g
Gives plan header core Tick g = GivesTick plan header core g
Gives plan header core (Submit proc args) g = GivesSubmission plan header core proc args g
Gives plan header core (Out bytes) g = ⊥
Gives plan header core (Answer id reply) g = ⊥

-- ---- lines

-- how far a fold is: the core, the lines that are due, what was decided and what ran, in order
pub record Folding : Type 0 where
  pub core : Core
  pub due : List LogLine
  pub decided : List TxnId
  pub ran : List Ran

-- before any line
abbrev pub nothing : Core → Folding
nothing core = record { core = core; due = []; decided = []; ran = [] }

-- behind an event
abbrev pub behind_event : Folding → GivenByEvent → Folding
behind_event f g = record { core = g.core; due = g.due; decided = f.decided ++ g.decided; ran = f.ran ++ g.ran }

-- behind a line that was due
abbrev pub behind_due : Folding → List LogLine → Folding
behind_due f rest = record { core = f.core; due = rest; decided = f.decided; ran = f.ran }

-- the line stands next, and leads on: the first of those that are due, or an event where none is due
pub data TakesLine (plan : Plan) (header : Header) (f : Folding) (line : LogLine) : Folding → Type 0 where
  takes_event : (g : GivenByEvent) → f.due ≡ [] → Gives plan header f.core line g → TakesLine plan header f line (behind_event f g)
  takes_due : (rest : List LogLine) → f.due ≡ line ∷ rest → TakesLine plan header f line (behind_due f rest)

-- the line cannot stand next
abbrev pub Refuses : Plan → Header → Folding → LogLine → Type 0
Refuses plan header f line = (h : Folding) → ¬ TakesLine plan header f line h

-- the lines, one by one, lead from this core to here
pub data FoldsTo (plan : Plan) (header : Header) (first : Core) : List LogLine → Folding → Type 0 where
  begins : FoldsTo plan header first [] (nothing first)
  goes_on : {lines : List LogLine} {f : Folding} (line : LogLine) (h : Folding)
      → FoldsTo plan header first lines f → TakesLine plan header f line h → FoldsTo plan header first (lines ++ line ∷ []) h
