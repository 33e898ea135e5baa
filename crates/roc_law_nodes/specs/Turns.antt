-- What the turns of a node's run bring to its core: docs/PROTOCOL.md, "Running nodes"
use Rattle.std.specs.Prelude.{◌≡◌, ℕ, ◌-◌, Bool, true, false, not, List, [], ◌∷◌, ◌++◌, length, take, Option, option_map, filter}
use Rattle.std.specs.List.{filter_map, flat_map}
use Rattle.roc_io.specs.Packet.{Packet}
use Rattle.roc_msg.specs.declared.msg.Msg.{Msg}
use Rattle.roc_plan.specs.Groups.{Plan}
use Rattle.roc_program.specs.LookUps.{procedure_named}
use Rattle.roc_sched.specs.declared.line.Request.{Request}
use Rattle.roc_wire.specs.declared.header.Header.{Header}
use Rattle.roc_wire.specs.Fits.{IsSpellable}
use Rattle.roc_wire.specs.Laws.{Spells}
use Rattle.roc_node.specs.Judgement.{judged}
use Rattle.roc_node.specs.declared.judging.Judged.{Judged}
use Rattle.roc_node.specs.declared.judging.Judged.TheVariants.{Delivery, Skipped}
use Rattle.roc_node.specs.declared.judging.Skip.{Skip}
use Rattle.roc_node.specs.NodeEvent.{NodeEvent, took, silent, NodeSetting}
use Rattle.roc_node_submit.specs.CoordRun.{CoordNodeState, submissions_of, coord_turn}
use Rattle.roc_node_serve.specs.ServerRun.{is_stop}
use Rattle.roc_law_nodes.specs.Own.{OwnEvent, delivered, ticked, requested, stopped}

-- ---- any turns

-- a datagram that is a delivery brings its message, and one that is skipped nothing
abbrev pub judged_brings : Judged → List OwnEvent
judged_brings (Delivery header msg) = delivered msg ∷ []
judged_brings (Skipped skip) = []

-- silence brings a tick
abbrev pub turn_brings : (tag : List ℕ) → NodeEvent → List OwnEvent
turn_brings tag (took packet) = judged_brings (judged tag packet.bytes)
turn_brings tag silent = ticked ∷ []

abbrev pub turns_bring : (tag : List ℕ) → List NodeEvent → List OwnEvent
turns_bring tag events = flat_map (turn_brings tag) events

-- a stop is for a server's node, and not for its core
abbrev pub is_for_core : OwnEvent → Bool
is_for_core (delivered msg) = not (is_stop msg)
is_for_core ticked = true
is_for_core (requested proc args) = true
is_for_core (stopped at) = true

-- ---- turns that spell own events

-- the bytes spell a delivery of this message to a node with this tag, whoever sent it
pub record SpellsDelivery (tag bytes : List ℕ) (msg : Msg) : Type 0 where
  pub header : Header
  pub tagged : header.tag ≡ tag
  pub spells : Spells bytes header msg

-- a datagram that spells a delivery, or a silence that is a tick
abbrev pub IsTurnOf : (tag : List ℕ) → NodeEvent → OwnEvent → Type 0
IsTurnOf tag (took packet) (delivered msg) = SpellsDelivery tag packet.bytes msg
IsTurnOf tag (took packet) ticked = ⊥
IsTurnOf tag (took packet) (requested proc args) = ⊥
IsTurnOf tag (took packet) (stopped at) = ⊥
IsTurnOf tag silent ticked = Unit {0}
IsTurnOf tag silent (delivered msg) = ⊥
IsTurnOf tag silent (requested proc args) = ⊥
IsTurnOf tag silent (stopped at) = ⊥

-- the turns bring these own events, one each; between them may be datagrams that are skipped
pub data AreTurnsOf (tag : List ℕ) : List NodeEvent → List OwnEvent → Type 0 where
  no_turns : AreTurnsOf tag [] []
  turn : {events : List NodeEvent} {owns : List OwnEvent} (event : NodeEvent) (own : OwnEvent) → IsTurnOf tag event own → AreTurnsOf tag events owns
      → AreTurnsOf tag (event ∷ events) (own ∷ owns)
  skipping : {events : List NodeEvent} {owns : List OwnEvent} (packet : Packet) (skip : Skip) → judged tag packet.bytes ≡ Skipped skip → AreTurnsOf tag events owns
      → AreTurnsOf tag (took packet ∷ events) owns

-- a tick, or a delivery of a message that has a spelling behind this header
abbrev pub HasTurn : Header → OwnEvent → Type 0
HasTurn header (delivered msg) = IsSpellable header msg
HasTurn header ticked = Unit {0}
HasTurn header (requested proc args) = ⊥
HasTurn header (stopped at) = ⊥

-- ---- the requests of a coordinator's node

abbrev pub is_request : OwnEvent → Bool
is_request (requested proc args) = true
is_request (delivered msg) = false
is_request ticked = false
is_request (stopped at) = false

-- the submission of a request: none, where it names no procedure
abbrev pub own_request : Plan → Request → Option OwnEvent
own_request plan request = option_map (λ proc. requested proc request.args) (procedure_named plan.program request.name)

abbrev pub own_requests : Plan → List Request → List OwnEvent
own_requests plan requests = filter_map (own_request plan) requests

-- those that a coordinator's node submits before its next turn
abbrev pub next_requests : NodeSetting → CoordNodeState → List Request
next_requests S node = take (length node.left - length (submissions_of S node).left) node.left

-- the own events of a node over these turns: before each its submissions, and then what the turn brings
abbrev pub coord_owns : NodeSetting → CoordNodeState → List NodeEvent → List OwnEvent
coord_owns S node [] = []
coord_owns S node (event ∷ events) = own_requests S.plan (next_requests S node) ++ (turn_brings S.header.tag event ++ coord_owns S (coord_turn S node event) events)

-- these are what the turns brought, in order, and with them the submissions of requests of which these are left, in order
pub record AreBrought (S : NodeSetting) (requests left : List Request) (events : List NodeEvent) (own : List OwnEvent) : Type 0 where
  pub turns : filter (λ e. not (is_request e)) own ≡ turns_bring S.header.tag events
  pub taken : List Request
  pub all : requests ≡ taken ++ left
  pub submissions : filter is_request own ≡ own_requests S.plan taken
