-- All nodes, what was sent, seen and decided, and how a node's step meets the world: docs/PROTOCOL.md, "World"
use Rattle.std.specs.Prelude.{ℕ, ◌+◌, ◌==◌, not, List, ◌++◌, length, map, filter, slice_set}
use Rattle.std.specs.List.{range_with_len}
use Rattle.roc_base.specs.declared.id.TxnId.{TxnId}
use Rattle.roc_base.specs.declared.node.Node.{Node}
use Rattle.roc_base.specs.declared.node.Node.TheVariants.{Server, Coord}
use Rattle.roc_msg.specs.declared.msg.Envelope.{Envelope}
use Rattle.roc_msg.specs.declared.outbox.Outgoing.{Outgoing}
use Rattle.roc_step.specs.State.{ServerState, ServerStep}
use Rattle.roc_coord.specs.State.{CoordState}
use Rattle.roc_audit.specs.declared.entry.Entry.{Entry}
use Rattle.roc_audit.specs.Order.{noted}

pub record World : Type 0 where
  -- the server of each shard, and each coordinator, by number
  pub servers : List ServerState
  pub coords : List CoordState
  -- every message ever sent; the first has number 1
  pub sent : List Envelope
  -- the numbers of those that were never delivered, rising
  pub undelivered : List ℕ
  pub history : List Entry
  -- the transactions in the order of their first decision on any server
  pub order : List TxnId

-- ---- the network

abbrev pub sent_by : Node → Outgoing → Envelope
sent_by from out = record { from = from; to = out.to; msg = out.msg }

-- a node sends messages
abbrev pub sends : World → Node → List Outgoing → World
sends w from outs =
    record w {
      sent = w.sent ++ map (sent_by from) outs;
      undelivered = w.undelivered ++ range_with_len (length w.sent + 1) (length outs);
    }

-- message k comes to its receiver
abbrev pub mark_delivered : World → ℕ → World
mark_delivered w k = record w { undelivered = filter (λ n. not (n == k)) w.undelivered }

-- ---- a node's step at its node

-- the server of a shard takes a step, and what it newly decides goes into the order
abbrev pub at_server : World → (shard : ℕ) → ServerStep → World
at_server w shard r =
    record (sends w (Server (record { 0 = shard })) r.sends) { servers = slice_set w.servers shard r.state; order = noted w.order r.decided }

-- a coordinator's state is this one after a step, and it sends these messages and tells this
abbrev pub at_coord : World → (number : ℕ) → CoordState → List Outgoing → List Entry → World
at_coord w number state outs told =
    record (sends w (Coord number) outs) { coords = slice_set w.coords number state; history = w.history ++ told }
