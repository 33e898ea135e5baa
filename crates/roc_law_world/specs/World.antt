-- All nodes, with what they keep for views, what was sent, seen and decided, and how a node's step meets the world: docs/PROTOCOL.md, "World"
use Rattle.std.specs.Prelude.{ℕ, ◌+◌, ◌==◌, not, List, [], ◌∷◌, ◌++◌, Option, Some, None, length, map, filter, slice_set}
use Rattle.std.specs.List.{filter_map, range_with_len}
use Rattle.roc_base.specs.declared.id.TxnId.{TxnId}
use Rattle.roc_base.specs.declared.node.Node.{Node}
use Rattle.roc_base.specs.declared.node.Node.TheVariants.{Server, Coord}
use Rattle.roc_msg.specs.declared.msg.Msg.{Msg}
use Rattle.roc_msg.specs.declared.msg.Msg.TheVariants.{Read}
use Rattle.roc_msg.specs.declared.msg.Envelope.{Envelope}
use Rattle.roc_msg.specs.declared.outbox.Outgoing.{Outgoing}
use Rattle.roc_plan.specs.Groups.{Plan}
use Rattle.roc_rows.specs.Versions.{Counts, unwritten}
use Rattle.roc_step.specs.State.{ServerState, ServerStep, Viewing}
use Rattle.roc_step.specs.Reads.{ReadStep}
use Rattle.roc_coord.specs.State.{CoordState}
use Rattle.roc_audit.specs.declared.entry.Entry.{Entry}
use Rattle.roc_audit.specs.Order.{noted}
use Rattle.roc_audit.specs.Woven.{Look}
use Rattle.roc_law_protocol.specs.Beginnings as transactions
use Rattle.roc_law_protocol.specs.World.{sent_by}

pub record World : Type 0 where
  -- the server of each shard with what it keeps for views, and each coordinator, by number
  pub servers : List ServerState
  pub viewing : List Viewing
  pub coords : List CoordState
  -- every message ever sent; the first has number 1
  pub sent : List Envelope
  -- the numbers of those that were never delivered, rising
  pub undelivered : List ℕ
  -- submissions and answers, of transactions and of views
  pub history : List Entry
  -- the transactions in the order of their first decision on any server
  pub order : List TxnId
  -- the view of each round that began, and behind how many transactions of the order it did
  pub looks : List Look

-- where a run begins: as one of transactions does, and how often the cells of each shard were written before
pub record Beginning : Type 0 where
  pub of_transactions : transactions.Beginning
  pub versions : ℕ → Counts

-- where the first world begins: nothing was written
abbrev pub first_beginning : Plan → Beginning
first_beginning plan = record { of_transactions = transactions.first_beginning plan; versions = λ n. unwritten }

abbrev pub begun_viewing : Beginning → (shard : ℕ) → Viewing
begun_viewing b shard = record { versions = b.versions shard; reads = [] }

-- nothing is sent, started or pending, and nobody has looked
abbrev pub begun_world : Plan → Beginning → (coords : ℕ) → World
begun_world plan b coords =
    record {
      servers = map (transactions.begun_server b.of_transactions) (range_with_len 0 plan.program.shards);
      viewing = map (begun_viewing b) (range_with_len 0 plan.program.shards);
      coords = map (transactions.begun_coord b.of_transactions) (range_with_len 0 coords);
      sent = [];
      undelivered = [];
      history = [];
      order = [];
      looks = [];
    }

-- each server holds the start cells of its places
abbrev pub first_world : Plan → (coords : ℕ) → World
first_world plan coords = begun_world plan (first_beginning plan) coords

-- ---- the network

-- a node sends messages
abbrev pub sends : World → Node → List Outgoing → World
sends w from outs =
    record w {
      sent = w.sent ++ map (sent_by from) outs;
      undelivered = w.undelivered ++ range_with_len (length w.sent + 1) (length outs);
    }

-- message k comes to its receiver
abbrev pub mark_delivered : World → ℕ → World
mark_delivered w k = record w { undelivered = filter (λ n. not (n == k)) w.undelivered }

-- ---- a node's step at its node

-- the server of a shard takes a step, and what comes of it for reads; what it newly decides goes into the order
abbrev pub at_server : World → (shard : ℕ) → ServerStep → ReadStep → World
at_server w shard r q =
    record (sends w (Server (record { 0 = shard })) (r.sends ++ q.sends)) {
      servers = slice_set w.servers shard r.state;
      viewing = slice_set w.viewing shard q.viewing;
      order = noted w.order r.decided;
    }

-- the view that a message reads for
abbrev pub reads_for : Msg → Option TxnId
reads_for (Read id round proc group args) = Some id
reads_for msg = None

-- the round that begins where a coordinator sends these: that of the first read among them, as all are of one
abbrev pub first_look : (behind : ℕ) → List TxnId → List Look
first_look behind [] = []
first_look behind (id ∷ ids) = record { id = id; behind = behind } ∷ []

abbrev pub looks_in : (behind : ℕ) → List Outgoing → List Look
looks_in behind outs = first_look behind (filter_map (λ out. reads_for out.msg) outs)

-- a coordinator's state is this one after a step, and it sends these messages and tells this
abbrev pub at_coord : World → (number : ℕ) → CoordState → List Outgoing → List Entry → World
at_coord w number state outs told =
    record (sends w (Coord number) outs) {
      coords = slice_set w.coords number state;
      history = w.history ++ told;
      looks = w.looks ++ looks_in (length w.order) outs;
    }

-- time has passed for a coordinator: no round begins
abbrev pub at_coord_tick : World → (number : ℕ) → List Outgoing → World
at_coord_tick w number outs = sends w (Coord number) outs
