-- All nodes, each with its own file, what was sent, and by whom of which file, what was seen and decided, and how a node's step meets the world:
-- docs/PROTOCOL.md, "Growth"
use Rattle.std.specs.Prelude.{ℕ, ◌==◌, nat_le, not, Bool, false, ◌&&◌, List, [], ◌++◌, Option, Some, None, length, map, filter, slice_get, slice_set}
use Rattle.std.specs.List.{range_with_len}
use Rattle.roc_base.specs.declared.id.TxnId.{TxnId}
use Rattle.roc_base.specs.declared.node.Node.{Node}
use Rattle.roc_base.specs.declared.node.Node.TheVariants.{Server, Coord}
use Rattle.roc_msg.specs.declared.outbox.Outgoing.{Outgoing}
use Rattle.roc_plan.specs.Groups.{Plan}
use Rattle.roc_audit.specs.declared.entry.Entry.{Entry}
use Rattle.roc_audit.specs.Order.{noted}
use Rattle.roc_audit.specs.Woven.{Look}
use Rattle.roc_law_world.specs.World.{looks_in}
use Rattle.roc_two_files.specs.Sealed.{Sealed, sealed_by, numbers_behind}
use Rattle.roc_grown.specs.Server.{GrownServerState, GrownStep, first_grown_server}
use Rattle.roc_grown.specs.Coord.{GrownCoordState, first_grown_coord}

pub record GrownWorld : Type 0 where
  -- the server of each shard, and each coordinator, by number
  pub servers : List GrownServerState
  pub coords : List GrownCoordState
  -- every message ever sent, with the file of its sender then; the first has number 1
  pub sent : List Sealed
  -- the numbers of those that were never delivered, rising
  pub undelivered : List ℕ
  -- submissions and answers, of transactions and of views
  pub history : List Entry
  -- the transactions in the order of their first decision on any server
  pub order : List TxnId
  -- the view of each round that began, and behind how many transactions of the order it did
  pub looks : List Look

-- each server holds the start cells of its places, and each node has the first file
abbrev pub first_grown_world : Plan → (coords : ℕ) → GrownWorld
first_grown_world plan coords =
    record {
      servers = map (λ n. first_grown_server plan (record { 0 = n })) (range_with_len 0 plan.program.shards);
      coords = map first_grown_coord (range_with_len 0 coords);
      sent = [];
      undelivered = [];
      history = [];
      order = [];
      looks = [];
    }

-- ---- the network

-- a node of this file sends messages
abbrev pub sends : GrownWorld → (switched : Bool) → Node → List Outgoing → GrownWorld
sends w switched from outs =
    record w {
      sent = w.sent ++ map (sealed_by switched from) outs;
      undelivered = w.undelivered ++ numbers_behind w.sent (length outs);
    }

-- message k comes to its receiver
abbrev pub mark_delivered : GrownWorld → ℕ → GrownWorld
mark_delivered w k = record w { undelivered = filter (λ n. not (n == k)) w.undelivered }

-- ---- a node's step at its node: what it sends is of the file that it has behind the step

-- the server of a shard takes a step; what it newly decides goes into the order
abbrev pub at_server : GrownWorld → (shard : ℕ) → GrownStep → GrownWorld
at_server w shard r =
    record (sends w r.state.switched (Server (record { 0 = shard })) r.sends) {
      servers = slice_set w.servers shard r.state;
      order = noted w.order r.decided;
    }

-- a coordinator's state is this one after a step, and it sends these messages and tells this
abbrev pub at_coord : GrownWorld → (number : ℕ) → GrownCoordState → List Outgoing → List Entry → GrownWorld
at_coord w number state outs told =
    record (sends w state.switched (Coord number) outs) {
      coords = slice_set w.coords number state;
      history = w.history ++ told;
      looks = w.looks ++ looks_in (length w.order) outs;
    }

-- time has passed for a coordinator: no round begins
abbrev pub at_coord_tick : GrownWorld → (number : ℕ) → GrownCoordState → List Outgoing → GrownWorld
at_coord_tick w number state outs = sends w state.switched (Coord number) outs

-- ---- whose ids are of the second file

-- the sequence is none of those before this id
abbrev pub is_from : Option TxnId → (seq : ℕ) → Bool
is_from (Some upto) seq = nat_le upto.seq seq
is_from None seq = false

abbrev pub is_from_switched : Option GrownCoordState → TxnId → Bool
is_from_switched (Some c) t = c.switched && is_from c.upto t.seq
is_from_switched None t = false

-- the id's coordinator has switched, and it is none of those that this one had submitted when it told that it had drained
abbrev pub is_second : GrownWorld → TxnId → Bool
is_second w t = is_from_switched (slice_get w.coords t.coord) t
