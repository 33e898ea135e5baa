-- What a node sends, as datagrams: docs/PROTOCOL.md, "Running nodes"
use Rattle.std.specs.Prelude.{List, [], ◌∷◌, Option, Some, None, option_and_then, slice_get, slice_set, replicate, if◌then◌else◌}
use Rattle.std.specs.List.{flat_map}
use Rattle.roc_base.specs.declared.node.Node.{Node}
use Rattle.roc_base.specs.declared.node.Node.TheVariants.{Server, Coord}
use Rattle.roc_io.specs.declared.link.Addr.{Addr}
use Rattle.roc_io.specs.Packet.{Packet}
use Rattle.roc_msg.specs.declared.outbox.Outgoing.{Outgoing}
use Rattle.roc_wire.specs.declared.header.Header.{Header}
use Rattle.roc_wire.specs.Spelling.{spelling}
use Rattle.roc_log.specs.Spellable.{has_spelling}

-- where each coordinator was last heard, if it was, by number
abbrev pub Hearsay : Type 0
Hearsay = List (Option Addr)

-- none of sixteen coordinators was heard
abbrev pub none_heard : Hearsay
none_heard = replicate 16 None

-- a datagram of this sender came from this address
abbrev pub heard_of : Hearsay → Node → Addr → Hearsay
heard_of heard (Server shard) from = heard
heard_of heard (Coord number) from = slice_set heard number (Some from)

-- where a message to a node goes: to the shard's address in the cluster, or to where the coordinator was last heard; nowhere where the
-- cluster has no such shard, or the coordinator was never heard
abbrev pub address_for : (cluster : List Addr) → Hearsay → Node → Option Addr
address_for cluster heard (Server shard) = slice_get cluster shard.0
address_for cluster heard (Coord number) = option_and_then (λ addr. addr) (slice_get heard number)

abbrev pub packet_to : Header → Outgoing → Option Addr → List Packet
packet_to header out None = []
packet_to header out (Some addr) = if has_spelling out.msg then (record { address = addr; bytes = spelling header out.msg }) ∷ [] else []

-- the datagrams of messages, in order; one without a spelling is not sent
abbrev pub packets_for : Header → (cluster : List Addr) → Hearsay → List Outgoing → List Packet
packets_for header cluster heard outs = flat_map (λ out. packet_to header out (address_for cluster heard out.to)) outs
