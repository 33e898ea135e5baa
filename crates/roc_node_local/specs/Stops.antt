-- The datagrams that stop the servers of a cluster
use Rattle.std.specs.Prelude.{◌≡◌, ℕ, Bool, true, false, List, map, replicate}
use Rattle.std.specs.List.{flat_map}
use Rattle.roc_io.specs.Call.{LinkView}
use Rattle.roc_io.specs.Link.{sending}
use Rattle.roc_io.specs.Packet.{Packet}
use Rattle.roc_io.specs.declared.link.Addr.{Addr}
use Rattle.roc_base.specs.declared.node.Node.TheVariants.{Coord}
use Rattle.roc_msg.specs.declared.msg.Msg.TheVariants.{Stop}
use Rattle.roc_node.specs.Moves.{Moves}
use Rattle.roc_wire.specs.Spelling.{spelling}
use Rattle.roc_node_local.specs.declared.stops.StopEnd.{StopEnd}
use Rattle.roc_node_local.specs.declared.stops.StopEnd.TheVariants.{Done, LinkFault, NoMemory}

-- a Stop for nodes with this tag, from coordinator 0
abbrev pub stop_bytes : (tag : List ℕ) → List ℕ
stop_bytes tag = spelling (record { tag = tag; from = Coord 0 }) Stop

-- three times in a row these bytes to an address
abbrev pub thrice_to : (bytes : List ℕ) → Addr → List Packet
thrice_to bytes address = replicate 3 (record { address = address; bytes = bytes })

-- to the server of each shard, in order
abbrev pub thrice_to_each : (bytes : List ℕ) → (cluster : List Addr) → List Packet
thrice_to_each bytes cluster = flat_map (thrice_to bytes) cluster

abbrev pub stops_failed : StopEnd → Bool
stops_failed LinkFault = true
stops_failed Done = false
stops_failed NoMemory = false

-- the link was not bound
abbrev pub stops_unbound : StopEnd → Bool
stops_unbound Done = false
stops_unbound LinkFault = true
stops_unbound NoMemory = true

-- the stops were sent, or nothing was; and nothing was received
abbrev pub SendsStops : StopEnd → (tag : List ℕ) → (cluster : List Addr) → (old new : LinkView) → Type 0
SendsStops Done tag cluster old new = Moves old new (map sending (thrice_to_each (stop_bytes tag) cluster))
SendsStops end tag cluster old new = new ≡ old
