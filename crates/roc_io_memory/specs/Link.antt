-- What a link in memory keeps.
use Rattle.std.specs.Prelude.{List, [], Option, Some}
use Rattle.roc_io.specs.declared.link.Addr.{Addr}
use Rattle.roc_io.specs.Link.{LinkEvent}
use Rattle.roc_io.specs.Packet.{Packet}
use Rattle.roc_io_memory.specs.Calls.{Calls}

-- what a link in memory keeps: the addresses bound, the arrivals left, the datagrams sent, and its sends and receives in one order
pub record Traffic : Type 0 where
  pub bound : Option (List Addr)
  pub arrivals : List Packet
  pub sent : Option (List Packet)
  pub events : Option (List LinkEvent)

-- a link in memory that can fail: what it keeps, its binds and receives, and its sends
pub record LinkState : Type 0 where
  pub traffic : Traffic
  pub calls : Calls
  pub sends : Calls

-- no datagram was sent, no receive was made, and no address was bound
abbrev pub unused : List Packet → Traffic
unused arrivals = record { bound = Some []; arrivals = arrivals; sent = Some []; events = Some [] }
