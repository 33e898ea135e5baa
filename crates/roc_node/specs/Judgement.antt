-- What a datagram is to a node: docs/PROTOCOL.md, "Running nodes"
use Rattle.std.specs.Prelude.{ℕ, List, Result, Ok, Err, if◌then◌else◌, bytes_eq}
use Rattle.roc_msg.specs.declared.msg.Msg.{Msg}
use Rattle.roc_wire.specs.declared.header.Header.{Header}
use Rattle.roc_wire.specs.declared.fault.WireFault.{WireFault}
use Rattle.roc_wire.specs.Fits.{IsSpellable}
use Rattle.roc_wire.specs.Reading.{datagram}
use Rattle.roc_node.specs.declared.judging.Judged.{Judged}
use Rattle.roc_node.specs.declared.judging.Judged.TheVariants.{Delivery, Skipped}
use Rattle.roc_node.specs.declared.judging.Skip.TheVariants.{Fault, Tag}

-- what was read is a delivery where it has the node's tag
abbrev pub with_tag : (tag : List ℕ) → Result (Header × Msg) WireFault → Judged
with_tag tag (Ok read) = if bytes_eq read.0.tag tag then Delivery read.0 read.1 else Skipped Tag
with_tag tag (Err fault) = Skipped (Fault fault)

-- bytes that are a datagram with the node's tag are a delivery; all others are skipped, with the first fault, or for the tag
abbrev pub judged : (tag : List ℕ) → (bytes : List ℕ) → Judged
judged tag bytes = with_tag tag (datagram bytes)

-- a delivery has a spelling
abbrev pub IsSpelled : Judged → Type 0
IsSpelled (Delivery header msg) = IsSpellable header msg
IsSpelled (Skipped skip) = Unit {0}
