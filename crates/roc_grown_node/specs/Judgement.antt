-- What a datagram is to a node that may go over to a grown workload: docs/PROTOCOL.md, "Growth"
use Rattle.std.specs.Prelude.{◌≡◌, ℕ, nat_lt, Bool, true, false, not, ◌&&◌, ◌||◌, List, Result, Ok, Err, if◌then◌else◌, bytes_eq}
use Rattle.roc_base.specs.declared.node.Node.{Node}
use Rattle.roc_base.specs.declared.node.Node.TheVariants.{Server, Coord}
use Rattle.roc_epoch.specs.Files.{file_of, is_between, is_for}
use Rattle.roc_msg.specs.declared.msg.Msg.{Msg}
use Rattle.roc_node.specs.declared.judging.Skip.TheVariants.{Fault, Tag}
use Rattle.roc_wire.specs.declared.fault.WireFault.{WireFault}
use Rattle.roc_wire.specs.declared.header.Header.{Header}
use Rattle.roc_wire.specs.Fits.{IsSpellable}
use Rattle.roc_wire.specs.Reading.{datagram}
use Rattle.roc_grown_node.specs.declared.judging.GrownJudged.{GrownJudged}
use Rattle.roc_grown_node.specs.declared.judging.GrownJudged.TheVariants.{Delivery, Skipped}
use Rattle.roc_grown_node.specs.Setting.{GrownNodeSetting, own_tag}

-- a coordinator that is none of the first so many
abbrev pub is_past : (coords : ℕ) → Node → Bool
is_past coords (Server shard) = false
is_past coords (Coord number) = not (nat_lt number coords)

-- the tag of the file that the node runs, or the first file's on a drained or a switched
abbrev pub has_grown_tag : GrownNodeSetting → (switched : Bool) → (tag : List ℕ) → Msg → Bool
has_grown_tag S switched tag msg = bytes_eq tag (own_tag S switched) || (is_between msg && bytes_eq tag S.header.tag)

-- a message is taken where it is of no coordinator past the last one, and has such a tag
abbrev pub is_delivered : GrownNodeSetting → (switched : Bool) → Header → Msg → Bool
is_delivered S switched header msg = not (is_past S.next.coords header.from) && has_grown_tag S switched header.tag msg

-- what was read is a delivery of the file that the node runs, or of neither; or it is skipped for the tag
abbrev pub where_delivered : GrownNodeSetting → (switched : Bool) → Result (Header × Msg) WireFault → GrownJudged
where_delivered S switched (Ok read) = if is_delivered S switched read.0 read.1 then Delivery read.0 (file_of switched read.1) read.1 else Skipped Tag
where_delivered S switched (Err fault) = Skipped (Fault fault)

-- bytes that are a datagram, and taken, are a delivery; all others are skipped, with the first fault, or for the tag
abbrev pub grown_judged : GrownNodeSetting → (switched : Bool) → (bytes : List ℕ) → GrownJudged
grown_judged S switched bytes = where_delivered S switched (datagram bytes)

-- a delivery has a spelling
abbrev pub IsGrownSpelled : GrownJudged → Type 0
IsGrownSpelled (Delivery header file msg) = IsSpellable header msg
IsGrownSpelled (Skipped skip) = Unit {0}

-- a node takes notice of a delivery
abbrev pub IsForNode : (switched : Bool) → GrownJudged → Type 0
IsForNode switched (Delivery header file msg) = is_for switched file msg ≡ true
IsForNode switched (Skipped skip) = Unit {0}
