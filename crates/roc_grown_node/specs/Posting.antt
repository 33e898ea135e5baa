-- What a node that may go over to a grown workload sends, as datagrams, and of which file: docs/PROTOCOL.md, "Growth"
use Rattle.std.specs.Prelude.{Bool, List, if◌then◌else◌}
use Rattle.std.specs.List.{flat_map}
use Rattle.roc_epoch.specs.declared.file.File.{File}
use Rattle.roc_epoch.specs.Files.{file_of, is_between}
use Rattle.roc_io.specs.Packet.{Packet}
use Rattle.roc_msg.specs.declared.msg.Msg.{Msg}
use Rattle.roc_msg.specs.declared.outbox.Outgoing.{Outgoing}
use Rattle.roc_node.specs.Posting.{Hearsay, address_for, packet_to}
use Rattle.roc_wire.specs.declared.header.Header.{Header}
use Rattle.roc_grown_node.specs.Setting.{GrownNodeSetting, own_tag}

-- what stands before a message: the tag of the file that its sender runs, or the first file's where it is a drained or a switched
abbrev pub header_for : GrownNodeSetting → (switched : Bool) → Msg → Header
header_for S switched msg = record { tag = if is_between msg then S.header.tag else own_tag S switched; from = S.header.from }

abbrev pub grown_packet_to : GrownNodeSetting → (switched : Bool) → Hearsay → Outgoing → List Packet
grown_packet_to S switched heard out = packet_to (header_for S switched out.msg) out (address_for S.cluster heard out.to)

-- the datagrams of messages of a node that has switched or not, in order; one without a spelling is not sent
abbrev pub grown_packets_for : GrownNodeSetting → (switched : Bool) → Hearsay → List Outgoing → List Packet
grown_packets_for S switched heard outs = flat_map (grown_packet_to S switched heard) outs

-- a message that a node sent, and its file
pub record Filed : Type 0 where
  pub file : File
  pub out : Outgoing

-- of a node that has switched or not
abbrev pub filed : (switched : Bool) → Outgoing → Filed
filed switched out = record { file = file_of switched out.msg; out = out }
