-- What stays the same while a node runs that may go over to a grown workload, and the tags of its two files: docs/PROTOCOL.md, "Growth"
use Rattle.std.specs.Prelude.{◌≡◌, ℕ, Bool, List, if◌then◌else◌}
use Rattle.roc_base.specs.declared.node.Node.{Node}
use Rattle.roc_io.specs.declared.link.Addr.{Addr}
use Rattle.roc_plan.specs.Groups.{Plan}
use Rattle.roc_epoch.specs.declared.next.Next.{Next}
use Rattle.roc_wire.specs.declared.header.Header.{Header}
use Rattle.roc_grown_node.specs.declared.setting.GrownSetting.{GrownSetting}

-- the plan of the first file, the file that comes next, what stands before each message of the first file that the node sends, which is that file's tag and
-- who the node is, and the addresses of the shards
pub record GrownNodeSetting : Type 0 where
  pub plan : Plan
  pub next : Next
  pub header : Header
  pub cluster : List Addr

-- that of a node whose first file has this tag
abbrev pub grown_node_setting : Plan → (tag : List ℕ) → Next → Node → (cluster : List Addr) → GrownNodeSetting
grown_node_setting plan tag next node cluster = record { plan = plan; next = next; header = record { tag = tag; from = node }; cluster = cluster }

-- the setting of a node, as the code has it
abbrev pub grown_setting_of : GrownSetting → GrownNodeSetting
grown_setting_of s = record { plan = s.plan.now; next = s.next.now; header = s.header.now; cluster = s.cluster.now }

-- the tag of the file that a node runs
abbrev pub own_tag : GrownNodeSetting → (switched : Bool) → List ℕ
own_tag S switched = if switched then S.next.tag else S.header.tag

-- two nodes know the same tags of the two files
pub record HaveSameTags (S T : GrownNodeSetting) : Type 0 where
  pub first : T.header.tag ≡ S.header.tag
  pub second : T.next.tag ≡ S.next.tag
