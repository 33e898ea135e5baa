-- What a coordinator tells servers that it has answered: docs/PROTOCOL.md, "Watermarks"
use Rattle.std.specs.Prelude.{ℕ, Bool, ◌==◌, ◌/◌, nat_lt, min, List, [], ◌∷◌, map, if◌then◌else◌}
use Rattle.std.specs.List.{range_with_len}
use Rattle.roc_base.specs.declared.id.TxnId.{TxnId}
use Rattle.roc_base.specs.declared.node.Node.TheVariants.{Server}
use Rattle.roc_msg.specs.declared.msg.Msg.TheVariants.{Ended}
use Rattle.roc_msg.specs.declared.outbox.Outgoing.{Outgoing}
use Rattle.roc_plan.specs.Groups.{Plan}
use Rattle.roc_coord.specs.State.{CoordState}

-- the least sequence of these and of the next one
abbrev pub least_seq : List TxnId → (next : ℕ) → ℕ
least_seq [] next = next
least_seq (id ∷ ids) next = min id.seq (least_seq ids next)

-- the watermark of a coordinator: all that it has submitted with a sequence below is answered
abbrev pub watermark : CoordState → ℕ
watermark s = least_seq s.unanswered s.next

abbrev pub ended_to : CoordState → (shard : ℕ) → Outgoing
ended_to s shard = record { to = Server (record { 0 = shard }); msg = Ended s.number (watermark s) }

-- each shard is told, by number; none while the watermark is 0
abbrev pub ended_sends : Plan → CoordState → List Outgoing
ended_sends plan s = if watermark s == 0 then [] else map (ended_to s) (range_with_len 0 plan.program.shards)

-- the watermark has risen to or past a multiple of 64
abbrev pub passes_mark : (old new : CoordState) → Bool
passes_mark old new = nat_lt (watermark old / 64) (watermark new / 64)
