-- What is told of a coordinator's watermark where its number and the watermark are at hand
use Rattle.std.specs.Prelude.{ℕ, ℤ, ◌==◌, ◌/◌, nat_lt, not, List, [], Option, Some, None, map, filter, if◌then◌else◌}
use Rattle.std.specs.List.{range_with_len}
use Rattle.roc_base.specs.declared.id.TxnId.{TxnId}
use Rattle.roc_base.specs.TxnId.{is_txn}
use Rattle.roc_base.specs.declared.node.Node.TheVariants.{Server}
use Rattle.roc_msg.specs.declared.msg.Msg.TheVariants.{Ended}
use Rattle.roc_msg.specs.declared.outbox.Outgoing.{Outgoing}
use Rattle.roc_plan.specs.Groups.{Plan}
use Rattle.roc_coord.specs.declared.marks.Rise.{Rise}
use Rattle.roc_coord.specs.Marks.{least_seq}

abbrev pub ended_with : (number mark shard : ℕ) → Outgoing
ended_with number mark shard = record { to = Server (record { 0 = shard }); msg = Ended number mark }

abbrev pub ended_by : Plan → (number mark : ℕ) → List Outgoing
ended_by plan number mark = if mark == 0 then [] else map (ended_with number mark) (range_with_len 0 plan.program.shards)

-- around the answer of an id
abbrev pub rise_of : (number next : ℕ) → List TxnId → TxnId → Rise
rise_of number next ids id =
    record { number = number; old = least_seq ids next; new = least_seq (filter (λ u. not (is_txn u id)) ids) next }

abbrev pub rise_sends : Plan → Rise → List Outgoing
rise_sends plan rise = if nat_lt (rise.old / 64) (rise.new / 64) then ended_by plan rise.number rise.new else []

-- what goes out with a reply, where there is one
abbrev pub reply_sends : Plan → Rise → Option (List ℤ) → List Outgoing
reply_sends plan rise None = []
reply_sends plan rise (Some reply) = rise_sends plan rise
