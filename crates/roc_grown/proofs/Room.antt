-- The room that a coordinator's step leaves in an outbox
use Rattle.std.proofs.Common.{◌≡◌, ◌∙◌, ℕ, ◌+◌, ◌≤◌, ℤ, true, List, length, sym, ap, arith}
use Rattle.std.proofs.lemmas.Bool.{false≢true}
use Rattle.std.proofs.lemmas.List.{length-append}
use Rattle.roc_base.specs.declared.id.TxnId.{TxnId}
use Rattle.roc_msg.specs.declared.msg.Msg.{Msg}
use Rattle.roc_msg.specs.Outbox.{Collected, KeepsRoom}
use Rattle.roc_plan.specs.Groups.{Plan}
use Rattle.roc_coord.specs.declared.handled.Handled.{Handled}
use Rattle.roc_coord.specs.declared.handled.Handled.TheVariants.{Done, Answered, Ignored}
use Rattle.roc_coord.specs.State.{CoordState}
use Rattle.roc_coord.specs.Step.{after_message, IsOutcome}
use Rattle.roc_grown.specs.Coord.{is_answer}
use Rattle.roc_grown.proofs.FewSends.{answers_few}

-- what an answer sends leaves the room for what may be told behind it
pub room_left : (own : Plan) (s : CoordState) (msg : Msg) (id : TxnId) (reply : List ℤ) (reached : CoordState) (before after : Collected) (told : ℕ)
    → IsOutcome (after_message own s msg) (Answered id reply) reached before after → KeepsRoom before after → own.program.shards + told ≤ before.room.messages
    → told ≤ after.room.messages
room_left own s msg id reply reached before after told o keeps room =
    let sends = (after_message own s msg).sends in
    let few : length sends ≤ own.program.shards = answers_few own s msg id reply (sym o.answer) in
    let longer : length after.messages ≡ length before.messages + length sends = ap length o.sent.0 ∙ length-append before.messages sends in
    omega (arith, few, longer, keeps, room)

pub room_left_behind : (own : Plan) (s : CoordState) (msg : Msg) (answer : Handled) (reached : CoordState) (before after : Collected) (told : ℕ)
    → IsOutcome (after_message own s msg) answer reached before after → KeepsRoom before after → own.program.shards + told ≤ before.room.messages → is_answer answer ≡ true
    → told ≤ after.room.messages
room_left_behind own s msg Done reached before after told o keeps room e = absurd (false≢true e)
room_left_behind own s msg (Answered id reply) reached before after told o keeps room e = room_left own s msg id reply reached before after told o keeps room
room_left_behind own s msg (Ignored why) reached before after told o keeps room e = absurd (false≢true e)
