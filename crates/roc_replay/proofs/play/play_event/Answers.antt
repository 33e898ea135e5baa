use Rattle.std.proofs.Common.{◌≤◌, List, length, option_copied, sym, subst}
use Rattle.roc_msg.specs.declared.msg.Envelope.{Envelope}
use Rattle.roc_growth.specs.Quiet.{messages_of}
use Rattle.roc_replay.proofs.QuietLines.{sends_no_fewer}
use Rattle.roc_replay.proofs.play.play_event.Goals as goal

pub event_text-requires : goal.event_text-requires
event_text-requires c =
    let h = c.in_ok-seen.ensures.step in
    subst (λ (l : List Envelope). length l ≤ length c.sent.result.now) (sym c.sent-before.ensures)
    (subst (λ (l : List Envelope). length (messages_of c.args.world.now.sent) ≤ length l) (sym c.sent.ensures) (sends_no_fewer c.args.plan.now (option_copied c.args.next) c.args.world.now c.args.event.now _ h.3))
