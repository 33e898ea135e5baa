-- What is read of a message's line as its transaction is its transaction
use Rattle.std.proofs.Common.{◌≡◌, refl}
use Rattle.roc_msg.specs.declared.msg.Msg.{Msg}
use Rattle.roc_msg.specs.declared.msg.Msg.TheVariants.{Stop}
use Rattle.roc_msg.specs.declared.msg.Envelope.{Envelope}
use Rattle.roc_msg.specs.Msg.{id_of}
use Rattle.roc_report.specs.Line.{id_shown}
use Rattle.roc_report.specs.Shown.{shown_message}

pub id_is_shown : (m : Envelope) → id_shown (shown_message m) ≡ id_of m.msg
id_is_shown m = of_kind m.msg
  where
    of_kind : (msg : Msg) → id_shown (shown_message (record { from = m.from; to = m.to; msg = msg })) ≡ id_of msg
    of_kind Stop = refl
    of_kind msg = refl
