-- What is added to an outbox, one behind the other
use Rattle.std.proofs.Common.{List, [], ◌++◌, refl, sym, ap, ◌∙◌, append_assoc, append-nil}
use Rattle.roc_msg.specs.declared.outbox.Outgoing.{Outgoing}
use Rattle.roc_msg.specs.Outbox.{Collected, HasSent}

pub sent_none : (out : Collected) → HasSent out out []
sent_none out = (sym (append-nil out.messages), refl, refl)

pub sent_then : (before middle after : Collected) (first second : List Outgoing) → HasSent before middle first → HasSent middle after second → HasSent before after (first ++ second)
sent_then before middle after first second a b = (b.0 ∙ ap (λ sends. sends ++ second) a.0 ∙ append_assoc before.messages first second, b.1 ∙ a.1, b.2 ∙ a.2)
