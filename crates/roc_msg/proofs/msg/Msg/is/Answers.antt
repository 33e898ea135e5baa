use Rattle.std.proofs.Common.{sym, ◌∙◌}
use Rattle.roc_msg.specs.MsgEquality.{Decides-is_msg}
use Rattle.roc_msg.proofs.msg.Msg.is.Goals as goal

pub returns : goal.returns
returns c =
    let d = Decides-is_msg c.args.self.now c.args.other.now in
    (λ h. d.0 (sym c.eq.ensures ∙ h), λ e. c.eq.ensures ∙ d.1 e)
