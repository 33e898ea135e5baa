use Rattle.roc_node.proofs.Texts.{text_behind}
use Rattle.roc_node.proofs.lines.append_skips.Goals as goal

pub returns : goal.returns
returns c = text_behind _ _ _ _ _ (text_behind _ _ _ _ _ (text_behind _ _ _ _ _ (text_behind _ _ _ _ _ (text_behind _ _ _ _ _ (text_behind _ _ _ _ _ (text_behind _ _ _ _ _ (c.in_ok-append_skip.ensures) c.in_ok-append_skip-2.ensures) c.in_ok-append_skip-3.ensures) c.in_ok-append_skip-4.ensures) c.in_ok-append_skip-5.ensures) c.in_ok-append_skip-6.ensures) c.in_ok-append_skip-7.ensures) c.in_ok-append_skip-8.ensures
