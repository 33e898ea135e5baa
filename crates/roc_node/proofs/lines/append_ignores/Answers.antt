use Rattle.roc_node.proofs.Texts.{text_behind}
use Rattle.roc_node.proofs.lines.append_ignores.Goals as goal

pub returns : goal.returns
returns c = text_behind _ _ _ _ _ (text_behind _ _ _ _ _ (text_behind _ _ _ _ _ (text_behind _ _ _ _ _ (text_behind _ _ _ _ _ (text_behind _ _ _ _ _ (text_behind _ _ _ _ _ (text_behind _ _ _ _ _ (c.in_ok-append_ignore.ensures) c.in_ok-append_ignore-2.ensures) c.in_ok-append_ignore-3.ensures) c.in_ok-append_ignore-4.ensures) c.in_ok-append_ignore-5.ensures) c.in_ok-append_ignore-6.ensures) c.in_ok-append_ignore-7.ensures) c.in_ok-append_ignore-8.ensures) c.in_ok-append_ignore-9.ensures
