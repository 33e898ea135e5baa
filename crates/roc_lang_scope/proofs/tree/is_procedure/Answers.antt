use Rattle.std.proofs.Common.{sym, ◌∙◌}
use Rattle.std.specs.Str.{bytes_eq}
use Rattle.std.specs.String.{string_bytes}
use Rattle.roc_lang.specs.Syntax.{Name}
use Rattle.roc_lang.specs.Tree.{name_tree}
use Rattle.roc_lang_scope.proofs.Names.{any_at}
use Rattle.roc_lang_scope.proofs.tree.is_procedure.Goals as goal

pub returns-then-eq : goal.returns-then-eq
returns-then-eq c = sym (any_at (λ p. name_tree p.name) (λ (n : Name). bytes_eq n.text (string_bytes c.args.name.now.text)) c.args.procedures.now c.loop-procedure.procedure-index c.procedure-item.result c.loop-procedure-test.true c.procedure-item.is (sym c.eq.ensures ∙ c.if-eq.true))
