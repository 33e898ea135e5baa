use Rattle.std.proofs.Common.{sym, ◌∙◌}
use Rattle.std.specs.Str.{bytes_eq}
use Rattle.std.specs.String.{string_bytes}
use Rattle.roc_lang.specs.Syntax.{Name}
use Rattle.roc_lang.specs.Tree.{name_tree}
use Rattle.roc_lang_scope.proofs.Names.{any_at}
use Rattle.roc_lang_scope.proofs.before.is_among.Goals as goal

pub returns-then-eq : goal.returns-then-eq
returns-then-eq c = sym (any_at name_tree (λ (n : Name). bytes_eq n.text (string_bytes c.args.name.now.text)) c.args.names.now c.loop-earlier.earlier-index c.earlier-item.result c.loop-earlier-test.true c.earlier-item.is (sym c.eq.ensures ∙ c.if-eq.true))
