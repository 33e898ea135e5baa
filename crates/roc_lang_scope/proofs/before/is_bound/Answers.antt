use Rattle.std.proofs.Common.{sym, ◌∙◌}
use Rattle.roc_lang.specs.Tree.{name_tree, statement_tree}
use Rattle.roc_lang.specs.Scope.{bound_by}
use Rattle.roc_lang_scope.proofs.Bindings.{among_at}
use Rattle.roc_lang_scope.proofs.before.is_bound.Goals as goal

pub returns-then-binds : goal.returns-then-binds
returns-then-binds c = sym (among_at statement_tree bound_by (name_tree c.args.name.now) c.args.body.now c.loop-statement.statement-index c.statement-item.result c.loop-statement-test.true c.statement-item.is (sym c.binds.ensures ∙ c.if-binds.true))
