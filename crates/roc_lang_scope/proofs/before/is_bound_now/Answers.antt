use Rattle.std.proofs.Common.{List, map, sym, ap, ◌∙◌}
use Rattle.std.specs.List.{flat_map}
use Rattle.roc_lang.specs.Tree.{name_tree, statement_tree, piece_tree}
use Rattle.roc_lang.specs.declared.syntax.Statement.{Statement}
use Rattle.roc_lang.specs.Scope.{is_among, bound_by}
use Rattle.roc_lang_scope.specs.Inner.Before.{now_by}
use Rattle.roc_lang_scope.proofs.Bindings.{among_at, among_now}
use Rattle.roc_lang_scope.proofs.before.is_bound_now.Goals as goal

pub returns-then-is_bound : goal.returns-then-is_bound
returns-then-is_bound c =
    let name = name_tree c.args.name.now in
    let body = ap (λ (xs : List Statement). is_among (flat_map bound_by (map statement_tree xs)) name) (sym c.deref.ensures.value) ∙ sym c.is_bound.ensures ∙ c.if-is_bound.true in
    sym (among_at piece_tree now_by name c.args.pieces.now c.loop-piece.piece-index c.piece-item.result c.loop-piece-test.true c.piece-item.is (among_now (piece_tree c.piece-item.result) name c.if-piece.true body))
