use Rattle.std.proofs.Common.{List, map, ap, sym, ◌∙◌}
use Rattle.std.specs.List.{list_any}
use Rattle.roc_sequence.proofs.Holds.{any_seen}
use Rattle.roc_program.specs.Names as names
use Rattle.roc_program.specs.Parts as view
use Rattle.roc_program.specs.declared.parts.Statement.{Statement}
use Rattle.roc_merge_accept.proofs.Uses.{second_of}
use Rattle.roc_merge_accept.proofs.flow.piece_uses.Goals as goal

pub returns-else-uses : goal.returns-else-uses
returns-else-uses c =
    second_of (names.uses (view.expression c.args.piece.now.place) c.args.name) (list_any (λ s. names.statement_uses s c.args.name) (map view.statement c.args.piece.now.body.items))
    c.uses.result c.body_uses.result c.if-uses.false c.uses.ensures
    (c.body_uses.ensures ∙ ap (λ (ss : List Statement). list_any (λ s. names.statement_uses (view.statement s) c.args.name) ss) c.deref.ensures.value
    ∙ sym (any_seen (λ s. names.statement_uses s c.args.name) view.statement c.args.piece.now.body.items))
