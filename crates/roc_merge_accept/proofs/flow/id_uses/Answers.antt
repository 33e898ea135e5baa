use Rattle.std.proofs.Common.{List, ap, sym, ◌∙◌}
use Rattle.std.specs.List.{list_any}
use Rattle.roc_sequence.proofs.Holds.{any_seen}
use Rattle.roc_program.specs.Names as names
use Rattle.roc_program.specs.Parts as view
use Rattle.roc_program.specs.declared.parts.Expression.{Expression}
use Rattle.roc_merge_accept.proofs.flow.id_uses.Goals as goal

pub returns : goal.returns
returns c =
    c.any_uses.ensures ∙ ap (λ (es : List Expression). list_any (λ e. names.uses (view.expression e) c.args.name) es) c.deref.ensures.value
    ∙ sym (any_seen (λ e. names.uses e c.args.name) view.expression c.args.access.now.id.items)
