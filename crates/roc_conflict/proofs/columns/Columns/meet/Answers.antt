use Rattle.std.proofs.Common.{sym, ap, ◌∙◌}
use Rattle.std.specs.List.{list_any}
use Rattle.roc_sequence.proofs.Holds.{any_seen}
use Rattle.roc_program.specs.Parts as view
use Rattle.roc_conflict.specs.Columns.{meets}
use Rattle.roc_conflict.proofs.columns.Columns.meet.Goals as goal

pub returns : goal.returns
returns c =
    c.meet_any.ensures ∙ sym (any_seen (meets c.args.self.now) view.statement c.exposed.result.now) ∙ ap (list_any (meets c.args.self.now)) c.exposed.ensures
