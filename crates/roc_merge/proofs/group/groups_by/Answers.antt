use Rattle.std.proofs.Common.{ℕ, sym, ap, ◌∙◌}
use Rattle.std.proofs.Common.{◌++◌, List}
use Rattle.roc_program.proofs.Ranges.{flat_map-range_more}
use Rattle.roc_merge.specs.Inner.Tables.{holds}
use Rattle.roc_merge.specs.Grouped.{group_from}
use Rattle.roc_merge.proofs.group.groups_by.Goals as goal

pub loop-piece-preserved : goal.loop-piece-preserved
loop-piece-preserved c =
    c.in_ok-push_group.ensures
    ∙ ap (λ (front : List (List ℕ)). front ++ group_from (holds c.args.core.now) c.args.count c.loop-piece.piece) c.loop-piece.invariant
    ∙ sym (flat_map-range_more (group_from (holds c.args.core.now) c.args.count) c.loop-piece.piece)
