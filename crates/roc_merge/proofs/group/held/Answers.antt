use Rattle.std.proofs.Common.{ℕ, sym, ap, ◌∙◌}
use Rattle.std.proofs.Common.{◌++◌, ◌∷◌, [], List, if◌then◌else◌}
use Rattle.roc_sequence.proofs.Ranges.{filter_range_more}
use Rattle.roc_merge.specs.Inner.Tables.{holds}
use Rattle.roc_merge.proofs.group.held.Goals as goal

pub loop-piece-preserved : goal.loop-piece-preserved
loop-piece-preserved c =
    c.in_ok-push_held.ensures ∙ ap (λ (front : List ℕ). front ++ (if holds c.args.row.now c.loop-piece.piece then c.loop-piece.piece ∷ [] else [])) c.loop-piece.invariant
    ∙ sym (filter_range_more (holds c.args.row.now) c.loop-piece.piece)
