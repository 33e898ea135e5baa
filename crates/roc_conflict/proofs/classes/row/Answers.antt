use Rattle.std.proofs.Common.{[], ap, ◌∙◌, ◌++◌, ◌∷◌}
use Rattle.roc_conflict.specs.Classes.{is_immediate}
use Rattle.roc_program.proofs.Ranges.{map_pushed}
use Rattle.roc_conflict.proofs.classes.row.Goals as goal

pub loop-piece-preserved : goal.loop-piece-preserved
loop-piece-preserved c =
    map_pushed [] c.loop-piece.classes.items c.push.new.self.items (λ k. is_immediate c.args.marks.now (record { proc = c.args.proc; piece = k })) c.loop-piece.piece
    (c.in_ok-push.ensures.items ∙ ap (λ b. c.loop-piece.classes.items ++ b ∷ []) c.is_marked.ensures) c.loop-piece.invariant
