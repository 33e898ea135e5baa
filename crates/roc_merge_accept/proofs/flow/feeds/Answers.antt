use Rattle.std.proofs.Common.{map, ap, ◌∙◌}
use Rattle.roc_program.specs.Parts as view
use Rattle.roc_program.specs.Program.{Piece}
use Rattle.roc_program.specs.Pieces.{piece_of}
use Rattle.roc_merge_groups.specs.Groups.{piece_numbered}
use Rattle.roc_merge_accept.proofs.Uses.{bound_by_code}
use Rattle.roc_merge_accept.proofs.flow.feeds.Goals as goal

pub returns : goal.returns
returns c =
    bound_by_code (view.piece c.piece_at-user.result.now) (piece_of c.args.workload.now (piece_numbered c.args.proc c.args.user)) (piece_of c.args.workload.now (piece_numbered c.args.proc c.args.source))
    view.statement c.deref.result.now c.uses_any.result c.piece_at-user.ensures
    (ap (map view.statement) c.deref.ensures.value ∙ ap (λ (p : Piece). p.body) c.piece_at-source.ensures) c.uses_any.ensures
