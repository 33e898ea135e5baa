use Rattle.std.proofs.Common.{◌≡◌, take, map}
use Rattle.std.specs.List.{list_any}
use Rattle.roc_program.specs.Parts as view
use Rattle.roc_program.specs.declared.piece_id.PieceId.{PieceId}
use Rattle.roc_check.specs.Inner.PieceSets.{holds}
use Rattle.roc_check.specs.Inner.Users.{meets_by}
use Rattle.roc_check.proofs.users.met.Given as goal

abbrev pub invariant-loop-statement : goal.invariant-loop-statement
invariant-loop-statement l = (id : PieceId) → holds l.found id ≡ list_any (λ s. meets_by l.touched l.written s id) (map view.statement (take l.statement-index l.statements))
