use Rattle.std.proofs.Common.{◌≡◌, false, ◌&&◌, ◌==◌, take}
use Rattle.std.specs.List.{list_any}
use Rattle.roc_plan.specs.Groups.{groups_of}
use Rattle.roc_check.proofs.text.is_piece_immediate.Given as goal

abbrev pub invariant-loop-group : goal.invariant-loop-group
invariant-loop-group l = list_any (λ g. g.is_immediate && list_any (λ x. x == l.id.piece) g.pieces) (take l.group (groups_of l.plan l.id.proc)) ≡ false
