-- The immediate pieces as the least set, also among sets that no test decides
use Rattle.std.proofs.Common.{IsTrue}
use Rattle.roc_program.specs.Program.{Workload}
use Rattle.roc_program.specs.Conflict.{are_in_conflict}
use Rattle.roc_program.specs.Pieces.{piece_of}
use Rattle.roc_program.specs.declared.piece_id.PieceId.{PieceId}
use Rattle.roc_program.specs.Pieces.{HasPiece}
use Rattle.roc_conflict.specs.Immediate.{IsImmediate, declared, in_conflict}
use Rattle.roc_conflict.proofs.Present.{present_from_conflict}

pub present_from_immediate : (program : Workload) (id : PieceId) → IsImmediate program id → HasPiece program id
present_from_immediate program _ (declared there now) = there
present_from_immediate program _ (in_conflict {one} {other} first h) = present_from_conflict program one other h

pub held_from_immediate : (program : Workload) (Holds : PieceId → Type 0)
    → ((id : PieceId) → HasPiece program id → IsTrue (piece_of program id).is_now → Holds id)
    → ((one other : PieceId) → Holds one → IsTrue (are_in_conflict program one other) → Holds other)
    → (id : PieceId) → IsImmediate program id → Holds id
held_from_immediate program Holds base step _ (declared {id} there now) = base id there now
held_from_immediate program Holds base step _ (in_conflict {one} {other} first h) = step one other (held_from_immediate program Holds base step one first) h
