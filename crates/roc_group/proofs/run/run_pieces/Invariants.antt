use Rattle.std.proofs.Common.{◌≡◌, ◌≤◌, ◌+◌, ◌++◌, take}
use Rattle.std.specs.Prelude.{vec_len, vec_capacity}
use Rattle.roc_program.specs.Parts as pure
use Rattle.roc_whole.specs.Run.{progress, after_pieces}
use Rattle.roc_plan.specs.Groups.{pieces_at}
use Rattle.roc_group.specs.Accesses.{uses_of_pieces}
use Rattle.roc_group.specs.GroupRun.{statements_in}
use Rattle.roc_group.proofs.run.run_pieces.Given as goal

-- the run of the pieces so far, and what they used, room too
abbrev pub invariant-loop-piece : goal.invariant-loop-piece
invariant-loop-piece l =
    record {
      run : progress l.rows.store l.names l.outs.items ≡ after_pieces (progress l.fn.rows.store l.fn.names l.fn.outs.items) (pieces_at (pure.procedure l.procedure) (take l.piece-index l.pieces));
      cells : l.cells.items ≡ l.fn.cells.items ++ uses_of_pieces (progress l.fn.rows.store l.fn.names l.fn.outs.items) (pieces_at (pure.procedure l.procedure) (take l.piece-index l.pieces));
      spare : l.fn.rows.spare ≤ l.rows.spare + statements_in (pieces_at (pure.procedure l.procedure) (take l.piece-index l.pieces));
      saved : l.rows.saved ≡ l.fn.rows.saved;
      outs_len : vec_len l.outs ≤ vec_len l.fn.outs + statements_in (pieces_at (pure.procedure l.procedure) (take l.piece-index l.pieces));
      outs_room : vec_capacity l.fn.outs ≤ vec_capacity l.outs;
      cells_len : vec_len l.cells ≤ vec_len l.fn.cells + statements_in (pieces_at (pure.procedure l.procedure) (take l.piece-index l.pieces));
      cells_room : vec_capacity l.fn.cells ≤ vec_capacity l.cells;
    }
