use Rattle.std.proofs.Common.{◌≡◌, ◌≤◌, ◌+◌, drop, map}
use Rattle.std.specs.Prelude.{vec_len, vec_capacity}
use Rattle.roc_program.specs.Parts as pure
use Rattle.roc_whole.specs.Run.{progress, after_statements}
use Rattle.roc_whole.proofs.piece.run_piece.Given as goal

-- what is left to run, from here, leads where the whole body leads from the start; each statement so far used room for one
abbrev pub invariant-loop-statement : goal.invariant-loop-statement
invariant-loop-statement l = record {
  run :
      after_statements l.place (progress l.rows.store l.names l.reply.items) (map pure.statement (drop l.statement-index l.statement-items))
      ≡ after_statements l.place (progress l.initial.rows.store l.initial.names l.initial.reply.items) (map pure.statement l.statement-items);
  spare : l.initial.rows.spare ≤ l.rows.spare + l.statement-index;
  saved : l.rows.saved ≡ l.initial.rows.saved;
  len : vec_len l.reply ≤ vec_len l.initial.reply + l.statement-index;
  capacity : vec_capacity l.initial.reply ≤ vec_capacity l.reply;
}
