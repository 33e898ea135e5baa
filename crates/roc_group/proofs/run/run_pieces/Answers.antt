use Rattle.std.proofs.Common.{◌∙◌, ◌++◌, ◌∷◌, [], List, take, sym, ap, append_assoc, append-nil, arith}
use Rattle.roc_program.specs.Keys.{HasKeys}
use Rattle.roc_program.specs.Parts as pure
use Rattle.roc_program.specs.Program.{Piece}
use Rattle.roc_program.proofs.Rows.{all_read}
use Rattle.roc_whole.specs.Run.{Progress, progress, after_piece, after_pieces}
use Rattle.roc_plan.specs.Groups.{pieces_at}
use Rattle.roc_group.specs.Accesses.{uses_of_piece, uses_of_pieces}
use Rattle.roc_group.specs.Inner.Steady.{IsSteady}
use Rattle.roc_group.proofs.Read.{piece_within, one_more, counts_one, fits_one}
use Rattle.roc_group.proofs.Ran.{after_pieces-append, uses_of_pieces-append}
use Rattle.roc_group.proofs.run.run_pieces.Goals as goal

pub run_one-requires-clause-keys : goal.run_one-requires-clause-keys
run_one-requires-clause-keys c = all_read HasKeys pure.piece c.args.procedure.now.pieces.items c.from.result c.index.result.now c.requires.keys (piece_within c.args.procedure.now c.args.pieces.now c.loop-piece.piece-index c.from.result c.requires.there c.loop-piece-test.true c.from.ensures) c.index.ensures

pub run_one-requires-clause-steady : goal.run_one-requires-clause-steady
run_one-requires-clause-steady c = all_read IsSteady pure.piece c.args.procedure.now.pieces.items c.from.result c.index.result.now c.requires.steady (piece_within c.args.procedure.now c.args.pieces.now c.loop-piece.piece-index c.from.result c.requires.there c.loop-piece-test.true c.from.ensures) c.index.ensures

pub run_one-requires-clause-rows : goal.run_one-requires-clause-rows
run_one-requires-clause-rows c = omega (arith, fits_one c.args.procedure.now c.args.pieces.now c.loop-piece.piece-index c.from.result c.requires.there c.loop-piece-test.true c.from.ensures c.index.result.now c.index.ensures, c.requires.rows, c.loop-piece.invariant.spare)

pub run_one-requires-clause-outs : goal.run_one-requires-clause-outs
run_one-requires-clause-outs c = omega (arith, fits_one c.args.procedure.now c.args.pieces.now c.loop-piece.piece-index c.from.result c.requires.there c.loop-piece-test.true c.from.ensures c.index.result.now c.index.ensures, c.requires.outs, c.loop-piece.invariant.outs_len, c.loop-piece.invariant.outs_room)

pub run_one-requires-clause-cells : goal.run_one-requires-clause-cells
run_one-requires-clause-cells c = omega (arith, fits_one c.args.procedure.now c.args.pieces.now c.loop-piece.piece-index c.from.result c.requires.there c.loop-piece-test.true c.from.ensures c.index.result.now c.index.ensures, c.requires.cells, c.loop-piece.invariant.cells_len, c.loop-piece.invariant.cells_room)

pub loop-piece-preserved : goal.loop-piece-preserved
loop-piece-preserved c =
    let start : Progress = progress c.args.rows.now.store c.args.names.now c.args.outs.now.items in
    let front : List Piece = pieces_at (pure.procedure c.args.procedure.now) (take c.loop-piece.piece-index c.args.pieces.now) in
    let last : Piece = pure.piece c.index.result.now in
    let more = one_more c.args.procedure.now c.args.pieces.now c.loop-piece.piece-index c.from.result c.requires.there c.loop-piece-test.true c.from.ensures c.index.result.now c.index.ensures in
    let count = counts_one c.args.procedure.now c.args.pieces.now c.loop-piece.piece-index c.from.result c.requires.there c.loop-piece-test.true c.from.ensures c.index.result.now c.index.ensures in
    let ran = c.run_one.ensures in
    let was = c.loop-piece.invariant in
    record {
      run = ran.run ∙ ap (λ p. after_piece p last) was.run ∙ sym (ap (after_pieces start) more ∙ after_pieces-append start front (last ∷ []));
      cells =
          ran.cells
          ∙ (λ i. was.cells i ++ uses_of_piece (was.run i) last)
          ∙ append_assoc c.args.cells.now.items (uses_of_pieces start front) (uses_of_piece (after_pieces start front) last)
          ∙ ap (λ us. c.args.cells.now.items ++ us) (sym (ap (uses_of_pieces start) more ∙ uses_of_pieces-append start front (last ∷ []) ∙ ap (λ us. uses_of_pieces start front ++ us) (append-nil (uses_of_piece (after_pieces start front) last))));
      spare = omega (arith, count, was.spare, ran.spare);
      saved = ran.saved ∙ was.saved;
      outs_len = omega (arith, count, was.outs_len, ran.lens.0);
      outs_room = omega (arith, was.outs_room, ran.capacities.0);
      cells_len = omega (arith, count, was.cells_len, ran.lens.1);
      cells_room = omega (arith, was.cells_room, ran.capacities.1);
    }
