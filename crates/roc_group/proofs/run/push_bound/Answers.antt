use Rattle.std.proofs.Common.{◌∙◌, ◌++◌, ◌∷◌, [], length, map, take, sym, ap, append_assoc, append-nil, arith}
use Rattle.std.proofs.lemmas.List.{map-append}
use Rattle.std.proofs.lemmas.List.Concat.{flat_map-append}
use Rattle.std.specs.List.{filter_map}
use Rattle.roc_program.specs.Names.{binding, bindings, bindings_of}
use Rattle.roc_program.specs.Parts as pure
use Rattle.roc_program.specs.Values.{value_of_name}
use Rattle.roc_plan.specs.Groups.{pieces_at}
use Rattle.roc_group.proofs.Read.{one_more, counts_one, fits_one}
use Rattle.roc_group.proofs.run.push_bound.Goals as goal

pub push_body-requires : goal.push_body-requires
push_body-requires c =
    let fits = fits_one c.args.procedure.now c.args.pieces.now c.loop-piece.piece-index c.from.result c.requires.there c.loop-piece-test.true c.from.ensures c.index.result.now c.index.ensures in
    let is = ap (λ xs. length xs) c.deref.ensures.value in
    omega (arith, fits, is, c.requires.room, c.loop-piece.invariant.len, c.loop-piece.invariant.room)

pub loop-piece-preserved : goal.loop-piece-preserved
loop-piece-preserved c =
    let f = value_of_name c.args.names.now in
    let front = pieces_at (pure.procedure c.args.procedure.now) (take c.loop-piece.piece-index c.args.pieces.now) in
    let last = pure.piece c.index.result.now in
    let more = one_more c.args.procedure.now c.args.pieces.now c.loop-piece.piece-index c.from.result c.requires.there c.loop-piece-test.true c.from.ensures c.index.result.now c.index.ensures in
    let count = counts_one c.args.procedure.now c.args.pieces.now c.loop-piece.piece-index c.from.result c.requires.there c.loop-piece-test.true c.from.ensures c.index.result.now c.index.ensures in
    let is = ap (λ xs. length xs) c.deref.ensures.value in
    record {
      bound =
          c.push_body.ensures.bound
          ∙ (λ i. c.loop-piece.invariant.bound i ++ map f (filter_map binding (map pure.statement (c.deref.ensures.value i))))
          ∙ append_assoc c.args.bound.now.items (map f (bindings front)) (map f (bindings_of last))
          ∙ ap (λ ns. c.args.bound.now.items ++ ns) (sym (ap (λ ns. map f ns) (ap bindings more ∙ flat_map-append bindings_of front (last ∷ []) ∙ ap (λ ns. bindings front ++ ns) (append-nil (bindings_of last))) ∙ map-append f (bindings front) (bindings_of last)));
      len = omega (arith, count, is, c.loop-piece.invariant.len, c.push_body.ensures.len);
      room = omega (arith, c.loop-piece.invariant.room, c.push_body.ensures.capacity);
    }
