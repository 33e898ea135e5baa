use Rattle.std.proofs.Common.{◌∙◌, ◌++◌, ◌∷◌, [], take, sym, ap, append-nil}
use Rattle.std.proofs.lemmas.List.Concat.{flat_map-append}
use Rattle.std.specs.List.{flat_map}
use Rattle.roc_program.specs.Keys.{HasKeys}
use Rattle.roc_program.specs.Parts as pure
use Rattle.roc_program.proofs.Rows.{all_read}
use Rattle.roc_plan.specs.Groups.{pieces_at}
use Rattle.roc_group.specs.Inner.Steady.{uses_with}
use Rattle.roc_group.proofs.Read.{piece_within, one_more}
use Rattle.roc_group.proofs.uses.uses_of_pieces.Goals as goal

pub push_uses-requires-clause-keys : goal.push_uses-requires-clause-keys
push_uses-requires-clause-keys c =
    all_read HasKeys pure.piece c.args.procedure.now.pieces.items c.from.result c.index-piece.result.now c.requires.keys
    (piece_within c.args.procedure.now c.args.pieces.now c.loop-number.number-index c.from.result c.requires.there c.loop-number-test.true c.from.ensures) c.index-piece.ensures

pub loop-number-preserved : goal.loop-number-preserved
loop-number-preserved c =
    let more = one_more c.args.procedure.now c.args.pieces.now c.loop-number.number-index c.from.result c.requires.there c.loop-number-test.true c.from.ensures c.index-piece.result.now c.index-piece.ensures in
    let front = pieces_at (pure.procedure c.args.procedure.now) (take c.loop-number.number-index c.args.pieces.now) in
    let last = pure.piece c.index-piece.result.now in
    c.push_uses.ensures.uses
    ∙ ap (λ us. us ++ uses_with c.args.names.now last) (c.reserve.ensures.items ∙ c.loop-number.invariant)
    ∙ sym (ap (flat_map (uses_with c.args.names.now)) more ∙ flat_map-append (uses_with c.args.names.now) front (last ∷ []) ∙ ap (λ us. flat_map (uses_with c.args.names.now) front ++ us) (append-nil (uses_with c.args.names.now last)))
