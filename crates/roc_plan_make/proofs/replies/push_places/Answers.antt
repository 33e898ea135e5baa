use Rattle.std.proofs.Common.{◌≡◌, ◌∙◌, ◌+◌, ◌<◌, ◌≤◌, ◌++◌, ◌∷◌, [], length, get_or, sym, subst, ap, arith, append_assoc, append-nil}
use Rattle.std.proofs.lemmas.List.{length-map}
use Rattle.std.specs.List.{count_by, filter_map, range_with_len}
use Rattle.roc_program.specs.LookUps.{no_piece}
use Rattle.roc_program.specs.Names.{output, outputs}
use Rattle.roc_program.specs.Parts as view
use Rattle.roc_program.proofs.Rows.{read-map}
use Rattle.roc_sequence.proofs.Ranges.{range_more}
use Rattle.roc_plan.specs.Groups.{pieces_at}
use Rattle.roc_plan.specs.Sized.{piece_at}
use Rattle.roc_plan_make.specs.Inner.Counts.{is_out}
use Rattle.roc_plan_make.proofs.Few.{few_here, few_added}
use Rattle.roc_plan_make.proofs.Counted.{outs_are}
use Rattle.roc_plan_make.proofs.replies.push_places.Goals as goal

pub overflow_cast-before : goal.overflow_cast-before
overflow_cast-before c =
    let p = view.procedure c.args.procedure.now in
    let within : c.args.piece < length c.args.procedure.now.pieces.items = omega (arith, c.requires.piece, length-map c.args.procedure.now.pieces.items view.piece) in
    let piece : piece_at p c.args.piece ≡ view.piece c.index.result.now = read-map view.piece c.args.procedure.now.pieces.items c.args.piece c.index.result.now no_piece within (c.index.ensures ∙ ap (λ k. get_or c.args.procedure.now.pieces.items k c.index.result.now) c.from.ensures) in
    let here : c.outs-own.result ≡ length (filter_map output (view.piece c.index.result.now).body) = c.outs-own.ensures ∙ ap (count_by is_out) c.deref.ensures.value ∙ outs_are c.index.result.now.body.items in
    let few : length (filter_map output (view.piece c.index.result.now).body) ≤ 64 = few_added (view.piece c.index.result.now) (subst (λ q. length q.body ≤ 64) piece (few_here p c.requires.sized c.args.piece)) in
    let l : c.outs_before-before.result + c.loop-at.at < 65536 = omega (arith, c.outs_before-before.ensures.few, c.loop-at-test.true, here, few) in
    grind (arith, l)

pub loop-at-preserved : goal.loop-at-preserved
loop-at-preserved c =
    c.in_ok-push.ensures.items ∙ ap (λ xs. xs ++ (c.outs_before-before.result + c.loop-at.at) ∷ []) c.loop-at.invariant
    ∙ append_assoc c.args.places.now.items (range_with_len c.outs_before-before.result c.loop-at.at) ((c.outs_before-before.result + c.loop-at.at) ∷ [])
    ∙ ap (λ xs. c.args.places.now.items ++ xs) (sym (range_more c.outs_before-before.result c.loop-at.at (c.outs_before-before.result + c.loop-at.at) (omega arith)))

pub returns : goal.returns
returns c =
    let p = view.procedure c.args.procedure.now in
    let within : c.args.piece < length c.args.procedure.now.pieces.items = omega (arith, c.requires.piece, length-map c.args.procedure.now.pieces.items view.piece) in
    let piece : piece_at p c.args.piece ≡ view.piece c.index.result.now = read-map view.piece c.args.procedure.now.pieces.items c.args.piece c.index.result.now no_piece within (c.index.ensures ∙ ap (λ k. get_or c.args.procedure.now.pieces.items k c.index.result.now) c.from.ensures) in
    let own : c.outs-own.result ≡ length (outputs (pieces_at p (c.args.piece ∷ []))) =
    c.outs-own.ensures ∙ ap (count_by is_out) c.deref.ensures.value ∙ outs_are c.index.result.now.body.items ∙ ap (λ q. length (filter_map output q.body)) (sym piece)
    ∙ ap length (sym (append-nil (filter_map output (piece_at p c.args.piece).body))) in
    let done : c.loop-at.at ≡ c.outs-own.result = omega (arith, c.loop-at-test.false, c.loop-at.auto.at-end) in
    c.loop-at.invariant ∙ ap (λ n. c.args.places.now.items ++ range_with_len c.outs_before-before.result n) (done ∙ own)
    ∙ ap (λ n. c.args.places.now.items ++ range_with_len n (length (outputs (pieces_at p (c.args.piece ∷ []))))) c.outs_before-before.ensures.value
