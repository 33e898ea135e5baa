use Rattle.std.proofs.Common.{◌≡◌, ◌∙◌, ◌<◌, length, take, sym, ap, arith, length-append}
use Rattle.std.proofs.lemmas.List.{length-map}
use Rattle.std.specs.List.{count_by, filter_map}
use Rattle.roc_program.specs.LookUps.{no_piece}
use Rattle.roc_program.specs.Names.{output, outputs}
use Rattle.roc_program.specs.Parts as view
use Rattle.roc_program.proofs.Rows.{read-map}
use Rattle.roc_plan.specs.Sized.{piece_at}
use Rattle.roc_plan_make.specs.Inner.Counts.{is_out}
use Rattle.roc_plan_make.proofs.Few.{few_here, few_added}
use Rattle.roc_plan.proofs.Taken.{flat_taken}
use Rattle.roc_plan_make.proofs.Counted.{outs_are}
use Rattle.roc_plan_make.proofs.replies.outs_before.Goals as goal

pub loop-before-preserved : goal.loop-before-preserved
loop-before-preserved c =
    let p = view.procedure c.args.procedure.now in
    let at = c.loop-before.before in
    let within : at < length c.args.procedure.now.pieces.items = omega (arith, c.loop-before-test.true, c.from-before-end.ensures, c.requires.piece, length-map c.args.procedure.now.pieces.items view.piece) in
    let piece : piece_at p at ≡ view.piece c.index.result.now = read-map view.piece c.args.procedure.now.pieces.items at c.index.result.now no_piece within c.index.ensures in
    let here : c.outs-count.result ≡ length (filter_map output (piece_at p at).body) =
    c.outs-count.ensures ∙ ap (count_by is_out) c.deref.ensures.value ∙ outs_are c.index.result.now.body.items ∙ ap (λ q. length (filter_map output q.body)) (sym piece) in
    let few = few_added (piece_at p at) (few_here p c.requires.sized at) in
    let more = ap length (flat_taken (λ q. filter_map output q.body) p.pieces at no_piece (omega (arith, within, length-map c.args.procedure.now.pieces.items view.piece))) in
    let both = length-append (outputs (take at p.pieces)) (filter_map output (piece_at p at).body) in
    (omega (arith, c.loop-before.invariant.0, here, more, both), omega (arith, c.loop-before.invariant.1, here, few))
