use Rattle.std.proofs.Common.{◌≡◌, Bool, List, [], get_or, length, set, true, sym, ap, subst, ◌∙◌, arith}
use Rattle.roc_conflict.specs.Inner.Marks.{IsMarked}
use Rattle.roc_conflict.proofs.Marking.{marked}
use Rattle.roc_conflict.proofs.marks.mark.Goals as goal

pub returns : goal.returns
returns c =
    let P : List (List Bool) → Type 0 = λ marks. IsMarked c.args.marks.now marks c.args.id in
    let row : get_or c.args.marks.now c.from.result [] ≡ get_or c.args.marks.now c.args.id.proc [] = ap (λ n. get_or c.args.marks.now n []) c.from.ensures in
    let is : c.with_place-row.result ≡ set (get_or c.args.marks.now c.args.id.proc []) c.args.id.piece true =
    c.with_place-row.ensures.value ∙ ap (λ (r : List Bool). set r c.from-2.result true) row ∙ ap (λ n. set (get_or c.args.marks.now c.args.id.proc []) n true) c.from-2.ensures in
    let long : length (get_or c.args.marks.now c.args.id.proc []) ≡ 16 = ap (λ (r : List Bool). length r) (sym row) ∙ c.with_place-row.ensures.long in
    subst P (ap (λ n. set c.args.marks.now n (set (get_or c.args.marks.now c.args.id.proc []) c.args.id.piece true)) (sym c.from-3.ensures) ∙ ap (λ (r : List Bool). set c.args.marks.now c.from-3.result r) (sym is))
    (marked c.args.marks.now c.args.id (omega (arith, c.requires.procedure, c.told-marks)) (omega (arith, c.requires.piece, long)))
