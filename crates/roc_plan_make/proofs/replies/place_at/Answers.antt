use Rattle.std.proofs.Common.{ℕ, ◌≤◌, [], List, length, map, ap, subst, arith}
use Rattle.std.proofs.lemmas.List.{length-map}
use Rattle.roc_sequence.proofs.Holds.{all_at}
use Rattle.roc_program.proofs.Rows.{read-map}
use Rattle.roc_plan_make.proofs.replies.place_at.Goals as goal

pub returns-then-group-bounds-clause-few : goal.returns-then-group-bounds-clause-few
returns-then-group-bounds-clause-few c =
    let P : List ℕ → Type 0 = λ row. length row ≤ 1024 in
    let short : P c.index-bounds-group.result.items =
    subst P (read-map (λ row. row.items) c.args.bounds.now c.args.group c.index-bounds-group.result [] c.if-group-bounds.true c.index-bounds-group.is)
    (all_at P (map (λ row. row.items) c.args.bounds.now) c.args.group [] c.requires (omega (arith, c.if-group-bounds.true, length-map c.args.bounds.now (λ row. row.items)))) in
    omega (arith, short, c.place_among.ensures.few, ap length c.deref.ensures.value)
