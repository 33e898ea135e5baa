use Rattle.std.proofs.Common.{◌≡◌, ◌+◌, ◌<◌, ◌==◌, ◌∷◌, suc, Bool, length, map, drop, sym, ap, ◌∙◌, arith}
use Rattle.std.proofs.Math.Seq.{drop-cons}
use Rattle.roc_program.specs.declared.parts.Init.{Init}
use Rattle.roc_plan.specs.Groups.{shard_of}
use Rattle.roc_program.specs.Program as program
use Rattle.roc_program.specs.Parts as pure
use Rattle.roc_server.proofs.FirstCells.{init_set, init_left}
use Rattle.roc_server.proofs.first.first_rows.Goals as goal
use Rattle.roc_server.proofs.first.first_rows.Goals.{then-is_here+in_ok-set_init, else-is_here}

pub loop-init-preserved : goal.loop-init-preserved
loop-init-preserved c =
    let items = c.inits-init-items.result.now in
    let i = c.loop-init.init-index in
    let x = pure.init c.init-item.result in
    let rest = map pure.init (drop (i + 1) items) in
    let within : i < length items = omega arith in
    let next : suc i ≡ i + 1 = omega arith in
    let left : map pure.init (drop i items) ≡ x ∷ rest = ap (map pure.init) (drop-cons items i c.init-item.result within) ∙ ap (λ (y : Init). pure.init y ∷ map pure.init (drop (suc i) items)) (sym c.init-item.is) ∙ ap (λ k. x ∷ map pure.init (drop k items)) next in
    let here : program.Init → Bool = λ l. shard_of c.args.plan.now l.place == c.args.shard.0 in
    elim c.if-is_here.branch [
      | then-is_here+in_ok-set_init w ↦
          init_set here c.loop-init.rows.store c.if-is_here.rows.store _ x rest (map pure.init (drop i items)) left c.loop-init.invariant (sym c.is_here.ensures ∙ w.if-is_here.true) (ap (λ r. r.store) w.rows-is ∙ w.in_ok-set_init.ensures)
      | else-is_here w ↦
          init_left here c.loop-init.rows.store c.if-is_here.rows.store _ x rest (map pure.init (drop i items)) left c.loop-init.invariant (sym c.is_here.ensures ∙ w.if-is_here.false) (ap (λ r. r.store) w.rows-is)
    ]
