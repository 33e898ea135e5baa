use Rattle.std.proofs.Common.{Some, ap, ◌∙◌}
use Rattle.roc_base.specs.declared.id.TxnId.{TxnId}
use Rattle.roc_precedence.proofs.Back.{steps_listed, steps_unlisted}
use Rattle.roc_precedence.proofs.rounds.step_back.Goals.{in-Some+in_ok-visit, in_default}
use Rattle.roc_precedence.proofs.rounds.step_back.Goals as goal

pub loop-id-preserved : goal.loop-id-preserved
loop-id-preserved c =
    let none : TxnId = record { coord = 0; seq = 0 } in
    elim c.match-list.branch [
      | in-Some+in_ok-visit w ↦
          steps_listed c.args.lists.now c.args.level.now c.args.found.now.keys c.loop-id.found.keys c.loop-id.next.items w.visit.new.found.keys w.visit.new.todo.items
          c.match-list.found.keys c.match-list.next.items
          c.loop-id.id-index none w.as_slice.result.now c.loop-id-test.true (ap (λ v. v.keys) w.found-is) (ap (λ v. v.items) w.next-is) c.loop-id.invariant
          (ap Some w.as_slice.ensures.entries ∙ w.in-Some.ensures) w.in_ok-visit.ensures
      | in_default w ↦
          steps_unlisted c.args.lists.now c.args.level.now c.args.found.now.keys c.loop-id.found.keys c.loop-id.next.items c.match-list.found.keys c.match-list.next.items
          c.loop-id.id-index none c.loop-id-test.true (ap (λ v. v.keys) w.found-is) (ap (λ v. v.items) w.next-is) c.loop-id.invariant w.in_default.ensures
    ]
