-- One step more of a run, and what comes beside of it
use Rattle.std.proofs.Common.{ℕ, Bool, List, Option, subst}
use Rattle.roc_base.specs.declared.id.TxnId.{TxnId}
use Rattle.roc_plan.specs.Groups.{Plan}
use Rattle.roc_law_protocol.specs.declared.event.Event.{Event}
use Rattle.roc_law_world.specs.World.{World, Beginning}
use Rattle.roc_law_world.specs.Happens.{Outcome}
use Rattle.roc_law_world.specs.Run.{Stepped, Transition, IsRunFrom, steps_on}
use Rattle.roc_law_world.specs.Beside.{TellsViews}
use Rattle.roc_law_world.proofs.Besides.{Follows}
use Rattle.roc_law_world.proofs.Runs.{IsRunBeside, beside, grows}
use Rattle.roc_law_world.proofs.Steps.{follows, tells_before}
use Rattle.roc_law_world.proofs.WovenOrder.{is_view, tells_them}

module _ (plan : Plan) (b : Beginning) (coords : ℕ) (steps : List Stepped) (w : World) (run : IsRunFrom plan b coords steps w) (e : Option Event) (o : Outcome) (h : Transition plan w e o) where
  pub record IsOneMore : Type 0 where
    pub viewed : TxnId → Bool
    pub told : TellsViews plan viewed w.history
    pub there : IsRunBeside plan b coords viewed steps w
    pub goes : Follows plan viewed w there.world e o

  pub one_more : IsOneMore
  one_more =
      let last = steps_on e o run h in
      let v = is_view plan b coords _ o.world last in
      let after = tells_them plan b coords _ o.world last in
      let g = grows plan w e o h in
      let before = tells_before plan v w.history g.more (subst (TellsViews plan v) g.is after) in
      let x = beside plan b coords v steps w run before in
      record { viewed = v; told = before; there = x; goes = follows plan v w x.world x.holds e o after h }
