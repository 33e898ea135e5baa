use Rattle.std.proofs.Common.{arith}
use Rattle.roc_server_taken.specs.Inner.Standing.{components_of}
use Rattle.roc_server_taken.proofs.LeftOpen.{from_all, from_next, left_is, left_on, left_same}
use Rattle.roc_server_taken.proofs.standing.Standing.forget.Goals as goal

pub loop-coord-init : goal.loop-coord-init
loop-coord-init c = record { left = left_same c.args.marks.now (components_of c.args.self.now) c.see.ensures; from = λ d has e. omega arith }

pub loop-coord-preserved : goal.loop-coord-preserved
loop-coord-preserved c =
    let below = c.args.marks.now in
    let old = components_of c.loop-coord.self in
    let new = components_of c.forget_under.new.self in
    record {
      left = left_on below (components_of c.args.self.now) old new c.loop-coord.invariant.left c.forget_under.ensures.left;
      from = from_next below c.loop-coord.coord old new c.forget_under.ensures.left c.loop-coord.invariant.from c.forget_under.ensures.none;
    }

pub returns-clause-left : goal.returns-clause-left
returns-clause-left c =
    let below = c.args.marks.now in
    let new = components_of c.loop-coord.self in
    left_is below (components_of c.args.self.now) new c.loop-coord.invariant.left (from_all below new c.loop-coord.coord (omega arith) c.loop-coord.invariant.from)
