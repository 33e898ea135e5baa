use Rattle.roc_server_taken.specs.Inner.Standing.{components_of}
use Rattle.roc_server_taken.proofs.LeftOpen.{left_on, left_same}
use Rattle.roc_server_taken.proofs.standing.Standing.forget_under.Goals as goal

pub loop-init : goal.loop-init
loop-init c = left_same c.args.marks.now (components_of c.args.self.now) c.see.ensures

pub loop-preserved : goal.loop-preserved
loop-preserved c =
    left_on c.args.marks.now (components_of c.args.self.now) (components_of c.loop.self) (components_of c.move_or_drop.new.self) c.loop.invariant c.move_or_drop.ensures.left

pub returns-clause-left : goal.returns-clause-left
returns-clause-left c =
    left_on c.args.marks.now (components_of c.args.self.now) (components_of c.loop.self) (components_of c.move_or_drop.new.self) c.loop.invariant c.move_or_drop.ensures.left
